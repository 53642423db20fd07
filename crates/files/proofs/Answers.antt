-- The definitions of what an answer tells lose nothing.
-- Assumes nothing.
use Rattle.formats.proofs.Answers.{number_kept}
use Rattle.readers.proofs.Answers.{read_kept, map_kept}
use Rattle.writers.proofs.Answers.{written_kept}
use Rattle.files.specs.Answers.{AnswersKept}

pub answers_kept : AnswersKept
answers_kept = record { of_number = number_kept; of_reader = read_kept; of_map_reader = map_kept; of_writer = written_kept }
