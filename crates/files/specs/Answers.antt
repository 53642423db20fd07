-- Document 01: a definition gives the number and the values of each case of an answer. These lose nothing of the answers of the file
-- operations. The statements.
-- Assumes nothing.
use Rattle.array.specs.Tests.{LosesNothing}
use Rattle.formats.specs.Number as number
use Rattle.readers.specs.Reading as reading
use Rattle.writers.specs.Writing as writing

pub record AnswersKept : Type 0 where
  pub of_number : LosesNothing number.told
  pub of_reader : LosesNothing reading.told
  pub of_map_reader : LosesNothing reading.told_map
  pub of_writer : LosesNothing writing.told
