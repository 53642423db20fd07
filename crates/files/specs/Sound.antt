-- Demand 2, the other way round: what a reader accepts is fit to be written and to be planned. The statement.
-- Assumes nothing.
use Rattle.std.specs.Prelude.{ℕ, ◌≡◌, List, Ok}
use Rattle.formats.specs.Number.{Bytes}
use Rattle.formats.specs.Records.{file_count}
use Rattle.formats.specs.declared.Kind.{Kind}
use Rattle.readers.specs.Reading.{read_file}
use Rattle.readers.specs.declared.Head.{Head}
use Rattle.writers.specs.Writing.{buffer_test, trials_test}

pub record ReadsSound (kind : Kind) (s b : List ℕ) (head : Head) (t : ℕ) : Type 0 where
  -- the buffer passes the tests of its writer with the N and M that were read; for a map these are the tests of a well-formed map
  pub fit : buffer_test kind head.rows head.columns b ≡ Ok tt
  -- the count that was read is that of the buffer's faults, dead or not, or paths
  pub counted : file_count kind b ≡ head.count
  -- T is one that its writer takes
  pub trials_fit : Bytes s → trials_test kind t ≡ Ok tt

abbrev pub SoundReading : Type 0
SoundReading =
    (kind : Kind) (s lent b : List ℕ) (head : Head) (t : ℕ) → read_file kind s lent ≡ (Ok (head, t), b)
    → ReadsSound kind s b head t
