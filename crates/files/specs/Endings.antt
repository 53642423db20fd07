-- Document 02, T-06: how a plan file ends. The statements.
-- Assumes nothing.
use Rattle.std.specs.Prelude.{ℕ, ◌≡◌, List, ◌∷◌, ◌++◌, length, Err, Ok}
use Rattle.array.specs.Tests.{refusal}
use Rattle.formats.specs.Number.{bytes_of}
use Rattle.formats.specs.Records.{list_bytes, file_bytes}
use Rattle.formats.specs.declared.Kind.TheVariants.{Plan}
use Rattle.formats.specs.declared.Record.TheVariants.{Path}
use Rattle.readers.specs.Reading.{read_plan}
use Rattle.writers.specs.Writing.{buffer_test, trials_test}

-- the bytes of a plan file up to T
abbrev pub up_to_trials : ℕ → ℕ → List ℕ → List ℕ
up_to_trials n m directions = bytes_of n ++ (bytes_of m ++ list_bytes Path directions)

pub record PlanEndings : Type 0 where
  -- a plan file without T is 8, at its length
  pub without_trials : (n m : ℕ) (b lent : List ℕ) → buffer_test Plan n m b ≡ Ok tt → length lent ≡ 1024
      → read_plan (up_to_trials n m b) lent ≡ (Err (refusal 8 (length (up_to_trials n m b)) 0), lent)
  -- bytes after T are 12, at the first of them
  pub after_trials : (n m t x : ℕ) (xs b lent : List ℕ) → buffer_test Plan n m b ≡ Ok tt → trials_test Plan t ≡ Ok tt
      → length lent ≡ 1024
      → read_plan (file_bytes Plan n m b t ++ (x ∷ xs)) lent ≡ (Err (refusal 12 (length (file_bytes Plan n m b t)) 0), lent)
