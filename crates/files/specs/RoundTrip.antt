-- Demand 2, and document 02, T-06: what a writer has written, its reader reads back: maps, plans with their T, and numbers.
-- The statements.
-- Assumes nothing.
use Rattle.std.specs.Prelude.{ℕ, ◌<◌, ◌≤◌, ◌≡◌, List, ◌++◌, length, take, Ok}
use Rattle.formats.specs.Number.{number_at, bytes_of}
use Rattle.formats.specs.Records.{file_bytes, file_count, file_trials}
use Rattle.formats.specs.declared.Kind.{Kind}
use Rattle.formats.specs.declared.Kind.TheVariants.{Map}
use Rattle.readers.specs.Reading.{read_file, read_map}
use Rattle.writers.specs.Writing.{buffer_test, trials_test, write_file, write_map}

pub record RoundTrip : Type 0 where
  -- a number of at most 2,097,151, wherever it stands in a file
  pub number_unchanged : (v : ℕ) (before after : List ℕ) → v < 2097152
      → number_at (before ++ (bytes_of v ++ after)) (length before) ≡ Ok (v, length (before ++ bytes_of v))
  -- a writer accepts whatever passes the tests of its buffer and of T, which is t, where the file buffer has room
  pub file_written : (kind : Kind) (n m t : ℕ) (b out : List ℕ) → buffer_test kind n m b ≡ Ok tt → trials_test kind t ≡ Ok tt
      → length (file_bytes kind n m b t) ≤ length out
      → (write_file kind n m b t out).0 ≡ Ok (length (file_bytes kind n m b t))
  -- Where the writer accepts and returns k, the first k bytes of the file buffer are read, over any lent buffer of 1,024 elements, as the
  -- same N and M, the count of what was written, the same T of a plan, and the same grid or directions.
  pub file_unchanged : (kind : Kind) (n m t k : ℕ) (b out lent : List ℕ) → length lent ≡ 1024
      → (write_file kind n m b t out).0 ≡ Ok k
      → read_file kind (take k (write_file kind n m b t out).1) lent
      ≡ (Ok (record { rows = n; columns = m; count = file_count kind b }, file_trials kind t), b)
  -- the same of the reader of maps, which answers without T
  pub map_unchanged : (n m k : ℕ) (grid out lent : List ℕ) → length lent ≡ 1024 → (write_map n m grid out).0 ≡ Ok k
      → read_map (take k (write_map n m grid out).1) lent
      ≡ (Ok (record { rows = n; columns = m; count = file_count Map grid }), grid)
