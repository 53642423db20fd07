-- Document 02, T-01, whose purpose is that two probings of a wafer can be compared, and T-06: each map, and each plan with
-- its T, has one file.
-- The statements.
-- Assumes nothing.
use Rattle.std.specs.Prelude.{ℕ, ◌<◌, ◌≤◌, ◌≡◌, List, ◌++◌, length, drop, Ok}
use Rattle.formats.specs.Number.{Bytes, number_at, bytes_of}
use Rattle.formats.specs.Records.{file_bytes}
use Rattle.formats.specs.declared.Kind.{Kind}
use Rattle.readers.specs.Reading.{read_file, read_map}
use Rattle.readers.specs.declared.Head.{Head}
use Rattle.writers.specs.Writing.{write_file}

pub record Canonical : Type 0 where
  -- a file that a reader accepts is byte for byte the file of what was read; T is t, which only the file of a plan has
  pub own_bytes : (kind : Kind) (s lent b : List ℕ) (head : Head) (t : ℕ) → Bytes s → read_file kind s lent ≡ (Ok (head, t), b)
      → file_bytes kind head.rows head.columns b t ≡ s
  -- so its writer writes it again, wherever there is room
  pub written_again : (kind : Kind) (s lent b out : List ℕ) (head : Head) (t : ℕ) → Bytes s
      → read_file kind s lent ≡ (Ok (head, t), b) → length s ≤ length out
      → write_file kind head.rows head.columns b t out ≡ (Ok (length s), s ++ drop (length s) out)
  -- and no other file is read as the same N, M and T and the same grid or directions
  pub no_other : (kind : Kind) (s r lent loan b : List ℕ) (head other : Head) (t : ℕ) → Bytes s → Bytes r
      → read_file kind s lent ≡ (Ok (head, t), b) → read_file kind r loan ≡ (Ok (other, t), b)
      → head.rows ≡ other.rows → head.columns ≡ other.columns → s ≡ r
  -- of the reader of maps, which answers without T: no other file is read as the same N and M and the same grid
  pub no_other_map : (s r lent loan grid : List ℕ) (head second : Head) → Bytes s → Bytes r
      → read_map s lent ≡ (Ok head, grid) → read_map r loan ≡ (Ok second, grid)
      → head.rows ≡ second.rows → head.columns ≡ second.columns → s ≡ r
  -- a number that is read stands in the file with its own bytes, and is at most 2,097,151
  pub number_bytes : (s : List ℕ) (at v next : ℕ) → Bytes s → number_at s at ≡ Ok (v, next)
      → (drop at s ≡ bytes_of v ++ drop next s) × (v < 2097152)
  -- what is read of it does not depend on what the lent buffer held
  pub any_loan : (kind : Kind) (s lent loan b : List ℕ) (head : Head) (t : ℕ) → length loan ≡ 1024
      → read_file kind s lent ≡ (Ok (head, t), b) → read_file kind s loan ≡ (Ok (head, t), b)
