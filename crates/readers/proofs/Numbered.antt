-- The numbers of the readers, 1, 2, 8 to 13, 19 and 20, are those of the documents.
-- Assumes nothing.
use Prim.Native.Nat.{ℕ, zero, suc}
use mathlib.Core.List.{List, [], ◌∷◌}
use Rattle.array.specs.Tests.{Told, Numbered, accepts, refuses_as}
use Rattle.array.proofs.Numbered.{NumberedAs, numbers}
use Rattle.formats.specs.declared.Kind.{Kind}
use Rattle.formats.specs.declared.Kind.TheVariants.{Map, Plan}
use Rattle.formats.specs.declared.Record.{Record}
use Rattle.formats.specs.declared.Record.TheVariants.{Fault, Dead, Path}
use Rattle.formats.proofs.Numbered.{number_numbered, numbered_read, size_at_numbered}
use Rattle.readers.specs.Reading.{told, told_map, map_of, record_at, and_then, records_at, whole_file, rest_at, read_file, FileRead, Step}
use Rattle.readers.specs.declared.Head.{Head}
use Rattle.std.specs.Prelude.{Ok, Err}

abbrev step_told : Step × List ℕ → Told
step_told (Ok (at, p), b) = accepts (at ∷ p ∷ [])
step_told (Err r, b) = refuses_as r

abbrev file_told : FileRead × List ℕ → Told
file_told x = told x.0

record_numbered : (kind : Record) (s : List ℕ) (n m at before : ℕ) (b : List ℕ)
    → NumberedAs step_told (record_at kind s n m at before b)
unfolding record_at
record_numbered Fault s n m at before b = search (numbers, numbered_read, number_numbered) depth 9
record_numbered Dead s n m at before b = search (numbers, numbered_read, number_numbered) depth 9
record_numbered Path s n m at before b = search (numbers, numbered_read, number_numbered) depth 9

numbered_then : (x : Step × List ℕ) {f : ℕ → ℕ → List ℕ → Step × List ℕ} → NumberedAs step_told x
    → ((at p : ℕ) (b : List ℕ) → NumberedAs step_told (f at p b)) → NumberedAs step_told (and_then x f)
numbered_then (Ok (at, p), b) h g = g at p b
numbered_then (Err r, b) h g = h

records_numbered : (kind : Record) (s : List ℕ) (n m k at before : ℕ) (b : List ℕ)
    → NumberedAs step_told (records_at kind s n m k at before b)
unfolding records_at
records_numbered kind s n m zero at before b = search numbers
records_numbered kind s n m (suc k) at before b =
    numbered_then (record_at kind s n m at before b) (record_numbered kind s n m at before b)
    (λ next p d. records_numbered kind s n m k next p d)

numbered_whole : (s : List ℕ) (head : Head) (t : ℕ) (lent : List ℕ) (x : Step × List ℕ) → NumberedAs step_told x
    → NumberedAs file_told (whole_file s head t lent x)
numbered_whole s head t lent (Ok (at, p), b) h = search numbers
numbered_whole s head t lent (Err r, b) h = record { numbered = h.numbered }

numbered_rest : (kind : Kind) (s : List ℕ) (head : Head) (lent : List ℕ) (x : Step × List ℕ) → NumberedAs step_told x
    → NumberedAs file_told (rest_at kind s head lent x)
numbered_rest Map s head lent (Ok (at, p), b) h =
    search (numbers, numbered_read, number_numbered, numbered_whole, records_numbered) depth 9
numbered_rest Map s head lent (Err r, b) h = record { numbered = h.numbered }
numbered_rest Plan s head lent (Ok (at, p), b) h = search (numbers, numbered_read, number_numbered) depth 9
numbered_rest Plan s head lent (Err r, b) h = record { numbered = h.numbered }

pub file_numbered : (kind : Kind) (s lent : List ℕ) → NumberedAs file_told (read_file kind s lent)
unfolding read_file
file_numbered kind s lent =
    search (numbers, numbered_read, number_numbered, size_at_numbered, numbered_rest, records_numbered) depth 9

-- of a map, whose answer is the same without T
pub map_numbered : (a : FileRead) → Numbered (told a) → Numbered (told_map (map_of a))
map_numbered (Ok (h, t)) e = tt
map_numbered (Err r) e = e
