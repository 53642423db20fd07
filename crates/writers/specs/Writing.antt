-- Document 01, "Files" and "Numbers returned", and document 02, T-06: what a writer answers, and the file buffer
-- afterwards.
-- Assumes nothing.
use Rattle.std.specs.Prelude.{ℕ, not, ◌&&◌, ◌||◌, List, [], ◌∷◌, ◌++◌, ltb, eqb, length, drop, Result, Ok, Err}
use Rattle.array.specs.Place.{inner}
use Rattle.array.specs.Tests.{or_else, refuse_if, first_in, Told, accepts, refuses_as}
use Rattle.array.specs.Buffer.{all_long}
use Rattle.array.specs.Map.{size_test, length_test, map_test}
use Rattle.array.specs.declared.Refusal.{Refusal}
use Rattle.array.specs.Tests.{Verdict}
use Rattle.formats.specs.Records.{file_bytes}
use Rattle.formats.specs.declared.Kind.{Kind}
use Rattle.formats.specs.declared.Kind.TheVariants.{Map, Plan}

-- what a writer answers: the length of the file, or the refusal
abbrev pub FileWritten : Type 0
FileWritten = Result ℕ Refusal

-- the length, or the refusal
abbrev pub told : FileWritten → Told
told (Ok k) = accepts (k ∷ [])
told (Err r) = refuses_as r

-- 4 of a plan, for which there is no grid: a number above the four directions, or other than 0 where no inner processor is
abbrev pub path_test : ℕ → ℕ → ℕ → ℕ → Verdict
path_test n m p d = refuse_if (ltb 4 d || (not (inner n m p) && not (eqb d 0))) 4 p 0

-- 1 to 3 of a map; 1, 2 and 4 of a plan
unfoldable pub buffer_test : Kind → ℕ → ℕ → List ℕ → Verdict
buffer_test Map n m grid = map_test n m (grid ∷ []) grid
buffer_test Plan n m directions =
    or_else (size_test n m) (or_else (length_test (all_long (directions ∷ []))) (first_in (path_test n m) directions))

-- T-06. 21: the trials to be written exceed the highest number of a file. A map has none.
abbrev pub trials_test : Kind → ℕ → Verdict
trials_test Map t = (Ok tt)
trials_test Plan t = refuse_if (ltb 2097151 t) 21 0 0

-- 14: no room for the file; the place is its length
abbrev pub room_test : List ℕ → List ℕ → Verdict
room_test bytes out = refuse_if (ltb (length out) (length bytes)) 14 (length bytes) 0

-- a writer returns the length and keeps the bytes after it; a refusal leaves the file buffer as it was
abbrev pub put : Verdict → List ℕ → List ℕ → FileWritten × List ℕ
put (Ok tt) bytes out = (Ok (length bytes), bytes ++ drop (length bytes) out)
put (Err r) bytes out = (Err r, out)

-- what a writer answers, with the file buffer afterwards; t is T, which only a plan has
unfoldable pub write_file : Kind → ℕ → ℕ → List ℕ → ℕ → List ℕ → FileWritten × List ℕ
write_file kind n m b t out =
    put (or_else (buffer_test kind n m b) (or_else (trials_test kind t) (room_test (file_bytes kind n m b t) out)))
    (file_bytes kind n m b t) out

-- what write_map and write_plan answer
abbrev pub write_map : ℕ → ℕ → List ℕ → List ℕ → FileWritten × List ℕ
write_map n m grid out = write_file Map n m grid 0 out

abbrev pub write_plan : ℕ → ℕ → List ℕ → ℕ → List ℕ → FileWritten × List ℕ
write_plan n m directions t out = write_file Plan n m directions t out
