-- Document 01, "Files", and document 02, T-04 and T-06: what the two kinds of file hold. Both begin with N and M. A map has
-- a list of its faults, by row and column, and a second one of its dead processors; a plan has a list of its paths, by row,
-- column and direction, and then T, the trials on record. Each list begins with its count. Assumes nothing.
use Rattle.std.specs.Prelude.{ℕ, suc, ◌+◌, Bool, cond, not, List, [], ◌∷◌, ◌++◌, eqb, length}
use Rattle.array.specs.Place.{row, column, processor}
use Rattle.array.specs.Buffer.{buffer, zeros, positions_in}
use Rattle.array.specs.Map.{dead_mark}
use Rattle.formats.specs.Number.{bytes_of}
use Rattle.formats.specs.declared.Kind.{Kind}
use Rattle.formats.specs.declared.Kind.TheVariants.{Map, Plan}
use Rattle.formats.specs.declared.Record.{Record}
use Rattle.formats.specs.declared.Record.TheVariants.{Fault, Dead, Path}

-- the buffer that a file with no record stands for: the grid of an array whose processors are all healthy, or no direction
abbrev pub healthy_mark : ℕ → ℕ → ℕ → ℕ
healthy_mark n m p = cond (processor n m p) 0 2

unfoldable pub healthy_grid : ℕ → ℕ → List ℕ
healthy_grid n m = buffer (healthy_mark n m)

abbrev pub blank : Kind → ℕ → ℕ → List ℕ
blank Map n m = healthy_grid n m
blank Plan n m = zeros

-- an element that has a record: a fault that is not dead, spare or inner; a dead processor; a direction
abbrev pub recorded : Record → ℕ → ℕ → Bool
recorded Fault p mark = eqb mark 1
recorded Dead p mark = dead_mark mark
recorded Path p d = not (eqb d 0)

-- the bytes of a record
abbrev pub record_bytes : Record → ℕ → ℕ → List ℕ
record_bytes Fault p mark = bytes_of (row p) ++ bytes_of (column p)
record_bytes Dead p mark = bytes_of (row p) ++ bytes_of (column p)
record_bytes Path p d = bytes_of (row p) ++ (bytes_of (column p) ++ bytes_of d)

-- the records of a buffer's elements at the positions from i on, in row order
unfoldable pub records_along : (ℕ → ℕ → Bool) → (ℕ → ℕ → List ℕ) → ℕ → List ℕ → List ℕ
records_along has bytes i [] = []
records_along has bytes i (x ∷ xs) =
    cond (has i x) (bytes i x ++ records_along has bytes (suc i) xs) (records_along has bytes (suc i) xs)

-- how many records of a kind a buffer has
unfoldable pub record_count : Record → List ℕ → ℕ
record_count kind b = length (positions_in (recorded kind) b)

-- the bytes of a list: the count and the records
abbrev pub list_bytes : Record → List ℕ → List ℕ
list_bytes kind b = bytes_of (record_count kind b) ++ records_along (recorded kind) (record_bytes kind) 0 b

-- the records of a file's first list
abbrev pub first_list : Kind → Record
first_list Map = Fault
first_list Plan = Path

-- What follows the first list. T-04: of a map the second list, which is there only if there is a dead processor. T-06: of
-- a plan T, which is t.
abbrev pub rest_bytes : Kind → List ℕ → ℕ → List ℕ
rest_bytes Map grid t = cond (eqb (record_count Dead grid) 0) [] (list_bytes Dead grid)
rest_bytes Plan directions t = bytes_of t

-- the bytes of a whole file: N, M, the first list and the rest
unfoldable pub file_bytes : Kind → ℕ → ℕ → List ℕ → ℕ → List ℕ
file_bytes kind n m b t = bytes_of n ++ (bytes_of m ++ (list_bytes (first_list kind) b ++ rest_bytes kind b t))

-- the count that its reader returns; T-04: that of a map covers both lists
abbrev pub file_count : Kind → List ℕ → ℕ
file_count Map grid = record_count Fault grid + record_count Dead grid
file_count Plan directions = record_count Path directions

-- T-06: the trials that its reader returns: those of a plan; a map has none, and 0 stands for them
abbrev pub file_trials : Kind → ℕ → ℕ
file_trials Map t = 0
file_trials Plan t = t
