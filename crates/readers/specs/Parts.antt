-- What the parts of a reader give, for all kinds of record. Assumes nothing.
use Rattle.std.specs.Prelude.{ℕ, Bool, cond, not, ◌&&◌, List, leb, eqb, get_or, Ok}
use Rattle.array.specs.Place.{position, inner_at, processor_at}
use Rattle.array.specs.Buffer.{nothing_at}
use Rattle.array.specs.Map.{dead_mark, faulty_mark}
use Rattle.formats.specs.Number.{number_at, Number}
use Rattle.formats.specs.Records.{healthy_mark}
use Rattle.formats.specs.declared.Kind.{Kind}
use Rattle.formats.specs.declared.Kind.TheVariants.{Map, Plan}
use Rattle.formats.specs.declared.Record.{Record}
use Rattle.formats.specs.declared.Record.TheVariants.{Fault, Dead, Path}
use Rattle.readers.specs.Reading.{no_record, mark_in_order, Step}

-- what a blank buffer holds at a position
abbrev pub blank_mark : Kind → ℕ → ℕ → ℕ → ℕ
blank_mark Map n m p = healthy_mark n m p
blank_mark Plan n m p = nothing_at p

-- where a record may stand, and the number that refuses it elsewhere
abbrev pub stands_at : Record → ℕ → ℕ → ℕ → ℕ → Bool
stands_at Fault n m x y = processor_at n m x y
stands_at Dead n m x y = inner_at n m x y
stands_at Path n m x y = inner_at n m x y

abbrev pub off_number : Record → ℕ
off_number Fault = 10
off_number Dead = 20
off_number Path = 10

-- an element that a record repeats: a fault of either list, or a direction
abbrev pub repeated : Record → ℕ → Bool
repeated Fault mark = faulty_mark mark
repeated Dead mark = faulty_mark mark
repeated Path d = not (eqb d 0)

-- what a record writes: a mark, which is not in the file, or a path's direction, which follows its column
abbrev pub value_at : Record → List ℕ → ℕ → Number
value_at Fault s at = Ok (1, at)
value_at Dead s at = Ok (3, at)
value_at Path s at = number_at s at

-- what a record may write: the mark of its kind, or one of the four directions
abbrev pub is_value : Record → ℕ → Bool
is_value Fault v = eqb v 1
is_value Dead v = dead_mark v
is_value Path v = leb 1 v && leb v 4

-- a record (x, y) that writes v, judged and marked
abbrev pub marked : Record → ℕ → ℕ → ℕ → ℕ → ℕ → ℕ → ℕ → ℕ → List ℕ → Step × List ℕ
marked kind n m at before x y v next b =
    cond (stands_at kind n m x y)
    (cond (repeated kind (get_or b (position x y) 0)) (no_record 11 at b)
    (cond (is_value kind v) (mark_in_order at before (position x y) v next b) (no_record 13 at b)))
    (no_record (off_number kind) at b)
