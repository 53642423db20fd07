-- Document 01, "Files" and "Numbers returned", and document 02, T-01, T-04 and T-06: what a reader answers, and the
-- lent buffer afterwards. Assumes nothing.
use Rattle.std.specs.Prelude.{ℕ, zero, suc, ◌+◌, cond, ◌&&◌, List, [], ◌∷◌, ltb, leb, eqb, length, get_or, set, Result, Ok, Err}
use Rattle.array.specs.Place.{position, inner_at, processor_at}
use Rattle.array.specs.Tests.{refusal, Told, accepts, refuses_as}
use Rattle.array.specs.declared.Refusal.{Refusal}
use Rattle.array.specs.Buffer.{long}
use Rattle.array.specs.Map.{faulty}
use Rattle.formats.specs.Number.{number_at, size_at, read_or}
use Rattle.formats.specs.Records.{blank, first_list}
use Rattle.formats.specs.declared.Kind.{Kind}
use Rattle.formats.specs.declared.Kind.TheVariants.{Map, Plan}
use Rattle.formats.specs.declared.Record.{Record}
use Rattle.formats.specs.declared.Record.TheVariants.{Fault, Dead, Path}
use Rattle.readers.specs.declared.Head.{Head}

-- what reading a record answers: the offset after it and its position, or the refusal
abbrev pub Step : Type 0
Step = Result (ℕ × ℕ) Refusal

-- T-06. What the reader of plan files answers: N, M and the count, with T, or the refusal. The parts of the readers answer
-- so for both kinds of file: a map has no T, and 0 stands for it.
abbrev pub FileRead : Type 0
FileRead = Result (Head × ℕ) Refusal

-- what the reader of map files answers
abbrev pub MapRead : Type 0
MapRead = Result Head Refusal

-- T-06. Of a plan: N, M, the count and T, or the refusal.
abbrev pub told : FileRead → Told
told (Ok (h, t)) = accepts (h.rows ∷ h.columns ∷ h.count ∷ t ∷ [])
told (Err r) = refuses_as r

-- of a map: N, M and the count, or the refusal
abbrev pub told_map : MapRead → Told
told_map (Ok h) = accepts (h.rows ∷ h.columns ∷ h.count ∷ [])
told_map (Err r) = refuses_as r

-- a record's refusal, with the buffer as it was; place is the record's row
abbrev pub no_record : ℕ → ℕ → List ℕ → Step × List ℕ
no_record k at b = (Err (refusal k at 0), b)

-- T-01. 19: position p is lower than that of the record before. At the first record `before` is 0, and no position is
-- lower. Else v is marked at p.
abbrev pub mark_in_order : ℕ → ℕ → ℕ → ℕ → ℕ → List ℕ → Step × List ℕ
mark_in_order at before p v next b = cond (ltb p before) (no_record 19 at b) (Ok (next, p), set b p v)

-- A fault (x, y) is marked in a grid. 10: there is no processor. 11: the position is marked already. Then 19.
abbrev pub mark_fault : ℕ → ℕ → ℕ → ℕ → ℕ → ℕ → ℕ → List ℕ → Step × List ℕ
mark_fault n m at before x y next grid =
    cond (processor_at n m x y)
    (cond (faulty grid (position x y)) (no_record 11 at grid) (mark_in_order at before (position x y) 1 next grid))
    (no_record 10 at grid)

-- T-04. A dead processor (x, y) is marked in a grid. 20: it is not inner. 11: the position is marked already, by either
-- list. Then 19.
abbrev pub mark_dead : ℕ → ℕ → ℕ → ℕ → ℕ → ℕ → ℕ → List ℕ → Step × List ℕ
mark_dead n m at before x y next grid =
    cond (inner_at n m x y)
    (cond (faulty grid (position x y)) (no_record 11 at grid) (mark_in_order at before (position x y) 3 next grid))
    (no_record 20 at grid)

-- The path of direction d from (x, y) is marked among the directions. 10: it starts off the inner positions. 11: that
-- position has one already. 13: d is none of the four directions. Then 19.
abbrev pub mark_path : ℕ → ℕ → ℕ → ℕ → ℕ → ℕ → ℕ → ℕ → List ℕ → Step × List ℕ
mark_path n m at before x y d next directions =
    cond (inner_at n m x y)
    (cond (eqb (get_or directions (position x y) 0) 0)
    (cond (leb 1 d && leb d 4) (mark_in_order at before (position x y) d next directions) (no_record 13 at directions))
    (no_record 11 at directions))
    (no_record 10 at directions)

-- the row and the column at an offset, and what follows them, given the offset after them
abbrev pub place_at : List ℕ → ℕ → List ℕ → (ℕ → ℕ → ℕ → Step × List ℕ) → Step × List ℕ
place_at s at b f =
    read_or (number_at s at)
    (λ x a. read_or (number_at s a) (λ y next. f x y next) (λ r. (Err r, b)))
    (λ r. (Err r, b))

-- the record at an offset, judged once all its numbers are read; `before` is the position of the record before it, or 0
unfoldable pub record_at : Record → List ℕ → ℕ → ℕ → ℕ → ℕ → List ℕ → Step × List ℕ
record_at Fault s n m at before grid = place_at s at grid (λ x y next. mark_fault n m at before x y next grid)
record_at Dead s n m at before grid = place_at s at grid (λ x y next. mark_dead n m at before x y next grid)
record_at Path s n m at before directions =
    place_at s at directions
    (λ x y a.
    read_or (number_at s a)
    (λ d next. mark_path n m at before x y d next directions)
    (λ r. (Err r, directions)))

-- a record's answer with the buffer being filled, and what follows it, given the next offset and the record's position
abbrev pub and_then : Step × List ℕ → (ℕ → ℕ → List ℕ → Step × List ℕ) → Step × List ℕ
and_then (Ok (at, p), b) f = f at p b
and_then (Err r, b) f = (Err r, b)

-- k records from an offset on, after a record of position `before`
unfoldable pub records_at : Record → List ℕ → ℕ → ℕ → ℕ → ℕ → ℕ → List ℕ → Step × List ℕ
records_at kind s n m zero at before b = (Ok (at, before), b)
records_at kind s n m (suc k) at before b =
    and_then (record_at kind s n m at before b) (λ next p c. records_at kind s n m k next p c)

-- 12: the file goes on after its last part, from the place on. T is t. A refusal leaves the lent buffer as it was.
abbrev pub whole_file : List ℕ → Head → ℕ → List ℕ → Step × List ℕ → FileRead × List ℕ
whole_file s head t lent (Ok (at, p), b) = cond (ltb at (length s)) (Err (refusal 12 at 0), lent) (Ok (head, t), b)
whole_file s head t lent (Err r, b) = (Err r, lent)

-- k records of dead processors from an offset on, into a grid, and then the end of the file
abbrev pub dead_at : List ℕ → Head → List ℕ → ℕ → ℕ → List ℕ → FileRead × List ℕ
dead_at s head lent k at grid = whole_file s head 0 lent (records_at Dead s head.rows head.columns k at 0 grid)

-- T-04. What follows the first list of a map: the file ends, or goes on with a second count and the places of the dead
-- processors. A second count of 0 is 12 at its start. The count that is returned is of both lists.
abbrev pub second_at : List ℕ → Head → List ℕ → Step × List ℕ → FileRead × List ℕ
second_at s head lent (Ok (at, p), grid) =
    cond (ltb at (length s))
    (read_or (number_at s at)
    (λ k a.
    cond (eqb k 0) (Err (refusal 12 at 0), lent)
    (dead_at s (record { rows = head.rows; columns = head.columns; count = head.count + k }) lent k a grid))
    (λ r. (Err r, lent)))
    (Ok (head, 0), grid)
second_at s head lent (Err r, b) = (Err r, lent)

-- T-06. What follows the paths of a plan: T, the trials on record, and the end of the file.
abbrev pub trials_at : List ℕ → Head → List ℕ → Step × List ℕ → FileRead × List ℕ
trials_at s head lent (Ok (at, p), b) =
    read_or (number_at s at) (λ t end. whole_file s head t lent (Ok (end, p), b)) (λ r. (Err r, lent))
trials_at s head lent (Err r, b) = (Err r, lent)

-- what follows the first list of a file
abbrev pub rest_at : Kind → List ℕ → Head → List ℕ → Step × List ℕ → FileRead × List ℕ
rest_at Map s head lent x = second_at s head lent x
rest_at Plan s head lent x = trials_at s head lent x

-- what follows N, M and the count: the records, into a blank buffer, then the rest of the file
abbrev pub body_at : Kind → List ℕ → Head → List ℕ → ℕ → FileRead × List ℕ
body_at kind s head lent at =
    rest_at kind s head lent
    (records_at (first_list kind) s head.rows head.columns head.count at 0 (blank kind head.rows head.columns))

-- what a reader answers, with the lent buffer afterwards: 2 first, then the file in its own order
unfoldable pub read_file : Kind → List ℕ → List ℕ → FileRead × List ℕ
read_file kind s lent =
    cond (long lent)
    (read_or (size_at s 0)
    (λ n a.
    read_or (size_at s a)
    (λ m b.
    read_or (number_at s b)
    (λ k c. body_at kind s (record { rows = n; columns = m; count = k }) lent c)
    (λ r. (Err r, lent)))
    (λ r. (Err r, lent)))
    (λ r. (Err r, lent)))
    (Err (refusal 2 0 0), lent)

-- what read_map and read_plan answer: a map has no T
abbrev pub map_of : FileRead → MapRead
map_of (Ok (h, t)) = Ok h
map_of (Err r) = Err r

abbrev pub read_map : List ℕ → List ℕ → MapRead × List ℕ
read_map s grid = (map_of (read_file Map s grid).0, (read_file Map s grid).1)

abbrev pub read_plan : List ℕ → List ℕ → FileRead × List ℕ
read_plan s directions = read_file Plan s directions
