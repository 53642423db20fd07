-- Document 01, "The array" and "Numbers returned", and document 02, T-04: grid marks, and the tests 1, 2 and 3 of a fault
-- map. Assumes nothing.
use Rattle.std.specs.Prelude.{ℕ, Bool, cond, not, ◌&&◌, ◌||◌, List, [], ◌∷◌, leb, eqb, get_or}
use Rattle.array.specs.Place.{size, row, column, inner_at, inner, processor_at}
use Rattle.array.specs.Tests.{Verdict, or_else, refuse_if, first_in}
use Rattle.array.specs.Buffer.{all_long}

-- document 02's "dead processor" (T-04): a fault that cannot be made a connecting element
abbrev pub dead_mark : ℕ → Bool
dead_mark mark = eqb mark 3

-- the marks that count as faulty
unfoldable pub faulty_mark : ℕ → Bool
faulty_mark mark = eqb mark 1 || dead_mark mark

-- 0 healthy, 1 faulty, 2 no processor, 3 dead; nothing stands beyond the buffer
abbrev pub mark_at : List ℕ → ℕ → ℕ
mark_at grid p = get_or grid p 2

abbrev pub healthy : List ℕ → ℕ → Bool
healthy grid p = eqb (mark_at grid p) 0

abbrev pub faulty : List ℕ → ℕ → Bool
faulty grid p = faulty_mark (mark_at grid p)

abbrev pub dead : List ℕ → ℕ → Bool
dead grid p = dead_mark (mark_at grid p)

-- the marks that a position allows: 0, 1 or 3 at an inner processor, 0 or 1 at a spare, 2 elsewhere
abbrev pub allowed_at : ℕ → ℕ → ℕ → ℕ → ℕ → Bool
allowed_at n m x y mark =
    cond (inner_at n m x y) (leb mark 1 || dead_mark mark) (cond (processor_at n m x y) (leb mark 1) (eqb mark 2))

abbrev pub allowed : ℕ → ℕ → ℕ → ℕ → Bool
allowed n m p mark = allowed_at n m (row p) (column p) mark

-- 1: N or M is no size; place 0
abbrev pub size_test : ℕ → ℕ → Verdict
size_test n m = refuse_if (not (size n && size m)) 1 0 0

-- 2: a lent buffer has another length; place 0. `right` says that none has.
abbrev pub length_test : Bool → Verdict
length_test right = refuse_if (not right) 2 0 0

-- 3: a mark that is not allowed where it stands; the lowest such position
abbrev pub mark_test : ℕ → ℕ → ℕ → ℕ → Verdict
mark_test n m p mark = refuse_if (not (allowed n m p mark)) 3 p 0

abbrev pub marks_test : ℕ → ℕ → List ℕ → Verdict
marks_test n m grid = first_in (mark_test n m) grid

-- 1 to 3
unfoldable pub map_tests : ℕ → ℕ → Bool → List ℕ → Verdict
map_tests n m right grid = or_else (size_test n m) (or_else (length_test right) (marks_test n m grid))

-- the same of a call that is lent these buffers, the grid among them
abbrev pub map_test : ℕ → ℕ → List (List ℕ) → List ℕ → Verdict
map_test n m lent grid = map_tests n m (all_long lent) grid

-- document 01's "well-formed": 1 to 3 do not apply to N, M and the grid
abbrev pub well_formed : ℕ → ℕ → List ℕ → Verdict
well_formed n m grid = map_test n m (grid ∷ []) grid

-- an inner fault: at p, by its mark, and in a grid
abbrev pub inner_faulty : ℕ → ℕ → ℕ → ℕ → Bool
inner_faulty n m p mark = inner n m p && faulty_mark mark

abbrev pub inner_fault : ℕ → ℕ → List ℕ → ℕ → Bool
inner_fault n m grid p = inner_faulty n m p (mark_at grid p)
