-- Document 02, T-05: the quick planner. Outer faults are settled ("peeled") one after the other, and the rest is searched
-- by the trial rule with the settled paths kept. Assumes nothing.
use Rattle.std.specs.Prelude.{ℕ, zero, suc, Bool, true, false, cond, ◌&&◌, List, [], ◌∷◌, leb, eqb, length}
use Rattle.array.specs.Place.{row, column}
use Rattle.array.specs.Buffer.{positions_in}
use Rattle.array.specs.Map.{inner_faulty}
use Rattle.paths.specs.Path.{by_direction, is_open}
use Rattle.plans.specs.Faults.{faults, fault}
use Rattle.plans.specs.declared.Fault.{Fault}
use Rattle.trials.specs.Trials.{Search}
use Rattle.trials.specs.Search.{searched, direction_of}

-- p lies at least as far out on the side d as q: south, its row is not smaller than q's; north, not larger; east, its
-- column is not smaller; west, not larger
abbrev pub as_far_out : ℕ → ℕ → ℕ → Bool
as_far_out d p q =
    by_direction d (leb (row q) (row p)) (leb (row p) (row q)) (leb (column q) (column p)) (leb (column p) (column q)) false

-- as each of these: p is in the smallest column of all (west), the largest (east), the smallest row (north) or the
-- largest (south)
abbrev pub outermost : ℕ → ℕ → List ℕ → Bool
outermost d p [] = true
outermost d p (q ∷ qs) = as_far_out d p q && outermost d p qs

-- what is settled next: the fault at a position, with its direction; or nothing
pub data Pick : Type 0 where
  settles : ℕ → ℕ → Pick
  stops : Pick

-- the first of ps that lies outermost of the faults left on the side d and whose path there is open; else what the sides
-- after it say
unfoldable pub pick_along : (ℕ → ℕ → Bool) → List ℕ → ℕ → List ℕ → Pick → Pick
pick_along opens left d [] others = others
pick_along opens left d (p ∷ ps) others =
    cond (outermost d p left && opens p d) (settles p d) (pick_along opens left d ps others)

-- west, east, north, south, each by ascending positions
abbrev pub pick : (ℕ → ℕ → Bool) → List ℕ → Pick
pick opens left =
    pick_along opens left 4 left
    (pick_along opens left 3 left (pick_along opens left 2 left (pick_along opens left 1 left stops)))

-- at most so many settlings, each of which starts over with the faults that those before it have left; the settled
-- faults, latest first
unfoldable pub peel : (ℕ → ℕ → Bool) → (List Fault → List ℕ) → ℕ → List Fault → List Fault
peel opens left zero kept = kept
peel opens left (suc k) kept =
    elim (pick opens (left kept)) [ settles p d ↦ peel opens left k (fault p d ∷ kept) | stops ↦ kept ]

-- the inner faults of a map that are not settled, in row order
unfoldable pub left_on : ℕ → ℕ → List ℕ → List Fault → List ℕ
left_on n m grid kept = positions_in (λ p x. inner_faulty n m p x && eqb (direction_of kept p) 0) grid

-- the settled faults of a map with their directions. Openness is that of the whole map, so that a settled fault still
-- blocks. No map has more settlings than faults.
unfoldable pub peeled_on : ℕ → ℕ → List ℕ → List Fault
peeled_on n m grid = peel (is_open n m grid) (left_on n m grid) (length (faults n m grid)) []

-- the faults that no settling has reached
abbrev pub unpeeled_on : ℕ → ℕ → List ℕ → List ℕ
unpeeled_on n m grid = left_on n m grid (peeled_on n m grid)

-- the trials of the rest, the only ones that are counted
unfoldable pub quick_planned : ℕ → ℕ → List ℕ → Search
quick_planned n m grid = searched n m grid (peeled_on n m grid) (unpeeled_on n m grid)
