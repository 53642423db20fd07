-- Document 01, "Paths and plans" and "Numbers returned": the plan check, 1 to 7.
-- Assumes nothing.
use Rattle.std.specs.Prelude.{ℕ, ◌<◌, ◌≡◌, Bool, false, not, ◌&&◌, ◌||◌, ◌↔◌, List, [], ◌∷◌, ltb, eqb, length, get_or, Ok}
use Rattle.array.specs.Tests.{or_else, refuse_if, first_of, first_in}
use Rattle.array.specs.Buffer.{all_long}
use Rattle.array.specs.Map.{map_tests, well_formed, inner_fault}
use Rattle.array.specs.Tests.{Verdict}
use Rattle.paths.specs.Path.{is_open, pair_test}
use Rattle.plans.specs.Faults.{faults, directions_at, directed_faults}
use Rattle.plans.specs.Plan.{Plan}
use Rattle.plans.specs.declared.Fault.{Fault}

-- 4: a number above the four directions, 0 at an inner fault, or another number where no inner fault is
abbrev pub wrong_direction : Bool → ℕ → Bool
wrong_direction fault d = (ltb 4 d || (fault && eqb d 0)) || (not fault && not (eqb d 0))

abbrev pub direction_test : ℕ → ℕ → List ℕ → ℕ → ℕ → Verdict
direction_test n m grid p d = refuse_if (wrong_direction (inner_fault n m grid p) d) 4 p 0

abbrev pub directions_test : ℕ → ℕ → List ℕ → List ℕ → Verdict
directions_test n m grid directions = first_in (direction_test n m grid) directions

-- 5: a path isn't open; its start
abbrev pub open_test : ℕ → ℕ → List ℕ → Fault → Verdict
open_test n m grid f = refuse_if (not (is_open n m grid f.position f.direction)) 5 f.position 0

-- in row order
abbrev pub opens_test : ℕ → ℕ → List ℕ → List Fault → Verdict
opens_test n m grid fs = first_of (open_test n m grid) fs

-- 6 and 7 of two faults
abbrev pub clash_test : ℕ → ℕ → Fault → Fault → Verdict
clash_test n m f g = pair_test n m f.position f.direction g.position g.direction

-- pairs by first and then second member; the first offending one is reported
unfoldable pub pairs_test : ℕ → ℕ → List Fault → Verdict
pairs_test n m [] = (Ok tt)
pairs_test n m (f ∷ fs) = or_else (first_of (clash_test n m f) fs) (pairs_test n m fs)

-- 5, then 6 and 7 taken together
unfoldable pub paths_test : ℕ → ℕ → List ℕ → List Fault → Verdict
paths_test n m grid fs = or_else (opens_test n m grid fs) (pairs_test n m fs)

-- 1 to 7, where `right` says that all lent buffers are 1,024 long
unfoldable pub plan_tests : ℕ → ℕ → Bool → List ℕ → List ℕ → Verdict
plan_tests n m right grid directions =
    or_else (map_tests n m right grid)
    (or_else (directions_test n m grid directions) (paths_test n m grid (directed_faults n m grid directions)))

-- the same of a call that is lent these buffers, the grid and the directions among them
abbrev pub plan_test : ℕ → ℕ → List (List ℕ) → List ℕ → List ℕ → Verdict
plan_test n m lent grid directions = plan_tests n m (all_long lent) grid directions

-- what check_plan answers; it writes nothing
abbrev pub check_plan : ℕ → ℕ → List ℕ → List ℕ → Verdict
check_plan n m grid directions = plan_test n m (grid ∷ directions ∷ []) grid directions

-- a direction buffer holds a plan: on a well-formed map its directions at the inner faults are one, and 0 stands elsewhere
pub record HoldsPlan (n m : ℕ) (grid directions : List ℕ) : Type 0 where
  pub map : well_formed n m grid ≡ Ok tt
  pub length_right : length directions ≡ 1024
  pub plan : Plan n m grid (directions_at directions (faults n m grid))
  pub elsewhere : (p : ℕ) → p < 1024 → inner_fault n m grid p ≡ false → get_or directions p 0 ≡ 0

-- the check accepts these and nothing else
abbrev pub AcceptsPlans : Type 0
AcceptsPlans =
    (n m : ℕ) (grid directions : List ℕ) → (check_plan n m grid directions ≡ Ok tt) ↔ HoldsPlan n m grid directions
