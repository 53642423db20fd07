-- What is proved of settling outer faults first and of the quick planner, for every N, M and grid: the statements.
-- Assumes nothing.
use Rattle.std.specs.Prelude.{ℕ, ◌+◌, ◌*◌, ◌^◌, ◌≤◌, ◌≡◌, List, [], length, get_or, Ok}
use Rattle.array.specs.Buffer.{tabulate}
use Rattle.array.specs.Map.{well_formed, inner_fault}
use Rattle.paths.specs.Path.{is_open, clear}
use Rattle.plans.specs.Faults.{directions_at}
use Rattle.plans.specs.Plan.{EveryChoiceBlocked, NotAfter}
use Rattle.plans.specs.PlanAt.{PlanOn}
use Rattle.plans.specs.Check.{check_plan}
use Rattle.trials.specs.Trials.{found, exhausted, count}
use Rattle.trials.specs.Search.{searched, direction_of, plan_buffer}
use Rattle.trials.specs.Completing.{Agreeing}
use Rattle.peeling.specs.Peel.{stops, pick, peeled_on, unpeeled_on, quick_planned}
use Rattle.peeling.specs.Settling.{Peeled}

-- a part that settlings of a map reach, and a plan of the map that agrees with it
abbrev pub PeeledOn : ℕ → ℕ → List ℕ → (ℕ → ℕ) → Type 0
PeeledOn n m grid part = Peeled (inner_fault n m grid) (is_open n m grid) part

abbrev pub AgreeingOn : ℕ → ℕ → List ℕ → (ℕ → ℕ) → Type 0
AgreeingOn n m grid part = Agreeing (inner_fault n m grid) (is_open n m grid) (clear n m) part

-- Wherever there is a plan there is one that agrees with all settlings made so far, in whichever order they were made.
abbrev pub SettlingKeeps : Type 0
SettlingKeeps =
    (n m : ℕ) (grid : List ℕ) (part dir : ℕ → ℕ) → n ≤ 30 → m ≤ 30 → PeeledOn n m grid part
    → PlanOn n m grid dir → AgreeingOn n m grid part

-- the direction buffer of the settled faults and of the others with the directions xs
abbrev pub completed : ℕ → ℕ → List ℕ → List ℕ → List ℕ
completed n m grid xs = plan_buffer (peeled_on n m grid) (unpeeled_on n m grid) xs

-- the settled directions by position, and the directions of such a plan at the faults left
abbrev pub settled_on : ℕ → ℕ → List ℕ → ℕ → ℕ
settled_on n m grid = direction_of (peeled_on n m grid)

abbrev pub others_of : (n m : ℕ) (grid : List ℕ) → AgreeingOn n m grid (settled_on n m grid) → List ℕ
others_of n m grid a = tabulate (λ k. a.dir (get_or (unpeeled_on n m grid) k 0)) (length (unpeeled_on n m grid))

-- The quick planner.
pub record QuickRule : Type 0 where
  -- what it settles are settlings, and it stops only where nothing more can be settled
  pub settlings : (n m : ℕ) (grid : List ℕ) → PeeledOn n m grid (settled_on n m grid)
  pub settled_all : (n m : ℕ) (grid : List ℕ) → pick (is_open n m grid) (unpeeled_on n m grid) ≡ stops
  -- no trial fails because of a settled path: an open path of another fault is clear of it
  pub unhindered : (n m : ℕ) (grid : List ℕ) → n ≤ 30 → m ≤ 30
      → quick_planned n m grid ≡ searched n m grid [] (unpeeled_on n m grid)
  -- where the trials find directions for the rest, the whole direction buffer passes the plan check, and holds them
  pub plans : (n m k : ℕ) (grid xs : List ℕ) → well_formed n m grid ≡ Ok tt → quick_planned n m grid ≡ found k xs
      → check_plan n m grid (completed n m grid xs) ≡ Ok tt
  pub rest_held : (n m k : ℕ) (grid xs : List ℕ) → well_formed n m grid ≡ Ok tt → quick_planned n m grid ≡ found k xs
      → directions_at (completed n m grid xs) (unpeeled_on n m grid) ≡ xs
  -- no plan that agrees with the settled paths comes before it
  pub first : (n m k : ℕ) (grid xs : List ℕ) → well_formed n m grid ≡ Ok tt → quick_planned n m grid ≡ found k xs
      → (a : AgreeingOn n m grid (settled_on n m grid)) → NotAfter xs (others_of n m grid a)
  -- where they are exhausted every choice is blocked, and they are exhausted wherever every choice is blocked
  pub none_found : (n m k : ℕ) (grid : List ℕ) → well_formed n m grid ≡ Ok tt → quick_planned n m grid ≡ exhausted k
      → EveryChoiceBlocked n m grid
  pub none_there : (n m : ℕ) (grid : List ℕ) → well_formed n m grid ≡ Ok tt → EveryChoiceBlocked n m grid
      → quick_planned n m grid ≡ exhausted (count (quick_planned n m grid))
  -- the bound on their count, by the faults left, said without a division
  pub bound : (n m : ℕ) (grid : List ℕ)
      → 3 * count (quick_planned n m grid) + 4 ≤ 4 ^ (length (unpeeled_on n m grid) + 1)
