-- What is proved of the trial rule, for every N, M and grid: the statements. T itself is what the definition counts; these only bound it.
-- Assumes nothing.
use Rattle.std.specs.Prelude.{ℕ, ◌+◌, ◌*◌, ◌^◌, ◌≤◌, ◌≡◌, ◌↔◌, List, [], length}
use Rattle.plans.specs.Faults.{faults}
use Rattle.plans.specs.Plan.{EveryChoiceBlocked, FirstPlan}
use Rattle.plans.specs.PlanAt.{PlanOn}
use Rattle.trials.specs.Trials.{found, exhausted}
use Rattle.trials.specs.Search.{planned, T}

pub record TrialRule : Type 0 where
  -- what is found is a plan, and no plan comes before it
  pub first_of_plans : (n m k : ℕ) (grid xs : List ℕ) → planned n m grid ≡ found k xs → FirstPlan n m grid xs
  -- where the trials are exhausted every choice is blocked, with the path or pair that blocks it
  pub none_found : (n m k : ℕ) (grid : List ℕ) → planned n m grid ≡ exhausted k → EveryChoiceBlocked n m grid
  -- and they are exhausted wherever every choice is blocked
  pub none_there : (n m : ℕ) (grid : List ℕ) → EveryChoiceBlocked n m grid → planned n m grid ≡ exhausted (T n m grid)
  -- every choice is blocked exactly where no directions, said by position, are a plan
  pub beyond_by_position : (n m : ℕ) (grid : List ℕ) → EveryChoiceBlocked n m grid ↔ ((dir : ℕ → ℕ) → PlanOn n m grid dir → ⊥)
  -- the bound on T, said without a division
  pub bound : (n m : ℕ) (grid : List ℕ) → 3 * T n m grid + 4 ≤ 4 ^ (length (faults n m grid) + 1)
  -- F = 0 is repaired with T = 0
  pub no_fault : (n m : ℕ) (grid : List ℕ) → faults n m grid ≡ [] → planned n m grid ≡ found 0 []
