-- Settling outer faults first loses no plan, and the quick planner finds one exactly where there is one.
-- Assumes nothing.
use Rattle.std.specs.Prelude.{Ok}
use Prim.Native.Nat.{ℕ, ◌+◌, ◌*◌, ◌^◌, ◌≤◌}
use mathlib.Core.Path.{◌≡◌}
use mathlib.Core.List.{List}
use native.Mathlib.Numerals.{add-one}
use lib.ListN.{length}
use Rattle.array.specs.Map.{well_formed}
use Rattle.array.proofs.Formed.{formed}
use Rattle.paths.specs.Path.{is_open, clear}
use Rattle.plans.specs.Plan.{EveryChoiceBlocked, NotAfter}
use Rattle.plans.proofs.Accepts.{accepts_plans}
use Rattle.plans.proofs.ByPosition.{clear_either}
use Rattle.trials.specs.Trials.{found, exhausted, keeps, count}
use Rattle.trials.specs.Search.{searched}
use Rattle.trials.proofs.Laws.{trials_bound}
use Rattle.trials.proofs.Theorems.{trial_rule}
use Rattle.peeling.specs.Peel.{peeled_on, unpeeled_on, quick_planned}
use Rattle.peeling.specs.Theorems.{AgreeingOn, SettlingKeeps, settled_on, others_of, QuickRule, completed}
use Rattle.peeling.proofs.Exchange.{exchanged, outward_clears_on}
use Rattle.peeling.proofs.Settlings.{reached_on, settled_all}
use Rattle.peeling.proofs.Unhindered.{unhindered_on}
use Rattle.peeling.proofs.Completed.{completes_on, rest_again, holds_completed}

pub settling_keeps : SettlingKeeps
settling_keeps n m grid part dir hn hm s plan =
    exchanged (outward_clears_on n m grid hn hm) (clear_either n m grid) s dir plan

module _ (n m : ℕ) (grid : List ℕ) where
  module _ (map : well_formed n m grid ≡ Ok tt) where
    none_found : (k : ℕ) → quick_planned n m grid ≡ exhausted k → EveryChoiceBlocked n m grid
    unfolding quick_planned searched
    none_found k e =
        let s = (formed n m grid map).sizes in
        (trial_rule.beyond_by_position n m grid).1
        (λ dir plan.
        (completes_on n m grid map).none_agrees k e
        (settling_keeps n m grid _ dir s.rows_high s.columns_high (reached_on n m grid).peeled plan))

    none_there : EveryChoiceBlocked n m grid → quick_planned n m grid ≡ exhausted (count (quick_planned n m grid))
    unfolding quick_planned searched
    none_there b =
        (completes_on n m grid map).none_there (λ a. (trial_rule.beyond_by_position n m grid).0 b a.dir a.plan)

    first : (k : ℕ) (xs : List ℕ) → quick_planned n m grid ≡ found k xs
        → (a : AgreeingOn n m grid (settled_on n m grid)) → NotAfter xs (others_of n m grid a)
    unfolding quick_planned searched
    first k xs e = (completes_on n m grid map).first k xs e

  bound : 3 * count (quick_planned n m grid) + 4 ≤ 4 ^ (length (unpeeled_on n m grid) + 1)
  unfolding quick_planned searched
  bound = rw add-one (trials_bound (keeps (is_open n m grid) (clear n m)) (unpeeled_on n m grid) (peeled_on n m grid))

pub quick_rule : QuickRule
quick_rule =
    record {
      settlings = λ n m grid. (reached_on n m grid).peeled;
      settled_all = settled_all;
      unhindered = unhindered_on;
      plans = λ n m k grid xs map e.
          (accepts_plans n m grid (completed n m grid xs)).1 (holds_completed n m grid map k xs e);
      rest_held = λ n m k grid xs map e. rest_again n m grid map k xs e;
      first = λ n m k grid xs map e. first n m grid map k xs e;
      none_found = λ n m k grid map e. none_found n m grid map k e;
      none_there = none_there;
      bound = bound;
    }
