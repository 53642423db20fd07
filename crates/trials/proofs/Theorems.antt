-- The trial rule: what is found is the first of all plans, and nothing is found exactly where every choice is blocked; T's bound; no fault.
-- Assumes nothing.
use Prim.Native.Nat.{ℕ, ◌+◌, ◌*◌, ◌^◌, ◌≤◌}
use mathlib.Core.Path.{◌≡◌, refl, sym}
use mathlib.Core.Bool.{true≢false}
use mathlib.Core.Logic.{◌↔◌, ⊎_elim}
use mathlib.Core.List.{List, []}
use native.Mathlib.Numerals.{add-one}
use lib.ListN.{length}
use Rattle.paths.specs.Path.{is_open, clear}
use Rattle.paths.proofs.Clashes.{clash_either}
use Rattle.plans.specs.Faults.{faults, paired}
use Rattle.plans.specs.Plan.{Plan, Blocked, not_open, meeting, near, EveryChoiceBlocked, FirstPlan}
use Rattle.plans.specs.PlanAt.{PlanOn}
use Rattle.plans.proofs.Planned.{plan_not_blocked}
use Rattle.plans.proofs.ByPosition.{faults_list, plan_along, along_plan, plan_on, listed}
use Rattle.trials.specs.Trials.{Search, found, exhausted, trials, keeps, clear_of}
use Rattle.trials.specs.Search.{direction_of, searched, planned, T}
use Rattle.trials.specs.Theorems.{TrialRule}
use Rattle.trials.proofs.Laws.{trials_bound}
use Rattle.trials.proofs.Plans.{Sound, Wrong, shut, clash_before, clash, found_sound, found_first, exhausted_wrong, unsound_exhausted}
use Rattle.trials.proofs.Written.{direction_there}

module _ (n m : ℕ) (grid : List ℕ) where
  abbrev SoundAt : List ℕ → Type 0
  SoundAt xs = Sound (is_open n m grid) (clear n m) [] (faults n m grid) xs

  abbrev WrongAt : List ℕ → Type 0
  WrongAt xs = Wrong (is_open n m grid) (clear n m) [] (faults n m grid) xs

  plan_sound : (xs : List ℕ) → Plan n m grid xs → SoundAt xs
  unfolding clear_of
  plan_sound xs h = record { along = plan_along n m grid h; apart_at = λ k l. refl }

  wrong_blocked : (xs : List ℕ) → WrongAt xs → Blocked n m grid xs
  unfolding clear_of
  wrong_blocked xs (shut k l e) = not_open k l e
  wrong_blocked xs (clash_before k l e) = absurd (true≢false e)
  wrong_blocked xs (clash i j a b e) = ⊎_elim (λ q. meeting i j a b q) (λ q. near i j a b q) (clash_either n m _ _ _ _ e)

  abbrev fs : List ℕ
  fs = faults n m grid

  first_of_plans : (k : ℕ) (xs : List ℕ) → planned n m grid ≡ found k xs → FirstPlan n m grid xs
  unfolding planned searched
  first_of_plans k xs e =
      record {
        is_plan = along_plan n m grid (found_sound (is_open n m grid) (clear n m) [] fs k xs e).along;
        none_before = λ ys p. found_first (is_open n m grid) (clear n m) [] fs k xs e ys (plan_sound ys p);
      }

  none_found : (k : ℕ) → planned n m grid ≡ exhausted k → EveryChoiceBlocked n m grid
  unfolding planned searched
  none_found k e xs h =
      wrong_blocked xs (exhausted_wrong (is_open n m grid) (clear n m) [] fs k e xs h)

  none_there : EveryChoiceBlocked n m grid → planned n m grid ≡ exhausted (T n m grid)
  unfolding T planned searched
  none_there b =
      unsound_exhausted (is_open n m grid) (clear n m) [] fs
      (λ xs s. let p = along_plan n m grid s.along in plan_not_blocked n m grid xs p (b xs p.one_path))

  -- the plan of a list of directions, said by position
  placed : (xs : List ℕ) → Plan n m grid xs → PlanOn n m grid (direction_of (paired fs xs))
  placed xs plan =
      let many = plan.one_path.one_each in
      plan_on n m grid xs (direction_of (paired fs xs)) many
      (λ k h. sym (direction_there fs xs k many (faults_list n m grid).once h)) plan

  beyond_by_position : EveryChoiceBlocked n m grid ↔ ((dir : ℕ → ℕ) → PlanOn n m grid dir → ⊥)
  beyond_by_position = (
    λ b dir plan. let p = listed n m grid dir plan in plan_not_blocked n m grid _ p (b _ p.one_path),
    λ never. by never (planned n m grid) refl,
  )
    where
      by : ((dir : ℕ → ℕ) → PlanOn n m grid dir → ⊥) → (s : Search) → planned n m grid ≡ s → EveryChoiceBlocked n m grid
      by never (found k xs) e = absurd (never (direction_of (paired fs xs)) (placed xs (first_of_plans k xs e).is_plan))
      by never (exhausted k) e = none_found k e

  bound : 3 * T n m grid + 4 ≤ 4 ^ (length (faults n m grid) + 1)
  unfolding T planned searched
  bound = rw add-one (trials_bound (keeps (is_open n m grid) (clear n m)) (faults n m grid) [])

  no_fault : faults n m grid ≡ [] → planned n m grid ≡ found 0 []
  unfolding planned searched trials
  no_fault e = rw (e, trials)

pub trial_rule : TrialRule
trial_rule = record {
  first_of_plans = λ n m k grid xs e. first_of_plans n m grid k xs e;
  none_found = λ n m k grid e. none_found n m grid k e;
  none_there = none_there;
  beyond_by_position = beyond_by_position;
  bound = bound;
  no_fault = no_fault;
}
