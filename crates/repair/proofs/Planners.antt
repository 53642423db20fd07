-- What each planner gives on a well-formed map: directions that complete what it keeps to a plan, or exhaustion where there
-- is none.
-- Assumes nothing.
use Rattle.std.specs.Prelude.{Ok}
use Prim.Native.Nat.{ℕ}
use mathlib.Core.Path.{◌≡◌, refl, sym, ap, subst, ◌∙◌}
use mathlib.Core.Bool.{Bool, true, false, cond, false≢true}
use mathlib.Core.Logic.{◌⊎◌, inl, inr}
use mathlib.Core.List.{List, []}
use borrow.Author.Tests.{le-leb}
use lib.ListN.{length}
use Rattle.array.specs.Buffer.{zeros}
use Rattle.array.specs.Map.{well_formed}
use Rattle.array.proofs.Formed.{formed}
use Rattle.plans.specs.Faults.{faults, directions_at}
use Rattle.plans.specs.Plan.{Plan, EveryChoiceBlocked}
use Rattle.plans.specs.Check.{check_plan}
use Rattle.plans.proofs.Accepts.{accepts_plans}
use Rattle.plans.specs.declared.Fault.{Fault}
use Rattle.trials.specs.Trials.{Search, found, exhausted, count}
use Rattle.trials.specs.Search.{T, planned, outcome, plan_buffer, directions_written}
use Rattle.trials.specs.declared.Outcome.{Outcome}
use Rattle.trials.specs.declared.Outcome.TheVariants.{Repaired, Beyond, Spent}
use Rattle.trials.proofs.Theorems.{trial_rule}
use Rattle.trials.proofs.Outcomes.{repaired_found}
use Rattle.trials.proofs.Written.{paths_again, zero_elsewhere, held_long}
use Rattle.peeling.proofs.Theorems.{quick_rule}
use Rattle.exact.specs.Exact.{decided, directions_found}
use Rattle.repair.specs.Operations.{kept_by, left_by, planned_by, counts, answer_by, buffer_by, is_repaired}
use Rattle.repair.specs.declared.Answer.TheVariants.{Planned, Decided}
use Rattle.repair.specs.declared.Planner.{Planner}
use Rattle.repair.specs.declared.Planner.TheVariants.{Trials, Quick, Exact}

-- the direction buffer of what is kept and of the faults left with the directions xs
abbrev pub held_by : Planner → ℕ → ℕ → List ℕ → List ℕ → List ℕ
held_by pl n m grid xs = plan_buffer (kept_by pl n m grid) (left_by pl n m grid) xs

pub record PlannerRule (pl : Planner) (n m : ℕ) (grid : List ℕ) : Type 0 where
  -- where the trials find directions, the buffer passes the plan check, and holds them
  pub checked : (k : ℕ) (xs : List ℕ) → planned_by pl n m grid ≡ found k xs
      → check_plan n m grid (held_by pl n m grid xs) ≡ Ok tt
  pub rest_held : (k : ℕ) (xs : List ℕ) → planned_by pl n m grid ≡ found k xs
      → directions_at (held_by pl n m grid xs) (left_by pl n m grid) ≡ xs
  -- they are exhausted exactly where every choice is blocked
  pub none_found : (k : ℕ) → planned_by pl n m grid ≡ exhausted k → EveryChoiceBlocked n m grid
  pub none_there : EveryChoiceBlocked n m grid → planned_by pl n m grid ≡ exhausted (count (planned_by pl n m grid))

module _ (n m : ℕ) (grid : List ℕ) (map : well_formed n m grid ≡ Ok tt) where
  grid_long : length grid ≡ 1024
  grid_long = (formed n m grid map).length_is

  -- the trial rule over all faults
  module _ (k : ℕ) (xs : List ℕ) (is : planned n m grid ≡ found k xs) where
    plan : Plan n m grid xs
    plan = (trial_rule.first_of_plans n m k grid xs is).is_plan

    one_each : length xs ≡ length (faults n m grid)
    one_each = plan.one_path.one_each

    again : directions_at (held_by Trials n m grid xs) (faults n m grid) ≡ xs
    again = paths_again n m grid xs grid_long one_each

    passes : check_plan n m grid (held_by Trials n m grid xs) ≡ Ok tt
    passes =
        (accepts_plans n m grid (held_by Trials n m grid xs)).1
        (record {
          map = map;
          length_right = held_long n m grid xs grid_long one_each;
          plan = subst (λ (l : List ℕ). Plan n m grid l) (sym again) plan;
          elsewhere = zero_elsewhere n m grid xs grid_long one_each;
        })

  exhausted_there : EveryChoiceBlocked n m grid → planned n m grid ≡ exhausted (count (planned n m grid))
  unfolding T
  exhausted_there b = trial_rule.none_there n m grid b

  by_trials : PlannerRule Trials n m grid
  by_trials =
      record {
        checked = passes;
        rest_held = again;
        none_found = λ k. trial_rule.none_found n m k grid;
        none_there = exhausted_there;
      }

  pub planner_rule : (pl : Planner) → PlannerRule pl n m grid
  planner_rule Trials = by_trials
  planner_rule Quick =
      record {
        checked = λ k xs. quick_rule.plans n m k grid xs map;
        rest_held = λ k xs. quick_rule.rest_held n m k grid xs map;
        none_found = λ k. quick_rule.none_found n m k grid map;
        none_there = quick_rule.none_there n m grid map;
      }
  planner_rule Exact =
      let r = by_trials in
      record { checked = r.checked; rest_held = r.rest_held; none_found = r.none_found; none_there = r.none_there }

-- the count that an outcome carries
abbrev told_count : Outcome → ℕ
told_count (Repaired t) = t
told_count (Beyond t) = t
told_count (Spent limit) = limit

-- the trial rule over all faults, and the exact planner
pub over_all : (pl : Planner) (n m : ℕ) (grid : List ℕ) → (pl ≡ Trials) ⊎ (pl ≡ Exact)
    → (planned_by pl n m grid ≡ planned n m grid) × (left_by pl n m grid ≡ faults n m grid)
over_all pl n m grid (inl e) = (ap (λ (p : Planner). planned_by p n m grid) e, ap (λ (p : Planner). left_by p n m grid) e)
over_all pl n m grid (inr e) = (ap (λ (p : Planner). planned_by p n m grid) e, ap (λ (p : Planner). left_by p n m grid) e)

-- an outcome under a limit, of the planners that count
pub counted_answer : (pl : Planner) (limit : ℕ) (s : Search) → counts pl ≡ true → answer_by pl limit s ≡ Planned (outcome limit s)
counted_answer Trials limit s h = refl
counted_answer Quick limit s h = refl
counted_answer Exact limit s h = absurd (false≢true h)

-- the one that does not count
pub uncounted_exact : (pl : Planner) → counts pl ≡ false → pl ≡ Exact
uncounted_exact Trials h = absurd (false≢true (sym h))
uncounted_exact Quick h = absurd (false≢true (sym h))
uncounted_exact Exact h = refl

-- an answer that says repaired: the trials find directions, and the buffer holds them
pub record RepairedAs (pl : Planner) (limit : ℕ) (kept : List Fault) (left : List ℕ) (s : Search) : Type 0 where
  pub xs : List ℕ
  pub is : s ≡ found (count s) xs
  pub held : buffer_by pl limit kept left s ≡ plan_buffer kept left xs

outcome_repaired : (o : Outcome) → is_repaired (Planned o) ≡ true → o ≡ Repaired (told_count o)
outcome_repaired (Repaired t) h = refl
outcome_repaired (Beyond t) h = absurd (false≢true h)
outcome_repaired (Spent t) h = absurd (false≢true h)

-- where the outcome is repaired
written_as : (limit : ℕ) (kept : List Fault) (left : List ℕ) (s : Search) → is_repaired (Planned (outcome limit s)) ≡ true
    → RepairedAs Trials limit kept left s
unfolding directions_written
written_as limit kept left s h =
    let f = repaired_found limit s _ (outcome_repaired (outcome limit s) h) in
    record {
      xs = f.xs;
      is = f.is;
      held = ap (directions_written limit kept left) f.is
          ∙ ap (λ (b : Bool). cond b (plan_buffer kept left f.xs) zeros) (le-leb (count s) limit f.within);
    }

found_as : (limit : ℕ) (left : List ℕ) (s : Search) → is_repaired (Decided (decided s)) ≡ true → RepairedAs Exact limit [] left s
unfolding decided directions_found
found_as limit left (found k xs) h = record { xs = xs; is = refl; held = refl }
found_as limit left (exhausted k) h = absurd (false≢true h)

pub repaired_as : (pl : Planner) (limit n m : ℕ) (grid : List ℕ)
    → is_repaired (answer_by pl limit (planned_by pl n m grid)) ≡ true
    → RepairedAs pl limit (kept_by pl n m grid) (left_by pl n m grid) (planned_by pl n m grid)
repaired_as Trials limit n m grid h = written_as limit [] (faults n m grid) (planned n m grid) h
repaired_as Quick limit n m grid h =
    let r = written_as limit (kept_by Quick n m grid) (left_by Quick n m grid) (planned_by Quick n m grid) h in
    record { xs = r.xs; is = r.is; held = r.held }
repaired_as Exact limit n m grid h = found_as limit (faults n m grid) (planned n m grid) h
