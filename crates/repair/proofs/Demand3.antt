-- Demand 3: one statement about a whole run, for any planner, every well-formed map, every limit and every content of
-- the lent buffers; and the planners agree on what is beyond repair.
-- Assumes nothing.
use Rattle.std.specs.Prelude.{Ok}
use Prim.Native.Nat.{ℕ, ◌<◌, ◌≤◌}
use mathlib.Core.Path.{◌≡◌, refl, sym, ap, subst, ◌∙◌}
use mathlib.Core.Bool.{true, ◌&&◌, true≢false, false≢true}
use mathlib.Core.Logic.{◌⊎◌, inl, inr, ⊎_elim, ◌↔◌}
use mathlib.Core.List.{List, [], ◌∷◌}
use borrow.Author.Tests.{le-leb}
use Rattle.array.specs.Buffer.{long, all_long, written}
use Rattle.array.specs.Tests.{Verdict}
use Rattle.array.proofs.Bools.{and_true, by_lt}
use Rattle.array.proofs.Formed.{formed_lent, grid_and}
use Rattle.plans.specs.Faults.{faults, directions_at}
use Rattle.plans.specs.Plan.{EveryChoiceBlocked, FirstPlan}
use Rattle.plans.specs.Check.{check_plan}
use Rattle.plans.proofs.Accepts.{accepts_plans}
use Rattle.plans.proofs.Planned.{plan_not_blocked}
use Rattle.trials.specs.Trials.{Search, found, exhausted, count}
use Rattle.trials.specs.Search.{planned, outcome, directions_written}
use Rattle.trials.specs.declared.Outcome.{Outcome}
use Rattle.trials.specs.declared.Outcome.TheVariants.{Repaired, Beyond, Spent}
use Rattle.trials.proofs.Theorems.{trial_rule}
use Rattle.exact.specs.Exact.{decided, directions_found}
use Rattle.exact.specs.declared.Decision.TheVariants as decision
use Rattle.repair.specs.Operations.{kept_by, left_by, planned_by, counts, answer_by, buffer_by}
use Rattle.repair.specs.Operations.{plan_by, directions_by, answer_after, is_repaired, is_beyond}
use Rattle.repair.specs.Demand3.{Given, Good, answer, planned_directions, paths}
use Rattle.repair.specs.Demand3.{kept_of, left_of, search_of, T_of, rest_of}
use Rattle.repair.specs.Demand3.{used, AfterRepaired, Demand3, Demand3ForAll}
use Rattle.repair.specs.Demand3.{UnderLimit, SomePlan, WithoutLimit, ExactAgrees}
use Rattle.repair.specs.Demand3.{NotSpent, PlannersAgree}
use Rattle.repair.specs.declared.Planner.{Planner}
use Rattle.repair.specs.declared.Planner.TheVariants.{Trials, Quick, Exact}
use Rattle.repair.specs.declared.Answer.TheVariants.{Planned, Decided}
use Rattle.repair.proofs.Planners.{held_by, PlannerRule, planner_rule, over_all, counted_answer, uncounted_exact, RepairedAs, repaired_as}
use Rattle.repair.proofs.InUse.{plans_serve}
use Rattle.trials.proofs.Outcomes.{above_spent, spent_above, carried, beyond_exhausted, found_repaired, exhausted_beyond}

same_outcome : (o p : Outcome) → Planned o ≡ Planned p → o ≡ p
same_outcome o p e = cc

decided_differ : Decided decision.Repaired ≡ Decided decision.Beyond → ⊥
decided_differ e = true≢false (ap is_repaired e)

module _ (g : Given) (good : Good g) where
  abbrev search : Search
  search = search_of g

  -- what the planner gives
  rule : PlannerRule g.planner g.n g.m g.grid
  rule = planner_rule g.n g.m g.grid good.map g.planner

  lengths : (long g.directions ≡ true) × (all_long (g.places ∷ g.across ∷ g.down ∷ []) ≡ true)
  lengths = and_true (long g.directions) _ good.lent

  -- the planner accepts the map
  map_passes : Rattle.array.specs.Map.map_test g.n g.m (g.grid ∷ g.directions ∷ []) g.grid ≡ Ok tt
  map_passes =
      formed_lent g.n g.m g.grid (long g.grid && (long g.directions && true)) good.map
      (grid_and g.n g.m g.grid (long g.directions && true) good.map (rw lengths.0))

  answer_as : answer g ≡ answer_by g.planner g.limit search
  unfolding plan_by
  answer_as = ap (λ (v : Verdict). answer_after v (answer_by g.planner g.limit search)) map_passes

  directions_are : planned_directions g ≡ buffer_by g.planner g.limit (kept_of g) (left_of g) search
  unfolding directions_by
  directions_are =
      ap (λ (v : Verdict). written v (buffer_by g.planner g.limit (kept_of g) (left_of g) search) g.directions)
      map_passes

  no_plan : EveryChoiceBlocked g.n g.m g.grid → SomePlan g.n g.m g.grid → ⊥
  no_plan b p = plan_not_blocked g.n g.m g.grid p.xs p.is (b p.xs p.is.one_path)

  -- the outcome of a planner that counts its trials
  module _ (counted : counts g.planner ≡ true) where
    answer_is : answer g ≡ Planned (outcome g.limit search)
    answer_is = answer_as ∙ counted_answer g.planner g.limit search counted

    spent_when : (answer g ≡ Planned (Spent g.limit)) ↔ (g.limit < T_of g)
    spent_when = (
      λ e. spent_above g.limit search (same_outcome (outcome g.limit search) (Spent g.limit) (sym answer_is
          ∙ e)),
      λ l. answer_is ∙ ap Planned (above_spent g.limit search l),
    )

    carries : T_of g ≤ g.limit → (answer g ≡ Planned (Repaired (T_of g))) ⊎ (answer g ≡ Planned (Beyond (T_of g)))
    carries l =
        ⊎_elim (λ e. inl (answer_is ∙ ap Planned e)) (λ e. inr (answer_is ∙ ap Planned e)) (carried g.limit search l)

    beyond_when : T_of g ≤ g.limit → (answer g ≡ Planned (Beyond (T_of g))) ↔ EveryChoiceBlocked g.n g.m g.grid
    beyond_when l = (
      λ e.
          rule.none_found (count search)
          (beyond_exhausted g.limit search (count search)
          (same_outcome (outcome g.limit search) (Beyond (count search)) (sym answer_is ∙ e))),
      λ b.
          answer_is
          ∙ ap (λ (s : Search). Planned (outcome g.limit s)) (rule.none_there b)
          ∙ ap Planned (exhausted_beyond g.limit (count search) l),
    )

    repaired_else : T_of g ≤ g.limit → (EveryChoiceBlocked g.n g.m g.grid → ⊥) → answer g ≡ Planned (Repaired (T_of g))
    repaired_else l b = ⊎_elim (λ e. e) (λ e. absurd (b ((beyond_when l).0 e))) (carries l)

    pub limited : UnderLimit g
    limited = record { spent = spent_when; carries_T = carries; beyond = beyond_when; repaired = repaired_else }

  -- what the exact planner decides
  module _ (exact : g.planner ≡ Exact) where
    decides : answer g ≡ Decided (decided search)
    decides = answer_as ∙ ap (λ (pl : Planner). answer_by pl g.limit search) exact

    decided_by : (s : Search) → search ≡ s → WithoutLimit g
    unfolding decided
    decided_by (found k xs) e =
        let y : answer g ≡ Decided decision.Repaired = decides ∙ ap (λ (s : Search). Decided (decided s)) e in
        let buffer = held_by g.planner g.n g.m g.grid xs in
        let p : SomePlan g.n g.m g.grid =
        record {
          xs = directions_at buffer (faults g.n g.m g.grid);
          is = ((accepts_plans g.n g.m g.grid buffer).0 (rule.checked k xs e)).plan;
        } in
        record {
          always = inl y;
          repaired = (λ h. p, λ h. y);
          beyond = (λ h. absurd (decided_differ (sym y ∙ h)), λ b. absurd (no_plan b p));
        }
    decided_by (exhausted k) e =
        let y : answer g ≡ Decided decision.Beyond = decides ∙ ap (λ (s : Search). Decided (decided s)) e in
        let b = rule.none_found k e in
        record {
          always = inr y;
          repaired = (λ h. absurd (decided_differ (sym h ∙ y)), λ p. absurd (no_plan b p));
          beyond = (λ h. b, λ c. y);
        }

    pub unlimited : WithoutLimit g
    unlimited = decided_by search refl

  -- what follows on repaired, where the trials have found the directions xs, which the buffer holds
  module _ (r : RepairedAs g.planner g.limit (kept_of g) (left_of g) search) where
    abbrev xs : List ℕ
    xs = r.xs

    abbrev n : ℕ
    n = g.n

    abbrev m : ℕ
    m = g.m

    abbrev grid : List ℕ
    grid = g.grid

    abbrev dirs : List ℕ
    dirs = planned_directions g

    dirs_are : dirs ≡ held_by g.planner n m grid xs
    dirs_are = directions_are ∙ r.held

    rest_are : rest_of g ≡ xs
    rest_are = ap (λ (b : List ℕ). directions_at b (left_of g)) dirs_are ∙ rule.rest_held (count search) xs r.is

    checked : check_plan n m grid dirs ≡ Ok tt
    checked = ap (check_plan n m grid) dirs_are ∙ rule.checked (count search) xs r.is

    -- by the trial rule over all faults the directions are the first plan
    first : (g.planner ≡ Trials) ⊎ (g.planner ≡ Exact) → FirstPlan n m grid (paths g)
    first e =
        let k = count search in
        let o = over_all g.planner n m grid e in
        let q : paths g ≡ rest_of g = ap (directions_at dirs) (sym o.1) in
        subst (λ (l : List ℕ). FirstPlan n m grid l) (sym (q ∙ rest_are))
        (trial_rule.first_of_plans n m k grid xs (sym o.0 ∙ r.is))

    after_found : AfterRepaired g
    after_found =
        record {
          by_rule = r.is ∙ ap (found (count search)) (sym rest_are);
          directions_defined = dirs_are ∙ ap (held_by g.planner n m grid) (sym rest_are);
          is_plan = ((accepts_plans n m grid dirs).0 checked).plan;
          first_plan = first;
          in_use = plans_serve (used g) checked lengths.1;
        }

  after_repaired : is_repaired (answer g) ≡ true → AfterRepaired g
  after_repaired e =
      after_found (repaired_as g.planner g.limit g.n g.m g.grid (ap is_repaired (sym answer_as) ∙ e))

  whole_run : Demand3 g
  whole_run =
      record {
        under_limit = limited;
        without_limit = λ c. unlimited (uncounted_exact g.planner c);
        after = after_repaired;
      }

pub demand_3 : Demand3ForAll
demand_3 g good = whole_run g good

-- an answer that is not spent says beyond repair exactly when all choices are ruled out
module _ (g : Given) (good : Good g) (un : NotSpent g) where
  abbrev blocked : Type 0
  blocked = EveryChoiceBlocked g.n g.m g.grid

  counted_beyond : counts g.planner ≡ true → (is_beyond (answer g) ≡ true) ↔ blocked
  counted_beyond c =
      let u = limited g good c in
      let l = by_lt g.limit (T_of g) (λ h. absurd (un (u.spent.1 h))) (λ h. h) in (
        λ h. ⊎_elim (λ e. absurd (false≢true (ap is_beyond (sym e) ∙ h))) (λ e. (u.beyond l).0 e) (u.carries_T l),
        λ b. ap is_beyond ((u.beyond l).1 b),
      )

  exact_beyond : g.planner ≡ Exact → (is_beyond (answer g) ≡ true) ↔ blocked
  exact_beyond e =
      let u = unlimited g good e in (
        λ h. ⊎_elim (λ x. absurd (false≢true (ap is_beyond (sym x) ∙ h))) (λ x. u.beyond.0 x) u.always,
        λ b. ap is_beyond (u.beyond.1 b),
      )

  beyond_by : (pl : Planner) → g.planner ≡ pl → (is_beyond (answer g) ≡ true) ↔ blocked
  beyond_by Trials e = counted_beyond (ap counts e)
  beyond_by Quick e = counted_beyond (ap counts e)
  beyond_by Exact e = exact_beyond e

  pub beyond_is : (is_beyond (answer g) ≡ true) ↔ blocked
  beyond_is = beyond_by g.planner refl

pub planners_agree : PlannersAgree
planners_agree g h x y same p q = (
  λ e. (beyond_is h y q).1 (rw (same.rows, same.columns, same.marks) at ((beyond_is g x p).0 e)),
  λ e. (beyond_is g x p).1 (rw (same.rows, same.columns, same.marks) ((beyond_is h y q).0 e)),
)

-- the trials under a limit that they keep, and without one
agreeing : (limit : ℕ) (left : List ℕ) (s : Search) → (outcome limit s ≡ Spent limit → ⊥)
    → (is_repaired (Decided (decided s)) ≡ is_repaired (Planned (outcome limit s)))
    × (directions_found left s ≡ directions_written limit [] left s)
unfolding decided directions_found directions_written
agreeing limit left (found k xs) un =
    by_lt limit k (λ l. absurd (un (above_spent limit (found k xs) l)))
    (λ l. (sym (ap (λ (o : Outcome). is_repaired (Planned o)) (found_repaired limit k xs l)), rw (le-leb k limit l)))
agreeing limit left (exhausted k) un =
    by_lt limit k (λ l. absurd (un (above_spent limit (exhausted k) l)))
    (λ l. (sym (ap (λ (o : Outcome). is_repaired (Planned o)) (exhausted_beyond limit k l)), refl))

pub exact_agrees : ExactAgrees
exact_agrees g h x y same t e un =
    let n = g.n in
    let m = g.m in
    let grid = g.grid in
    let s = planned n m grid in
    let first : answer g ≡ Planned (outcome g.limit s) = answer_as g x ∙ ap (λ (pl : Planner). answer_by pl g.limit (planned_by pl n m grid)) t in
    let left : planned_directions g ≡ directions_written g.limit [] (faults n m grid) s
    = directions_are g x ∙ ap (λ (pl : Planner). buffer_by pl g.limit (kept_by pl n m grid) (left_by pl n m grid)
    (planned_by pl n m grid)) t in
    let second : answer h ≡ Decided (decided s)
    = rw (same.rows, same.columns, same.marks) (answer_as h y ∙ ap (λ (pl : Planner). answer_by pl h.limit
    (planned_by pl h.n h.m h.grid)) e) in
    let found : planned_directions h ≡ directions_found (faults n m grid) s
    = rw (same.rows, same.columns, same.marks) (directions_are h y
    ∙ ap (λ (pl : Planner). buffer_by pl h.limit (kept_by pl h.n h.m h.grid) (left_by pl h.n h.m h.grid) (planned_by pl h.n h.m h.grid)) e) in
    let a = agreeing g.limit (faults n m grid) s (λ z. un (first ∙ ap Planned z)) in
    (ap is_repaired second ∙ a.0 ∙ sym (ap is_repaired first), found ∙ a.1 ∙ sym left)
