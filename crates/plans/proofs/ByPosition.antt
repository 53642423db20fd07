-- A plan said by positions is a plan said by the list of the inner faults.
-- Assumes nothing.
use Prim.Native.Nat.{ℕ, ◌<◌}
use mathlib.Core.Path.{◌≡◌, sym, ap, ◌∙◌}
use mathlib.Core.Bool.{Bool, true}
use mathlib.Core.List.{List}
use mathlib.Core.Logic.{◌↔◌}
use native.Mathlib.Omega.{arith}
use lib.ListN.{length, get_or}
use Rattle.array.specs.Place.{inner}
use Rattle.array.specs.Buffer.{tabulate, Index, Lists}
use Rattle.array.specs.Map.{inner_faulty, inner_fault}
use Rattle.array.proofs.Bools.{and_true, by_lt}
use Rattle.array.proofs.Fills.{tabulate_length, tabulate_at}
use Rattle.array.proofs.Marks.{faulty_below, inner_fault_read}
use Rattle.array.proofs.Positions.{position_index}
use Rattle.paths.specs.Path.{is_open, clear}
use Rattle.paths.proofs.Clashes.{clear_neither, neither_clear, clear_comm}
use Rattle.plans.specs.Faults.{faults, directions_at}
use Rattle.plans.specs.Plan.{Plan}
use Rattle.plans.specs.PlanAt.{PlanAt, PlanAlong, EitherFirst, PlanOn, read_at, ByPosition}
use Rattle.plans.proofs.Pairing.{directions_length, direction_at}
use Rattle.plans.proofs.Facts.{fault_hit, faults_rise, hit_inner_fault}

pub faults_list : (n m : ℕ) (grid : List ℕ) → Lists (inner_fault n m grid) (faults n m grid)
unfolding faults
faults_list n m grid =
    record {
      each = λ k h. hit_inner_fault n m grid (get_or (faults n m grid) k 0) (fault_hit n m grid k h);
      all = λ p h.
          let l = faulty_below grid p (and_true (inner n m p) _ h).1 in
          position_index (inner_faulty n m) grid p l (sym (inner_fault_read n m grid p l) ∙ h);
      once = λ i j a b e. omega (arith, e, faults_rise n m grid i j a b);
    }

-- a plan of some of the faults
pub plan_within : {test test' : ℕ → Bool} {opens : ℕ → ℕ → Bool} {clears : ℕ → ℕ → ℕ → ℕ → Bool} {dir : ℕ → ℕ}
    → ((p : ℕ) → test' p ≡ true → test p ≡ true) → PlanAt test opens clears dir → PlanAt test' opens clears dir
plan_within f plan =
    record {
      straight = λ p h. plan.straight p (f p h);
      open_path = λ p h. plan.open_path p (f p h);
      clear_pair = λ p q h g. plan.clear_pair p q (f p h) (f q g);
    }

-- For any tests: ps lists the faults, and xs their directions.
module _ {fault : ℕ → Bool} (opens : ℕ → ℕ → Bool) (clears : ℕ → ℕ → ℕ → ℕ → Bool) {ps : List ℕ} (lists : Lists fault ps)
    (xs : List ℕ) (dir : ℕ → ℕ) (many : length xs ≡ length ps)
    (same : (k : ℕ) → k < length ps → get_or xs k 0 ≡ dir (get_or ps k 0)) where
  listed_as : {p : ℕ} (x : Index ps p) → dir p ≡ get_or xs x.k 0
  listed_as x = ap dir (sym x.is) ∙ sym (same x.k x.below)

  pub along_at : EitherFirst clears → PlanAlong opens clears ps xs → PlanAt fault opens clears dir
  along_at round plan =
      record {
        straight = λ p h.
            let x = lists.all p h in
            let z = listed_as x in
            let s = plan.chosen.straight x.k (omega (arith, x.below)) in
            (omega (arith, s.0), omega (arith, s.1));
        open_path = λ p h.
            let x = lists.all p h in
            (λ i. opens (sym x.is i) (listed_as x i)) ∙ plan.open_path x.k (omega (arith, x.below));
        clear_pair = λ p q h g ne.
            let x = lists.all p h in
            let y = lists.all q g in
            (λ i. clears (sym x.is i) (listed_as x i) (sym y.is i) (listed_as y i))
            ∙ by_lt x.k y.k (λ l. plan.clear_pair x.k y.k l (omega (arith, y.below)))
            (λ l.
            by_lt y.k x.k (λ r. round _ _ _ _ (plan.clear_pair y.k x.k r (omega (arith, x.below))))
            (λ r.
            let z : x.k ≡ y.k = omega arith in
            absurd (ne (sym x.is ∙ ap (λ (k : ℕ). get_or ps k 0) z ∙ y.is))));
      }

  pub at_along : PlanAt fault opens clears dir → PlanAlong opens clears ps xs
  at_along plan =
      record {
        chosen = record {
          one_each = many;
          straight = λ k h.
              let l : k < length ps = omega arith in
              let s = plan.straight (get_or ps k 0) (lists.each k l) in
              let z = same k l in
              (omega (arith, s.0), omega (arith, s.1));
        };
        open_path = λ k h.
            let l : k < length ps = omega arith in
            ap (opens (get_or ps k 0)) (same k l) ∙ plan.open_path (get_or ps k 0) (lists.each k l);
        clear_pair = λ i j a b.
            let k : i < length ps = omega arith in
            let l : j < length ps = omega arith in
            (λ z. clears (get_or ps i 0) (same i k z) (get_or ps j 0) (same j l z))
            ∙ plan.clear_pair (get_or ps i 0) (get_or ps j 0) (lists.each i k) (lists.each j l) (lists.once i j a l);
      }

module _ (n m : ℕ) (grid : List ℕ) where
  abbrev fs : List ℕ
  fs = faults n m grid

  pub clear_either : EitherFirst (clear n m)
  clear_either p d q e h = clear_comm n m q e p d ∙ h

  pub plan_along : {xs : List ℕ} → Plan n m grid xs → PlanAlong (is_open n m grid) (clear n m) fs xs
  plan_along plan =
      record {
        chosen = plan.one_path;
        open_path = plan.open_path;
        clear_pair = λ i j a b. neither_clear n m _ _ _ _ (plan.no_meeting i j a b) (plan.no_near_miss i j a b);
      }

  pub along_plan : {xs : List ℕ} → PlanAlong (is_open n m grid) (clear n m) fs xs → Plan n m grid xs
  along_plan plan =
      record {
        one_path = plan.chosen;
        open_path = plan.open_path;
        no_meeting = λ i j a b. (clear_neither n m _ _ _ _ (plan.clear_pair i j a b)).0;
        no_near_miss = λ i j a b. (clear_neither n m _ _ _ _ (plan.clear_pair i j a b)).1;
      }

  -- xs lists the directions of the inner faults
  module _ (xs : List ℕ) (dir : ℕ → ℕ) (many : length xs ≡ length fs)
      (same : (k : ℕ) → k < length fs → get_or xs k 0 ≡ dir (get_or fs k 0)) where
    pub plan_on : Plan n m grid xs → PlanOn n m grid dir
    plan_on plan = along_at (is_open n m grid) (clear n m) (faults_list n m grid) xs dir many same clear_either (plan_along plan)

    pub on_plan : PlanOn n m grid dir → Plan n m grid xs
    on_plan plan = along_plan (at_along (is_open n m grid) (clear n m) (faults_list n m grid) xs dir many same plan)

  -- the list of the directions of a plan by positions
  pub listed : (dir : ℕ → ℕ) → PlanOn n m grid dir → Plan n m grid (tabulate (λ k. dir (get_or fs k 0)) (length fs))
  listed dir plan =
      let f : ℕ → ℕ = λ k. dir (get_or fs k 0) in
      on_plan (tabulate f (length fs)) dir (tabulate_length f (length fs)) (λ k h. tabulate_at f (length fs) k 0 h) plan

  -- a direction buffer read at the faults, and by position
  pub buffer_plan : (directions : List ℕ) → Plan n m grid (directions_at directions fs) ↔ PlanOn n m grid (read_at directions)
  buffer_plan directions =
      let many = directions_length directions fs in
      let same : (k : ℕ) → k < length fs → get_or (directions_at directions fs) k 0 ≡ read_at directions (get_or fs k 0)
      = λ k h. direction_at directions fs k h in
      (plan_on (directions_at directions fs) (read_at directions) many same, on_plan (directions_at directions fs) (read_at directions) many same)

pub by_position : ByPosition
by_position =
    record {
      lists = λ fault opens clears ps xs dir round lists many same.
          (along_at opens clears lists xs dir many same round, at_along opens clears lists xs dir many same);
      plans = λ n m grid xs. (plan_along n m grid, along_plan n m grid);
      buffers = buffer_plan;
      holds = λ n m grid directions map long elsewhere. (
        λ h. (buffer_plan n m grid directions).0 h.plan,
        λ h. record { map = map; length_right = long; plan = (buffer_plan n m grid directions).1 h; elsewhere = elsewhere },
      );
    }
