-- The tests 5 to 7 pass a choice of directions exactly when it is a plan.
-- Assumes nothing.
use Rattle.std.specs.Prelude.{Ok}
use mathlib.Core.Path.{◌≡◌, sym, ap, ◌∙◌}
use mathlib.Core.Bool.{false, not, true≢false}
use mathlib.Core.List.{List}
use Prim.Native.Nat.{ℕ, ◌+◌, ◌<◌}
use native.Mathlib.Omega.{arith}
use lib.ListN.{length, get_or}
use Rattle.array.proofs.Verdicts.{both_accepted, accept_both, false_accepted}
use Rattle.array.proofs.Scans.{scan_each, scan_each_from, scan_all, scan_all_from}
use Rattle.paths.specs.Path.{meet, near_miss}
use Rattle.paths.proofs.Clashes.{clear_neither, neither_clear, accepted_clear, clear_accepted}
use Rattle.plans.specs.Faults.{faults, fault_at, paired}
use Rattle.plans.specs.Plan.{Choice, Plan, Blocked, not_open, meeting, near}
use Rattle.plans.specs.Check.{open_test, opens_test, clash_test, pairs_test, paths_test}
use Rattle.plans.proofs.Pairing.{faults_scan, pairs_scan}
use Rattle.plans.proofs.Entries.{opens_passed}

module _ (n m : ℕ) (grid ds : List ℕ) where
  abbrev starts : List ℕ
  starts = faults n m grid

  -- from the tests to the plan
  module _ (chosen : Choice n m grid ds) (opens : opens_test n m grid (paired starts ds) ≡ Ok tt) (pairs : pairs_test n m (paired starts ds) ≡ Ok tt) where
    same : length ds ≡ length starts
    same = chosen.one_each

    clear : (i j : ℕ) → i < j → j < length ds
        → (meet n m (get_or starts i 0) (get_or ds i 0) (get_or starts j 0) (get_or ds j 0) ≡ false)
        × (near_miss (get_or starts i 0) (get_or ds i 0) (get_or starts j 0) (get_or ds j 0) ≡ false)
    clear i j h l =
        let a = scan_each (pairs_scan starts ds same n m) pairs i (omega (arith, same)) in
        let b = scan_each_from (faults_scan starts ds same (clash_test n m (fault_at starts ds i))) (i + 1) a j (omega arith) (omega (arith, same)) in
        clear_neither n m _ _ _ _ (accepted_clear n m (get_or starts i 0) (get_or ds i 0) (get_or starts j 0) (get_or ds j 0) b)

    planned : Plan n m grid ds
    planned =
        record {
          one_path = chosen;
          open_path = λ k h. opens_passed n m grid starts ds same opens k (omega (arith, same));
          no_meeting = λ i j h l. (clear i j h l).0;
          no_near_miss = λ i j h l. (clear i j h l).1;
        }

  pub paths_plan : Choice n m grid ds → paths_test n m grid (paired starts ds) ≡ Ok tt → Plan n m grid ds
  unfolding paths_test
  paths_plan chosen h =
      let a = both_accepted (opens_test n m grid (paired starts ds)) (pairs_test n m (paired starts ds)) h in
      planned chosen a.0 a.1

  -- from the plan to the tests
  module _ (plan : Plan n m grid ds) where
    as_many : length ds ≡ length starts
    as_many = plan.one_path.one_each

    open_right : (k : ℕ) → k < length starts → open_test n m grid (fault_at starts ds k) ≡ Ok tt
    open_right k h = false_accepted 5 (get_or starts k 0) 0 (ap not (plan.open_path k (omega (arith, as_many))))

    pair_right : (i j : ℕ) → i < j → j < length starts → clash_test n m (fault_at starts ds i) (fault_at starts ds j) ≡ Ok tt
    pair_right i j h l =
        clear_accepted n m (get_or starts i 0) (get_or ds i 0) (get_or starts j 0) (get_or ds j 0)
        (neither_clear n m _ _ _ _ (plan.no_meeting i j h (omega (arith, as_many))) (plan.no_near_miss i j h (omega (arith, as_many))))

    pub plan_paths : paths_test n m grid (paired starts ds) ≡ Ok tt
    unfolding paths_test
    plan_paths =
        accept_both (scan_all (faults_scan starts ds as_many (open_test n m grid)) open_right)
        (scan_all (pairs_scan starts ds as_many n m)
        (λ i h. scan_all_from (faults_scan starts ds as_many (clash_test n m (fault_at starts ds i))) (i + 1)
        (λ j g l. pair_right i j (omega arith) l)))

-- a plan is not blocked
pub plan_not_blocked : (n m : ℕ) (grid xs : List ℕ) → Plan n m grid xs → Blocked n m grid xs → ⊥
plan_not_blocked n m grid xs p (not_open k l e) = true≢false (sym (p.open_path k l) ∙ e)
plan_not_blocked n m grid xs p (meeting i j a b e) = true≢false (sym e ∙ p.no_meeting i j a b)
plan_not_blocked n m grid xs p (near i j a b e) = true≢false (sym e ∙ p.no_near_miss i j a b)
