-- The check of a list of faults accepts plans and nothing else, and agrees with the check of a direction buffer.
-- Assumes nothing.
use Rattle.std.specs.Prelude.{Ok}
use mathlib.Core.Path.{◌≡◌, sym, ap, ◌∙◌}
use mathlib.Core.Bool.{true, ◌&&◌}
use mathlib.Core.List.{List}
use Prim.Native.Nat.{ℕ}
use native.Mathlib.Omega.{arith}
use borrow.Author.Tests.{eq-eqb}
use lib.ListN.{length}
use Rattle.array.specs.Tests.{or_else}
use Rattle.array.specs.Buffer.{long}
use Rattle.array.specs.Map.{well_formed}
use Rattle.array.specs.Tests.{Verdict}
use Rattle.array.proofs.Verdicts.{both_accepted, accept_both}
use Rattle.array.proofs.Formed.{formed, formed_lent, grid_and}
use Rattle.plans.specs.Faults.{faults, directions_at, paired, directed_faults}
use Rattle.plans.specs.Plan.{Choice}
use Rattle.plans.specs.Check.{paths_test, plan_tests}
use Rattle.plans.specs.Inner.{Starts}
use Rattle.plans.specs.declared.Fault.{Fault}
use Rattle.plans.proofs.Facts.{fault_starts}
use Rattle.plans.proofs.Planned.{paths_plan, plan_paths}
use Rattle.lists.specs.FaultList.{listed_test, check_fault_list, ListCheckAgrees, directions_of, positions_of, ListsPlan, AcceptsLists}
use Rattle.lists.proofs.Lists.{listed_positions, listed_straight, straight_listed, directions_as_many, paired_of}

passed : {a b : Verdict} (v : Verdict) → a ≡ Ok tt → b ≡ Ok tt → or_else a (or_else b v) ≡ v
passed v h g = rw (h, g)

pub list_check_agrees : ListCheckAgrees
unfolding check_fault_list plan_tests
list_check_agrees n m grid directions map wide right =
    let f = formed n m grid map in
    let begun : Starts n m (faults n m grid) (directions_at directions (faults n m grid)) =
    fault_starts n m grid directions
    (record {
      sound = record { rows = f.sizes.rows_high; columns = f.sizes.columns_high; grid_long = f.length_is; directions_long = wide };
      right = right;
    }) in
    let listed =
    straight_listed (faults n m grid) (directions_at directions (faults n m grid)) begun.same
    (λ k h. let s = begun.each k h in (s.low, s.high)) in
    let lent = grid_and n m grid (long directions && true) map (rw (eq-eqb (length directions) 1024 wide)) in
    passed (paths_test n m grid (directed_faults n m grid directions)) map listed
    ∙ sym (passed (paths_test n m grid (directed_faults n m grid directions))
    (formed_lent n m grid (long grid && (long directions && true)) map lent) right)

module _ (n m : ℕ) (grid : List ℕ) (fs : List Fault) where
  -- the inner faults with the directions of the list are the list
  as_listed : positions_of fs ≡ faults n m grid → paired (faults n m grid) (directions_of fs) ≡ fs
  as_listed e = ap (λ (l : List ℕ). paired l (directions_of fs)) (sym e) ∙ paired_of fs

  chosen : listed_test (faults n m grid) fs ≡ Ok tt → Choice n m grid (directions_of fs)
  chosen h =
      let e = directions_as_many fs ∙ ap length (listed_positions (faults n m grid) fs h) in
      record { one_each = e; straight = λ k l. listed_straight (faults n m grid) fs h k (omega arith) }

  lists_plan : check_fault_list n m grid fs ≡ Ok tt → ListsPlan n m grid fs
  unfolding check_fault_list
  lists_plan h =
      let a = both_accepted (well_formed n m grid) (or_else (listed_test (faults n m grid) fs) (paths_test n m grid fs)) h in
      let b = both_accepted (listed_test (faults n m grid) fs) (paths_test n m grid fs) a.1 in
      let e = listed_positions (faults n m grid) fs b.0 in
      record {
        map = a.0;
        in_order = e;
        plan = paths_plan n m grid (directions_of fs) (chosen b.0) (ap (paths_test n m grid) (as_listed e) ∙ b.1);
      }

  accepted : ListsPlan n m grid fs → check_fault_list n m grid fs ≡ Ok tt
  unfolding check_fault_list
  accepted p =
      let e = as_listed p.in_order in
      let c = p.plan.one_path in
      let l = straight_listed (faults n m grid) (directions_of fs) c.one_each (λ k h. c.straight k (omega (arith, c.one_each))) in
      accept_both p.map
      (accept_both (ap (listed_test (faults n m grid)) (sym e) ∙ l) (ap (paths_test n m grid) (sym e) ∙ plan_paths n m grid (directions_of fs) p.plan))

pub accepts_lists : AcceptsLists
accepts_lists n m grid fs = (lists_plan n m grid fs, accepted n m grid fs)
