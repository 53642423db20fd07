-- What an accepted plan check says of the positions, and the other way round.
-- Assumes nothing.
use Rattle.std.specs.Prelude.{Ok}
use Prim.Native.Nat.{ℕ, ◌<◌}
use mathlib.Core.Path.{◌≡◌, ap}
use mathlib.Core.Bool.{true, false, not, ◌&&◌}
use mathlib.Core.List.{List}
use native.Mathlib.Omega.{arith}
use borrow.Author.Tests.{eq-eqb}
use lib.ListN.{length, get_or}
use Rattle.array.specs.Place.{inner}
use Rattle.array.specs.Buffer.{long}
use Rattle.array.specs.Map.{allowed, mark_test, size_test, length_test, marks_test, map_tests, well_formed, inner_fault}
use Rattle.array.specs.Tests.{or_else}
use Rattle.array.proofs.Bools.{and_true}
use Rattle.array.proofs.Verdicts.{both_accepted, accept_both, false_accepted}
use Rattle.array.proofs.Scans.{buffer_scan, scan_all}
use Rattle.array.proofs.Marks.{faulty_below}
use Rattle.array.proofs.Formed.{formed}
use Rattle.plans.specs.Check.{check_plan}
use Rattle.plans.specs.PlanAt.{PlanOn, read_at}
use Rattle.plans.proofs.Accepts.{accepts_plans}
use Rattle.plans.proofs.ByPosition.{by_position}

-- a direction buffer holds a plan, by positions
pub record Held (n m : ℕ) (grid directions : List ℕ) : Type 0 where
  pub map : well_formed n m grid ≡ Ok tt
  pub wide : length directions ≡ 1024
  pub plan : PlanOn n m grid (read_at directions)
  pub elsewhere : (p : ℕ) → p < 1024 → inner_fault n m grid p ≡ false → get_or directions p 0 ≡ 0

module _ (n m : ℕ) (grid directions : List ℕ) where
  pub accepted_held : check_plan n m grid directions ≡ Ok tt → Held n m grid directions
  accepted_held h =
      let x = (accepts_plans n m grid directions).0 h in
      record {
        map = x.map;
        wide = x.length_right;
        plan = (by_position.holds n m grid directions x.map x.length_right x.elsewhere).0 x;
        elsewhere = x.elsewhere;
      }

  pub held_accepted : Held n m grid directions → check_plan n m grid directions ≡ Ok tt
  held_accepted h =
      (accepts_plans n m grid directions).1
      ((by_position.holds n m grid directions h.map h.wide h.elsewhere).1 h.plan)

  pub fault_within : Held n m grid directions → (p : ℕ) → inner_fault n m grid p ≡ true → p < 1024
  fault_within h p f =
      omega (arith, faulty_below grid p (and_true (inner n m p) _ f).1, (formed n m grid h.map).length_is)

-- a map with other marks
pub reformed : (n m : ℕ) (grid new : List ℕ) → well_formed n m grid ≡ Ok tt → length new ≡ 1024
    → ((p : ℕ) → p < 1024 → allowed n m p (get_or new p 0) ≡ true) → well_formed n m new ≡ Ok tt
unfolding map_tests
reformed n m grid new h l each =
    let a = both_accepted (size_test n m) (or_else (length_test (long grid && true)) (marks_test n m grid)) h in
    let e : (long new && true) ≡ true = rw (eq-eqb (length new) 1024 l) in
    accept_both a.0
    (accept_both (false_accepted 2 0 0 (ap not e))
    (scan_all (buffer_scan (mark_test n m) new) (λ k b. false_accepted 3 k 0 (ap not (each k (omega arith))))))
