-- What tests 1 to 7 and 15 say of a session and of the reported position, as the code needs it.
-- Assumes nothing.
use Rattle.std.specs.Prelude.{Ok}
use Prim.Native.Nat.{ℕ, ◌≤◌, ◌<◌}
use mathlib.Core.Path.{◌≡◌, sym, ap, subst}
use mathlib.Core.Bool.{Bool, true}
use mathlib.Core.List.{List}
use native.Mathlib.Omega.{arith}
use lib.ListN.{length, get_or}
use Rattle.array.specs.Place.{row, column, inner, processor}
use Rattle.array.specs.Map.{inner_fault, faulty_mark, faulty}
use Rattle.array.specs.Tests.{refuse_if}
use Rattle.array.proofs.Bools.{and_true, by_bool}
use Rattle.array.proofs.Marks.{mark_read, faulty_read}
use Rattle.array.proofs.Places.{processor_within}
use Rattle.array.proofs.Formed.{Formed, formed}
use Rattle.paths.specs.Path.{Start}
use Rattle.plans.specs.Check.{check_plan, HoldsPlan}
use Rattle.plans.proofs.Accepts.{accepts_plans}
use Rattle.plans.proofs.ByPosition.{buffer_plan}
use Rattle.sessions.specs.declared.Session.{Session}
use Rattle.sessions.specs.Session.{taken, recover_test}
use Rattle.sessions.specs.Inner.{Started, Standing, PathOrNone, used_test}
use Rattle.sessions.proofs.Judging.{taken_inner, taken_spare, first_high}

-- a processor's position lies in the buffers
pub processor_below : (n m p : ℕ) → n ≤ 30 → processor n m p ≡ true → p < 1024
processor_below n m p h s = let w = processor_within n m (row p) (column p) s in omega (arith, w.0)

module _ (n m : ℕ) (grid directions : List ℕ) (h : check_plan n m grid directions ≡ Ok tt) where
  held : HoldsPlan n m grid directions
  held = (accepts_plans n m grid directions).0 h

  pub map_formed : Formed n m grid
  map_formed = formed n m grid held.map

  -- a plan's directions are the starts of its paths, and 0
  pub started : Started n m directions
  started =
      record {
        long = held.length_right;
        each = λ q l ne.
            by_bool (inner_fault n m grid q)
            (λ f.
            let d = ((buffer_plan n m grid directions).0 held.plan).straight q f in
            record {
              rows = map_formed.sizes.rows_high;
              columns = map_formed.sizes.columns_high;
              at = (and_true (inner n m q) (faulty grid q) f).0;
              low = d.0;
              high = d.1;
            })
            (λ f. absurd (ne (held.elsewhere q l f)));
      }

at_least_one : (k : ℕ) → (k ≡ 0 → ⊥) → 1 ≤ k
at_least_one k h = omega (arith, h)

module _ {s : Session} {p : ℕ} (o : Standing s p) where
  pub of_map : Formed s.rows s.columns s.grid
  of_map = map_formed s.rows s.columns s.grid s.directions o.passes

  pub below : p < 1024
  below = processor_below s.rows s.columns p of_map.sizes.rows_high o.stands

  pub starts_inner : inner s.rows s.columns p ≡ true → {d : ℕ} → 1 ≤ d → d ≤ 4 → Start s.rows s.columns p d
  starts_inner i l h =
      record {
        rows = of_map.sizes.rows_high;
        columns = of_map.sizes.columns_high;
        at = i;
        low = l;
        high = h;
      }

  -- the path from p that comes or goes starts at an inner position
  pub taken_path : PathOrNone s.rows s.columns p (taken s p)
  taken_path ne =
      by_bool (inner s.rows s.columns p)
      (λ i. starts_inner i (at_least_one (taken s p) ne) (subst (λ (d : ℕ). d ≤ 4) (sym (taken_inner s p i)) (first_high _ _ _ _ _ _ _ _)))
      (λ i. absurd (ne (taken_spare s p i)))

  pub kept_path : PathOrNone s.rows s.columns p (get_or s.directions p 0)
  kept_path ne = (started s.rows s.columns s.grid s.directions o.passes).each p below ne

  pub marks_long : p < length s.grid
  marks_long = omega (arith, below, of_map.length_is)

  -- 22 of a failing processor by its mark as the code reads it, and 22 and 23 of a recovering one
  pub faulty_same : refuse_if (faulty_mark (get_or s.grid p 0)) 22 p 0 ≡ refuse_if (faulty s.grid p) 22 p 0
  faulty_same = ap (λ (b : Bool). refuse_if b 22 p 0) (sym (faulty_read s.grid p marks_long))

  pub used_same : used_test (get_or s.grid p 0) p ≡ recover_test s p
  unfolding recover_test
  used_same = ap (λ (k : ℕ). used_test k p) (sym (mark_read s.grid p marks_long))
