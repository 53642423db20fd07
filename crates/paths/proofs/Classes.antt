-- What a class keeps of two rows, or of two columns: their order, and whether they are beside each other.
-- Assumes nothing.
use mathlib.Core.Path.{◌≡◌, refl, sym, ◌∙◌}
use mathlib.Core.Bool.{Bool, true, false, not, ◌&&◌, false≢true}
use Prim.Native.Nat.{ℕ, ◌+◌, ◌-◌, ◌≤◌, min}
use native.Mathlib.Nat.{min-le_right, min-eq_left, min-eq_right}
use native.Mathlib.Omega.{arith}
use borrow.Author.Tests.{eqb-true}
use lib.Dec.{leb, ltb, eqb}
use Rattle.array.specs.Place.{position, row, column}
use Rattle.array.proofs.Bools.{and_true}
use Rattle.array.proofs.Places.{position_read}
use Rattle.paths.specs.Path.{difference}
use Rattle.paths.specs.Table.{class}
use Rattle.array.proofs.Below.{all_below, passes_below}

-- b is to a as v is to x
pub record Alike (x v a b : ℕ) : Type 0 where
  pub le : leb x v ≡ leb a b
  pub lt : ltb x v ≡ ltb a b
  pub eq : eqb x v ≡ eqb a b
  pub beside : eqb (difference x v) 1 ≡ eqb (difference a b) 1

abbrev same : Bool → Bool → Bool
same true b = b
same false b = not b

same_is : (a b : Bool) → same a b ≡ true → a ≡ b
same_is true true h = refl
same_is true false h = absurd (false≢true h)
same_is false false h = refl
same_is false true h = absurd (false≢true h)

alike_test : ℕ → ℕ → ℕ → ℕ → Bool
alike_test x v a b =
    (same (leb x v) (leb a b) && same (ltb x v) (ltb a b))
    && (same (eqb x v) (eqb a b) && same (eqb (difference x v) 1) (eqb (difference a b) 1))

alike_by : (x v a b : ℕ) → alike_test x v a b ≡ true → Alike x v a b
unfolding alike_test
alike_by x v a b h =
    let s = and_true _ _ h in
    let l = and_true _ _ s.0 in
    let r = and_true _ _ s.1 in
    record { le = same_is _ _ l.0; lt = same_is _ _ l.1; eq = same_is _ _ r.0; beside = same_is _ _ r.1 }

-- v is to x as the class, raised by 1, is to 3; and x to v as 3 to it
class_test : ℕ → ℕ → Bool
class_test x v =
    eqb (class x v) (min (v + 2 - x) 4) && (alike_test x v 3 (1 + class x v) && alike_test v x (1 + class x v) 3)

tested : all_below (λ k. class_test (row k) (column k)) 1024 ≡ true
unfolding class_test alike_test
tested = refl

pub record Classed (x v : ℕ) : Type 0 where
  pub clamped : class x v ≡ min (v + 2 - x) 4
  pub high : class x v ≤ 4
  pub there : Alike x v 3 (1 + class x v)
  pub back : Alike v x (1 + class x v) 3

pub classed : (x v : ℕ) → x ≤ 31 → v ≤ 31 → Classed x v
unfolding class_test
classed x v h g =
    let r = position_read x v g in
    let t : class_test x v ≡ true =
    rw (r.0, r.1) at (passes_below (λ k. class_test (row k) (column k)) 1024 (position x v) tested (omega arith)) in
    let s = and_true _ _ t in
    let u = and_true _ _ s.1 in
    let e = eqb-true (class x v) (min (v + 2 - x) 4) s.0 in
    record {
      clamped = e;
      high = rw e (min-le_right (v + 2 - x) 4);
      there = alike_by _ _ _ _ u.0;
      back = alike_by _ _ _ _ u.1;
    }

-- the class as it is computed
module _ (x v : ℕ) (h : x ≤ 31) (g : v ≤ 31) where
  pub class_above : 4 ≤ v + 2 - x → 4 ≡ class x v
  class_above l = sym ((classed x v h g).clamped ∙ min-eq_right l)

  pub class_within : v + 2 - x ≤ 4 → v + 2 - x ≡ class x v
  class_within l = sym ((classed x v h g).clamped ∙ min-eq_left l)
