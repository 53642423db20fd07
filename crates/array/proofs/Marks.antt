-- A grid mark as the code reads it, and what a faulty and a healthy mark say.
-- Assumes nothing.
use mathlib.Core.Path.{◌≡◌, sym, ap, ◌∙◌}
use mathlib.Core.Bool.{true, false, false≢true}
use mathlib.Core.Logic.{⊎_elim}
use mathlib.Core.List.{List}
use Prim.Native.Nat.{ℕ, ◌<◌}
use native.Mathlib.Omega.{arith}
use borrow.Author.Tests.{eqb-true, eqb-false, eq-eqb, leb-true}
use lib.Dec.{eqb, leb}
use lib.ListN.{length, get_or, get_or-eq_default}
use Rattle.array.specs.Place.{inner_at, processor_at}
use Rattle.array.specs.Map.{mark_at, dead_mark, faulty_mark, faulty, inner_faulty, inner_fault, allowed_at}
use Rattle.array.proofs.Bools.{or_true, or_false, or_right, by_bool, by_lt}
use Rattle.array.proofs.Fills.{same_default}

-- within the buffer the default does not matter
pub mark_read : (grid : List ℕ) (p : ℕ) → p < length grid → mark_at grid p ≡ get_or grid p 0
mark_read grid p h = same_default grid p 2 0 h

pub faulty_read : (grid : List ℕ) (p : ℕ) → p < length grid → faulty grid p ≡ faulty_mark (get_or grid p 0)
faulty_read grid p h = ap faulty_mark (mark_read grid p h)

pub inner_fault_read : (n m : ℕ) (grid : List ℕ) (p : ℕ) → p < length grid → inner_fault n m grid p ≡ inner_faulty n m p (get_or grid p 0)
inner_fault_read n m grid p h = ap (inner_faulty n m p) (mark_read grid p h)

-- a faulty position stands in the buffer
pub faulty_below : (grid : List ℕ) (p : ℕ) → faulty grid p ≡ true → p < length grid
unfolding faulty_mark
faulty_below grid p h =
    by_lt p (length grid) (λ l. l)
    (λ l.
    let a = get_or-eq_default grid 2 l in
    ⊎_elim (λ e. let b = eqb-true (mark_at grid p) 1 e in absurd (omega arith))
    (λ e. let b = eqb-true (mark_at grid p) 3 e in absurd (omega arith))
    (or_true (eqb (mark_at grid p) 1) _ h))

-- a healthy mark is not faulty, and a mark that a processor may have and that is not faulty is healthy
pub healthy_not_faulty : (mark : ℕ) → eqb mark 0 ≡ true → faulty_mark mark ≡ false
unfolding faulty_mark
healthy_not_faulty mark h = ap faulty_mark (eqb-true mark 0 h)

pub healthy_else : (n m x y mark : ℕ) → processor_at n m x y ≡ true → allowed_at n m x y mark ≡ true → faulty_mark mark ≡ false
    → eqb mark 0 ≡ true
unfolding faulty_mark
healthy_else n m x y mark s h e = by_bool (inner_at n m x y) (λ t. low (first t)) (λ t. low (rw (t, s) at h))
  where
    not_either : (eqb mark 1 ≡ false) × (dead_mark mark ≡ false)
    not_either = or_false (eqb mark 1) (dead_mark mark) e

    first : inner_at n m x y ≡ true → leb mark 1 ≡ true
    first t =
        ⊎_elim (λ l. l) (λ d. absurd (false≢true (sym not_either.1 ∙ d))) (or_true (leb mark 1) (dead_mark mark) (rw t at h))

    low : leb mark 1 ≡ true → eqb mark 0 ≡ true
    low l =
        let a = leb-true mark 1 l in
        let b = eqb-false mark 1 not_either.0 in
        eq-eqb mark 0 (omega arith)

-- a dead processor counts as faulty, and stands at an inner position
pub dead_faulty : (mark : ℕ) → dead_mark mark ≡ true → faulty_mark mark ≡ true
unfolding faulty_mark
dead_faulty mark h = or_right (eqb mark 1) (dead_mark mark) h

pub dead_inner : (n m x y mark : ℕ) → allowed_at n m x y mark ≡ true → dead_mark mark ≡ true → inner_at n m x y ≡ true
dead_inner n m x y mark h d = by_bool (inner_at n m x y) (λ t. t) (λ t. absurd (elsewhere t))
  where
    elsewhere : inner_at n m x y ≡ false → ⊥
    elsewhere t =
        let e = eqb-true mark 3 d in
        by_bool (processor_at n m x y)
        (λ s. let l = leb-true mark 1 (rw (t, s) at h) in omega arith)
        (λ s. let l = eqb-true mark 2 (rw (t, s) at h) in omega arith)
