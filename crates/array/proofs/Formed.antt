-- What the tests 1 to 3 say of a well-formed map.
-- Assumes nothing.
use mathlib.Core.Path.{◌≡◌, sym, ap, ◌∙◌}
use mathlib.Core.Bool.{Bool, true, ◌&&◌}
use mathlib.Core.List.{List}
use Prim.Native.Nat.{ℕ, ◌<◌}
use native.Mathlib.Omega.{arith}
use borrow.Author.Tests.{eqb-true, eq-eqb}
use lib.ListN.{length}
use Rattle.array.specs.Buffer.{long}
use Rattle.array.specs.Map.{mark_at, allowed, mark_test, map_tests, well_formed}
use Rattle.std.specs.Prelude.{Ok}
use Rattle.array.proofs.Bools.{and_one}
use Rattle.array.proofs.Places.{Sized}
use Rattle.array.proofs.Marks.{mark_read}
use Rattle.array.proofs.Maps.{map_accepted}
use Rattle.array.proofs.Verdicts.{accepted_not}
use Rattle.array.proofs.Scans.{scan_each, buffer_scan}

pub record Formed (n m : ℕ) (grid : List ℕ) : Type 0 where
  pub sizes : Sized n m
  pub length_is : length grid ≡ 1024
  pub marks : (p : ℕ) → p < 1024 → allowed n m p (mark_at grid p) ≡ true

pub formed : (n m : ℕ) (grid : List ℕ) → well_formed n m grid ≡ Ok tt → Formed n m grid
formed n m grid h =
    let a = map_accepted n m (long grid && true) grid h in
    let l : length grid ≡ 1024 = eqb-true _ _ (sym (and_one (long grid)) ∙ a.lengths) in
    record {
      sizes = a.sizes;
      length_is = l;
      marks = λ p q.
          ap (λ (k : ℕ). allowed n m p k) (mark_read grid p (omega arith))
          ∙ accepted_not _ 3 p 0 (scan_each (buffer_scan (mark_test n m) grid) a.marks p (omega arith));
    }

-- a well-formed map passes 1 to 3 wherever all lent buffers have their length
pub formed_lent : (n m : ℕ) (grid : List ℕ) (right : Bool) → well_formed n m grid ≡ Ok tt → right ≡ true → map_tests n m right grid ≡ Ok tt
formed_lent n m grid right h e =
    ap (λ (b : Bool). map_tests n m b grid) (e ∙ sym (map_accepted n m (long grid && true) grid h).lengths) ∙ h

-- and then they do
pub grid_and : (n m : ℕ) (grid : List ℕ) (others : Bool) → well_formed n m grid ≡ Ok tt → others ≡ true → (long grid && others) ≡ true
grid_and n m grid others h e = rw (eq-eqb (length grid) 1024 (formed n m grid h).length_is, e)
