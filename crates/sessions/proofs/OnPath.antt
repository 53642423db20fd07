-- Whether a position lies on a path, by the rows and columns that the path takes up.
-- Assumes nothing.
use Rattle.std.specs.Prelude.{Ok}
use Prim.Native.Nat.{ℕ, ◌+◌}
use mathlib.Core.Path.{◌≡◌, refl, sym, subst}
use mathlib.Core.Bool.{Bool, true, ◌&&◌}
use native.Mathlib.Omega.{arith}
use borrow.Author.Tests.{eqb-true, eq-eqb, leb-true, le-leb}
use lib.Dec.{leb, eqb}
use Rattle.array.specs.Place.{row, column}
use Rattle.array.specs.Buffer.{span}
use Rattle.array.proofs.Bools.{and_true, bool_ext}
use Rattle.paths.specs.Path.{Start, member, path}
use Rattle.paths.proofs.Ways.{start_inner, start_way}
use Rattle.paths.proofs.Meeting.{Box, on_path_box, box_on_path}
use Rattle.sessions.specs.Session.{path_test}

-- where there is no path, nothing lies on it
pub none_there : (n m p q : ℕ) → path_test n m p q 0 ≡ Ok tt
unfolding member path span
none_there n m p q = refl

module _ (n m p q : ℕ) where
  -- a test that is passed in the box of a path
  by_box : {e : ℕ} {test : Bool} → Start n m q e → (test ≡ true → Box n m q e p) → (Box n m q e p → test ≡ true)
      → test ≡ member p (path n m q e)
  by_box {e} {test} s f g =
      bool_ext test (member p (path n m q e))
      (λ h. box_on_path n m s.rows s.columns q e p (start_way s) (start_inner s) (f h))
      (λ h. g (on_path_box n m s.rows s.columns q e p (start_way s) (start_inner s) h))

  -- the same at a direction that is known
  at_direction : {e d : ℕ} {test : Bool} → (Start n m q d → test ≡ member p (path n m q d)) → e ≡ d → Start n m q e
      → test ≡ member p (path n m q e)
  at_direction {test = test} h z s =
      subst (λ (d : ℕ). test ≡ member p (path n m q d)) (sym z) (h (subst (λ (d : ℕ). Start n m q d) z s))

  pub on_south : {e : ℕ} → e ≡ 1 → Start n m q e
      → ((eqb (column p) (column q) && leb (row q) (row p)) && leb (row p) (n + 1)) ≡ member p (path n m q e)
  on_south =
      at_direction
      (λ s.
      by_box s
      (λ h.
      let a = and_true (eqb (column p) (column q) && leb (row q) (row p)) (leb (row p) (n + 1)) h in
      let b = and_true (eqb (column p) (column q)) (leb (row q) (row p)) a.0 in
      let same = eqb-true (column p) (column q) b.0 in
      record {
        from_top = leb-true (row q) (row p) b.1;
        to_bottom = leb-true (row p) (n + 1) a.1;
        from_west = omega (arith, same);
        to_east = omega (arith, same);
      })
      (λ b.
      let same : column p ≡ column q = omega (arith, b.from_west, b.to_east) in
      rw (eq-eqb (column p) (column q) same, le-leb (row q) (row p) b.from_top, le-leb (row p) (n + 1) b.to_bottom)))

  pub on_north : {e : ℕ} → e ≡ 2 → Start n m q e
      → (eqb (column p) (column q) && leb (row p) (row q)) ≡ member p (path n m q e)
  on_north =
      at_direction
      (λ s.
      by_box s
      (λ h.
      let b = and_true (eqb (column p) (column q)) (leb (row p) (row q)) h in
      let same = eqb-true (column p) (column q) b.0 in
      record {
        from_top = omega arith;
        to_bottom = leb-true (row p) (row q) b.1;
        from_west = omega (arith, same);
        to_east = omega (arith, same);
      })
      (λ b.
      let same : column p ≡ column q = omega (arith, b.from_west, b.to_east) in
      rw (eq-eqb (column p) (column q) same, le-leb (row p) (row q) b.to_bottom)))

  pub on_east : {e : ℕ} → e ≡ 3 → Start n m q e
      → ((eqb (row p) (row q) && leb (column q) (column p)) && leb (column p) (m + 1)) ≡ member p (path n m q e)
  on_east =
      at_direction
      (λ s.
      by_box s
      (λ h.
      let a = and_true (eqb (row p) (row q) && leb (column q) (column p)) (leb (column p) (m + 1)) h in
      let b = and_true (eqb (row p) (row q)) (leb (column q) (column p)) a.0 in
      let same = eqb-true (row p) (row q) b.0 in
      record {
        from_top = omega (arith, same);
        to_bottom = omega (arith, same);
        from_west = leb-true (column q) (column p) b.1;
        to_east = leb-true (column p) (m + 1) a.1;
      })
      (λ b.
      let same : row p ≡ row q = omega (arith, b.from_top, b.to_bottom) in
      rw (eq-eqb (row p) (row q) same, le-leb (column q) (column p) b.from_west, le-leb (column p) (m + 1) b.to_east)))

  pub on_west : {e : ℕ} → e ≡ 4 → Start n m q e
      → (eqb (row p) (row q) && leb (column p) (column q)) ≡ member p (path n m q e)
  on_west =
      at_direction
      (λ s.
      by_box s
      (λ h.
      let b = and_true (eqb (row p) (row q)) (leb (column p) (column q)) h in
      let same = eqb-true (row p) (row q) b.0 in
      record {
        from_top = omega (arith, same);
        to_bottom = omega (arith, same);
        from_west = omega arith;
        to_east = leb-true (column p) (column q) b.1;
      })
      (λ b.
      let same : row p ≡ row q = omega (arith, b.from_top, b.to_bottom) in
      rw (eq-eqb (row p) (row q) same, le-leb (column p) (column q) b.to_east)))
