-- When a path stays open on a grid with other marks.
-- Assumes nothing.
use Prim.Native.Nat.{ℕ, suc, ◌-◌, ◌≤◌}
use mathlib.Core.Path.{◌≡◌, refl, subst}
use mathlib.Core.Bool.{true, false}
use mathlib.Core.List.{List, [], ◌∷◌}
use native.Mathlib.Omega.{arith}
use borrow.Author.Tests.{eq-eqb}
use lib.Dec.{eqb}
use lib.ListN.{drop}
use Rattle.array.specs.Buffer.{span}
use Rattle.array.specs.Map.{faulty}
use Rattle.array.proofs.Bools.{and_true, and_both, or_left, or_right, by_bool}
use Rattle.array.proofs.Places.{Inner}
use Rattle.paths.specs.Path.{member, none_faulty, is_free, may_start, is_open, path, path_length, ahead}
use Rattle.paths.proofs.Ways.{Way, south, north, east, west}
use Rattle.paths.proofs.Walking.{path_long}
use Rattle.paths.proofs.Meeting.{Found, member_elim}
use Rattle.paths.proofs.Opens.{open_alone}

none_intro : (grid xs : List ℕ) → ((q : ℕ) → member q xs ≡ true → faulty grid q ≡ false) → none_faulty grid xs ≡ true
unfolding none_faulty member
none_intro grid [] h = refl
none_intro grid (x ∷ xs) h =
    let f = h x (or_left (eqb x x) _ (eq-eqb x x refl)) in
    rw f (none_intro grid xs (λ q t. h q (or_right (eqb q x) _ t)))

-- a position on a path after its start
abbrev pub After : ℕ → ℕ → ℕ → ℕ → ℕ → Type 0
After n m p d q = member q (drop 1 (path n m p d)) ≡ true

pub after_on : (q : ℕ) (xs : List ℕ) → member q (drop 1 xs) ≡ true → member q xs ≡ true
unfolding member
after_on q [] h = h
after_on q (x ∷ xs) h = or_right (eqb q x) _ h

-- the steps after the start lead away from it
away : (n m p d : ℕ) → n ≤ 30 → m ≤ 30 → Way d → Inner n m p → Found (ahead p d) 1 (path_length n m p d - 1) p → ⊥
away n m p d hn hm south i f = omega arith
away n m p d hn hm north i f = omega arith
away n m p d hn hm east i f = omega arith
away n m p d hn hm west i f = omega arith

module _ (n m p d : ℕ) (hn : n ≤ 30) (hm : m ≤ 30) (w : Way d) (i : Inner n m p) where
  start_not_after : After n m p d p → ⊥
  unfolding path span
  start_not_after h =
      let l = path_long n m p d hn hm w i in
      let e : path_length n m p d ≡ suc (path_length n m p d - 1) = omega (arith, l.0) in
      away n m p d hn hm w i
      (member_elim (ahead p d) 1 (path_length n m p d - 1) p (later (path_length n m p d) (path_length n m p d - 1) e h))
    where
      later : (l k : ℕ) → l ≡ suc k → member p (drop 1 (span (ahead p d) 0 l)) ≡ true
          → member p (span (ahead p d) 1 k) ≡ true
      later l k e h = rw e at h

  -- it may still start there, and no processor after the start has become faulty
  pub open_same : (grid new : List ℕ) → is_open n m grid p d ≡ true
      → (may_start n m grid p d ≡ true → may_start n m new p d ≡ true)
      → ((q : ℕ) → After n m p d q → (q ≡ p → ⊥) → faulty grid q ≡ false → faulty new q ≡ false)
      → is_open n m new p d ≡ true
  unfolding is_open is_free
  open_same grid new h start each =
      and_both (may_start n m new p d) _ (start (and_true (may_start n m grid p d) _ h).0)
      (none_intro new (drop 1 (path n m p d)) (λ q t. each q t (other q t) (was q t)))
    where
      other : (q : ℕ) → After n m p d q → q ≡ p → ⊥
      other q t e = start_not_after (subst (λ (z : ℕ). After n m p d z) e t)

      was : (q : ℕ) → After n m p d q → faulty grid q ≡ false
      was q t =
          by_bool (faulty grid q)
          (λ f. absurd (other q t (open_alone n m p d q grid w h (after_on q (path n m p d) t) f))) (λ f. f)
