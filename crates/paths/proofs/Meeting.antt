-- A position lies on a path exactly when its row and its column are among those that the path takes up, and two paths share a processor
-- exactly when these overlap. Assumes nothing.
use mathlib.Core.Path.{◌≡◌, refl, ap, subst}
use mathlib.Core.Bool.{Bool, true, cond, ◌&&◌, false≢true}
use mathlib.Core.List.{List, [], ◌∷◌}
use mathlib.Core.Logic.{⊎_elim}
use Prim.Native.Nat.{ℕ, zero, suc, ◌+◌, ◌-◌, ◌*◌, ◌<◌, ◌≤◌, max}
use native.Mathlib.Nat.{max-le, le-max_left, le-max_right}
use native.Mathlib.Omega.{arith}
use borrow.Author.Tests.{eqb-true, eq-eqb, leb-true, le-leb}
use lib.Dec.{leb, eqb}
use Rattle.array.specs.Place.{row, column}
use Rattle.array.specs.Buffer.{span}
use Rattle.array.proofs.Places.{Inner}
use Rattle.array.proofs.Bools.{and_true, or_true, or_left, or_right, bool_ext, by_lt}
use Rattle.paths.specs.Path.{member, share, ahead, path_length, path, meet}
use Rattle.paths.proofs.Ways.{Way, south, north, east, west}

-- q is f j for some j from i on, below i + k
pub record Found (f : ℕ → ℕ) (i k q : ℕ) : Type 0 where
  pub j : ℕ
  pub from : i ≤ j
  pub below : j < i + k
  pub is : q ≡ f j

pub member_elim : (f : ℕ → ℕ) (i k q : ℕ) → member q (span f i k) ≡ true → Found f i k q
unfolding member span
member_elim f i zero q h = absurd (false≢true h)
member_elim f i (suc k) q h =
    ⊎_elim (λ e. record { j = i; from = omega arith; below = omega arith; is = eqb-true q (f i) e })
    (λ t.
    let r = member_elim f (suc i) k q t in
    record { j = r.j; from = omega arith; below = omega arith; is = r.is })
    (or_true (eqb q (f i)) _ h)

pub member_intro : (f : ℕ → ℕ) (i k j : ℕ) → i ≤ j → j < i + k → member (f j) (span f i k) ≡ true
unfolding member span
member_intro f i zero j l h = absurd (omega arith)
member_intro f i (suc k) j l h =
    by_lt i j
    (λ t. or_right (eqb (f j) (f i)) _ (member_intro f (suc i) k j t (omega arith)))
    (λ t.
    let e : j ≡ i = omega arith in
    or_left (eqb (f j) (f i)) _ (eq-eqb (f j) (f i) (ap f e)))

pub record Shared (xs ys : List ℕ) : Type 0 where
  pub q : ℕ
  pub left : member q xs ≡ true
  pub right : member q ys ≡ true

pub share_elim : (xs ys : List ℕ) → share xs ys ≡ true → Shared xs ys
unfolding share member
share_elim [] ys h = absurd (false≢true h)
share_elim (x ∷ xs) ys h =
    ⊎_elim (λ e. record { q = x; left = or_left (eqb x x) _ (eq-eqb x x refl); right = e })
    (λ t.
    let r = share_elim xs ys t in
    record { q = r.q; left = or_right (eqb r.q x) _ r.left; right = r.right })
    (or_true (member x ys) _ h)

pub share_intro : (xs ys : List ℕ) (q : ℕ) → member q xs ≡ true → member q ys ≡ true → share xs ys ≡ true
unfolding share member
share_intro [] ys q h g = absurd (false≢true h)
share_intro (x ∷ xs) ys q h g =
    ⊎_elim (λ e. or_left (member x ys) _ (subst (λ (z : ℕ). member z ys ≡ true) (eqb-true q x e) g))
    (λ t. or_right (member x ys) _ (share_intro xs ys q t g))
    (or_true (eqb q x) _ h)

-- the first and the last row and column that a path takes up
abbrev pub top : ℕ → ℕ → ℕ
top p d = cond (eqb d 2) 0 (row p)

abbrev pub bottom : ℕ → ℕ → ℕ → ℕ
bottom n p d = cond (eqb d 1) (n + 1) (row p)

abbrev pub west_end : ℕ → ℕ → ℕ
west_end p d = cond (eqb d 4) 0 (column p)

abbrev pub east_end : ℕ → ℕ → ℕ → ℕ
east_end m p d = cond (eqb d 3) (m + 1) (column p)

-- whether the rows and the columns of two paths overlap
unfoldable pub overlap : ℕ → ℕ → ℕ → ℕ → ℕ → ℕ → Bool
overlap n m p d q e =
    (leb (top p d) (bottom n q e) && leb (top q e) (bottom n p d))
    && (leb (west_end p d) (east_end m q e) && leb (west_end q e) (east_end m p d))

-- the row and the column of q are among those of the path
pub record Box (n m p d q : ℕ) : Type 0 where
  pub from_top : top p d ≤ row q
  pub to_bottom : row q ≤ bottom n p d
  pub from_west : west_end p d ≤ column q
  pub to_east : column q ≤ east_end m p d

module _ (n m : ℕ) (hn : n ≤ 30) (hm : m ≤ 30) where
  found_box : (p d q : ℕ) → Way d → Inner n m p → Found (ahead p d) 0 (path_length n m p d) q → Box n m p d q
  found_box p d q south i f = record { from_top = omega arith; to_bottom = omega arith; from_west = omega arith; to_east = omega arith }
  found_box p d q north i f = record { from_top = omega arith; to_bottom = omega arith; from_west = omega arith; to_east = omega arith }
  found_box p d q east i f = record { from_top = omega arith; to_bottom = omega arith; from_west = omega arith; to_east = omega arith }
  found_box p d q west i f = record { from_top = omega arith; to_bottom = omega arith; from_west = omega arith; to_east = omega arith }

  pub on_path_box : (p d q : ℕ) → Way d → Inner n m p → member q (path n m p d) ≡ true → Box n m p d q
  unfolding path
  on_path_box p d q w i h = found_box p d q w i (member_elim (ahead p d) 0 (path_length n m p d) q h)

  -- the step at which a path reaches q
  reached : (p d q k : ℕ) → ahead p d k ≡ q → k < path_length n m p d → member q (path n m p d) ≡ true
  unfolding path
  reached p d q k e l =
      subst (λ (z : ℕ). member z (path n m p d) ≡ true) e (member_intro (ahead p d) 0 (path_length n m p d) k (omega arith) (omega arith))

  pub box_on_path : (p d q : ℕ) → Way d → Inner n m p → Box n m p d q → member q (path n m p d) ≡ true
  box_on_path p d q south i b = reached p 1 q (row q - row p) (omega arith) (omega arith)
  box_on_path p d q north i b = reached p 2 q (row p - row q) (omega arith) (omega arith)
  box_on_path p d q east i b = reached p 3 q (column q - column p) (omega arith) (omega arith)
  box_on_path p d q west i b = reached p 4 q (column p - column q) (omega arith) (omega arith)

  -- a path takes up some row and some column, below 32
  record Own (p d : ℕ) : Type 0 where
    pub rows : top p d ≤ bottom n p d
    pub columns : west_end p d ≤ east_end m p d
    pub edge : east_end m p d ≤ 31

  own : (p d : ℕ) → Way d → Inner n m p → Own p d
  own p d south i = record { rows = omega arith; columns = omega arith; edge = omega arith }
  own p d north i = record { rows = omega arith; columns = omega arith; edge = omega arith }
  own p d east i = record { rows = omega arith; columns = omega arith; edge = omega arith }
  own p d west i = record { rows = omega arith; columns = omega arith; edge = omega arith }

  module _ (p d q e : ℕ) (wd : Way d) (we : Way e) (ip : Inner n m p) (iq : Inner n m q) where
    meet_overlap : meet n m p d q e ≡ true → overlap n m p d q e ≡ true
    unfolding meet overlap
    meet_overlap h =
        let s = share_elim (path n m p d) (path n m q e) h in
        let a = on_path_box p d s.q wd ip s.left in
        let b = on_path_box q e s.q we iq s.right in
        rw (
          le-leb (top p d) (bottom n q e) (omega arith),
          le-leb (top q e) (bottom n p d) (omega arith),
          le-leb (west_end p d) (east_end m q e) (omega arith),
          le-leb (west_end q e) (east_end m p d) (omega arith),
        )

    overlap_meet : overlap n m p d q e ≡ true → meet n m p d q e ≡ true
    unfolding meet overlap
    overlap_meet h =
        let h0 = and_true _ _ h in
        let h1 = and_true _ _ h0.0 in
        let h2 = and_true _ _ h0.1 in
        let a = own p d wd ip in
        let b = own q e we iq in
        let r = max (top p d) (top q e) in
        let s = max (west_end p d) (west_end q e) in
        let r1 : r ≤ bottom n p d = max-le a.rows (leb-true _ _ h1.1) in
        let r2 : r ≤ bottom n q e = max-le (leb-true _ _ h1.0) b.rows in
        let s1 : s ≤ east_end m p d = max-le a.columns (leb-true _ _ h2.1) in
        let s2 : s ≤ east_end m q e = max-le (leb-true _ _ h2.0) b.columns in
        let z = 32 * r + s in
        let x : row z ≡ r = omega (arith, a.edge) in
        let y : column z ≡ s = omega (arith, a.edge) in
        share_intro (path n m p d) (path n m q e) z
        (box_on_path p d z wd ip (record {
          from_top = rw x (le-max_left _ _);
          to_bottom = rw x r1;
          from_west = rw y (le-max_left _ _);
          to_east = rw y s1;
        }))
        (box_on_path q e z we iq (record {
          from_top = rw x (le-max_right _ _);
          to_bottom = rw x r2;
          from_west = rw y (le-max_right _ _);
          to_east = rw y s2;
        }))

    pub overlap_is_meet : overlap n m p d q e ≡ meet n m p d q e
    overlap_is_meet = bool_ext _ _ overlap_meet meet_overlap
