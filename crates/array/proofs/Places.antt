-- What the tests of a size and of a position say.
-- Assumes nothing.
use mathlib.Core.Path.{◌≡◌}
use mathlib.Core.Bool.{true, false, ◌&&◌, ◌||◌}
use mathlib.Core.Logic.{◌⊎◌, inl, inr}
use Prim.Native.Nat.{ℕ, ◌+◌, ◌≤◌}
use lib.Dec.{eqb}
use borrow.Author.Tests.{leb-true, le-leb, ne_eqb}
use native.Mathlib.Omega.{arith}
use Rattle.array.specs.Place.{size, position, inner_at, corner_at, processor_at, inner, row, column}
use Rattle.array.proofs.Bools.{and_true, and_none}

pub record Sized (n m : ℕ) : Type 0 where
  pub rows_low : 1 ≤ n
  pub rows_high : n ≤ 30
  pub columns_low : 1 ≤ m
  pub columns_high : m ≤ 30

pub sized : (n m : ℕ) → (size n && size m) ≡ true → Sized n m
sized n m h =
    let a = and_true (size n) (size m) h in
    let b = and_true _ _ a.0 in
    let d = and_true _ _ a.1 in
    record {
      rows_low = leb-true _ _ b.0;
      rows_high = leb-true _ _ b.1;
      columns_low = leb-true _ _ d.0;
      columns_high = leb-true _ _ d.1;
    }

pub record InnerAt (n m x y : ℕ) : Type 0 where
  pub row_low : 1 ≤ x
  pub row_high : x ≤ n
  pub column_low : 1 ≤ y
  pub column_high : y ≤ m

pub inner_at_holds : (n m x y : ℕ) → inner_at n m x y ≡ true → InnerAt n m x y
inner_at_holds n m x y h =
    let a = and_true _ _ h in
    let b = and_true _ _ a.0 in
    let d = and_true _ _ a.1 in
    record {
      row_low = leb-true _ _ b.0;
      row_high = leb-true _ _ b.1;
      column_low = leb-true _ _ d.0;
      column_high = leb-true _ _ d.1;
    }

abbrev pub Inner : ℕ → ℕ → ℕ → Type 0
Inner n m p = InnerAt n m (row p) (column p)

pub inner_holds : (n m p : ℕ) → inner n m p ≡ true → Inner n m p
inner_holds n m p h = inner_at_holds n m (row p) (column p) h

-- A position in the rows and columns of the array is no corner where its row or its column is one of cells.
no_corner : (n m x y : ℕ) → ((1 ≤ x) × (x ≤ n)) ⊎ ((1 ≤ y) × (y ≤ m)) → corner_at n m x y ≡ false
no_corner n m x y (inl (low, high)) = rw (ne_eqb x 0 (omega arith), ne_eqb x (n + 1) (omega arith))
no_corner n m x y (inr (low, high)) = rw (ne_eqb y 0 (omega arith), ne_eqb y (m + 1) (omega arith)) (and_none (eqb x 0 || eqb x (n + 1)))

pub stands_between : (n m x y : ℕ) → x ≤ n + 1 → y ≤ m + 1 → ((1 ≤ x) × (x ≤ n)) ⊎ ((1 ≤ y) × (y ≤ m)) → processor_at n m x y ≡ true
stands_between n m x y h g between = rw (le-leb x (n + 1) h, le-leb y (m + 1) g, no_corner n m x y between)

pub inner_stands : (n m x y : ℕ) → inner_at n m x y ≡ true → processor_at n m x y ≡ true
inner_stands n m x y h =
    let i = inner_at_holds n m x y h in
    stands_between n m x y (omega arith) (omega arith) (inl (i.row_low, i.row_high))

-- a row and a column of cells
pub inner_between : (n m x y : ℕ) → 1 ≤ x → x ≤ n → 1 ≤ y → y ≤ m → inner_at n m x y ≡ true
inner_between n m x y a b c d = rw (le-leb 1 x a, le-leb x n b, le-leb 1 y c, le-leb y m d)

-- the row and the column of a processor
pub processor_within : (n m x y : ℕ) → processor_at n m x y ≡ true → (x ≤ n + 1) × (y ≤ m + 1)
processor_within n m x y h =
    let a = and_true _ _ (and_true _ _ h).0 in
    (leb-true _ _ a.0, leb-true _ _ a.1)

-- what a position is read back as
pub position_read : (x y : ℕ) → y ≤ 31 → (row (position x y) ≡ x) × (column (position x y) ≡ y)
position_read x y h = (omega arith, omega arith)
