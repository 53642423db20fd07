-- Where positions come to stand, by rows and columns, and the sizes afterwards.
-- Assumes nothing.
use Prim.Native.Nat.{ℕ, ◌+◌, ◌≤◌}
use mathlib.Core.Path.{◌≡◌, sym, ap₂}
use mathlib.Core.Bool.{Bool, true, false, cond}
use native.Mathlib.Omega.{arith}
use borrow.Author.Tests.{leb-true}
use Rattle.array.specs.Place.{position, row, column}
use Rattle.array.proofs.Bools.{and_true}
use Rattle.array.proofs.Places.{Inner, position_read}
use Rattle.turns.specs.Turn.{Turn, rows_of, columns_of, counted, row_of, column_of, place_of, within}

-- p is in the rows 0 to N + 1 and the columns 0 to M + 1
pub record Within (n m p : ℕ) : Type 0 where
  pub row_in : row p ≤ n + 1
  pub column_in : column p ≤ m + 1

pub within_holds : (n m p : ℕ) → within n m p ≡ true → Within n m p
within_holds n m p h =
    let a = and_true _ _ h in
    record { row_in = leb-true _ _ a.0; column_in = leb-true _ _ a.1 }

pub inner_within : {n m p : ℕ} → Inner n m p → Within n m p
inner_within i = omega arith

pub sizes_high : (t : Turn) (n m : ℕ) → n ≤ 30 → m ≤ 30 → (rows_of t n m ≤ 30) × (columns_of t n m ≤ 30)
sizes_high t n m hn hm = by t.exchange
  where
    by : (a : Bool) → (cond a m n ≤ 30) × (cond a n m ≤ 30)
    by true = (hm, hn)
    by false = (hn, hm)

-- the position where (x, y) comes to stand, and where p does after t and then u
abbrev stands : Turn → ℕ → ℕ → ℕ → ℕ → ℕ
stands t n m x y = position (row_of t n m x y) (column_of t n m x y)

abbrev pub place_then : Turn → Turn → ℕ → ℕ → ℕ → ℕ
place_then t u n m p =
    stands u (rows_of t n m) (columns_of t n m) (row_of t n m (row p) (column p)) (column_of t n m (row p) (column p))

module _ (t : Turn) (n m : ℕ) (hn : n ≤ 30) (hm : m ≤ 30) (p : ℕ) (w : Within n m p) where
  pub place_read : (row (place_of t n m p) ≡ row_of t n m (row p) (column p))
      × (column (place_of t n m p) ≡ column_of t n m (row p) (column p))
  place_read = position_read _ _ (short t.exchange t.mirror)
    where
      short : (a c : Bool) → counted c (cond a n m) (cond a (row p) (column p)) ≤ 31
      short true true = omega arith
      short true false = omega arith
      short false true = omega arith
      short false false = omega arith

  pub place_after : (u : Turn) → place_then t u n m p ≡ place_of u (rows_of t n m) (columns_of t n m) (place_of t n m p)
  place_after u = ap₂ (stands u (rows_of t n m) (columns_of t n m)) (sym place_read.0) (sym place_read.1)
