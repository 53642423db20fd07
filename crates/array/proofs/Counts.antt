-- A count of passing elements: the law of every loop that counts the positions whose element passes a test.
-- Assumes nothing.
use mathlib.Core.Path.{◌≡◌, sym, ◌∙◌}
use mathlib.Core.Bool.{Bool, true, false}
use mathlib.Core.List.{List}
use Prim.Native.Nat.{ℕ, suc, ◌+◌, ◌<◌, ◌≤◌}
use native.Mathlib.Numerals.{add-one}
use native.Mathlib.Omega.{arith}
use lib.ListN.{length, drop, drop_of_length-le}
use lib.Seq.{drop-cons}
use Rattle.array.specs.Buffer.{positions_along, positions_in}
use Rattle.array.proofs.Filters.{passes_at}

-- how many are still to be counted from position p on
abbrev left_from : (ℕ → ℕ → Bool) → List ℕ → ℕ → ℕ
left_from t b p = length (positions_along t p (drop p b))

module _ (t : ℕ → ℕ → Bool) (b : List ℕ) (p : ℕ) where
  left_more : p < length b → passes_at t b p ≡ true → left_from t b p ≡ suc (left_from t b (p + 1))
  unfolding positions_along
  left_more h e = rw (drop-cons b p 0 h, e, add-one p)

  left_same : p < length b → passes_at t b p ≡ false → left_from t b p ≡ left_from t b (p + 1)
  unfolding positions_along
  left_same h e = rw (drop-cons b p 0 h, e, add-one p)

  left_none : length b ≤ p → left_from t b p ≡ 0
  unfolding positions_along
  left_none h = rw (drop_of_length-le b h)

-- The invariant of such a loop at p.
pub record Counting (t : ℕ → ℕ → Bool) (b : List ℕ) (p count : ℕ) : Type 0 where
  pub within : p ≤ length b
  pub low : count ≤ p
  pub all : count + left_from t b p ≡ length (positions_in t b)

pub count_start : (t : ℕ → ℕ → Bool) (b : List ℕ) → Counting t b 0 0
count_start t b = record { within = omega arith; low = omega arith; all = omega arith }

module _ {t : ℕ → ℕ → Bool} {b : List ℕ} {p count : ℕ} (s : Counting t b p count) where
  -- a turn, where the test of the element at p is answered as r
  module _ {r : Bool} (h : p < length b) (e : r ≡ passes_at t b p) where
    pub count_take : r ≡ true → Counting t b (p + 1) (count + 1)
    count_take q = record { within = omega arith; low = omega (arith, s.low); all = omega (arith, s.all, left_more t b p h (sym e ∙ q)) }

    pub count_skip : r ≡ false → Counting t b (p + 1) count
    count_skip q = record { within = omega arith; low = omega (arith, s.low); all = omega (arith, s.all, left_same t b p h (sym e ∙ q)) }

  pub count_end : length b ≤ p → count ≡ length (positions_in t b)
  count_end h = omega (arith, s.all, left_none t b p h)
