-- How many links to a neighbour an N x M array has: rows and columns are counted apart.
-- Assumes nothing.
use mathlib.Core.Path.{◌≡◌, refl, sym, ap, ◌∙◌}
use mathlib.Core.Bool.{Bool, true, false, cond, ◌&&◌, and_assoc, and_comm}
use mathlib.Core.List.{List, [], ◌∷◌}
use Prim.Native.Nat.{ℕ, zero, suc, ◌+◌, ◌*◌, ◌-◌, ◌≤◌, ◌<◌}
use native.Mathlib.Nat.{add-mul, one-mul, zero-mul, mul_comm}
use native.Mathlib.Omega.{arith}
use borrow.Author.Tests.{eqb-true}
use lib.Dec.{ltb, leb, eqb}
use lib.ListN.{length}
use Rattle.array.specs.Place.{row, column}
use Rattle.array.specs.Buffer.{positions_along, positions_in}
use Rattle.array.proofs.Below.{all_below, passes_below}
use Rattle.array.proofs.Bools.{and_true, by_bool}
use Rattle.runs.specs.Run.{has_neighbour}

-- how many of i, i + 1, .. of k numbers pass a test
unfoldable count : (ℕ → Bool) → ℕ → ℕ → ℕ
count t i zero = 0
count t i (suc k) = cond (t i) 1 0 + count t (suc i) k

-- and of the positions of a list, where the elements do not matter
counted : (t : ℕ → ℕ → Bool) (u : ℕ → Bool) → ((p x : ℕ) → t p x ≡ u p) → (i : ℕ) (b : List ℕ)
    → length (positions_along t i b) ≡ count u i (length b)
unfolding positions_along count
counted t u h i [] = refl
counted t u h i (x ∷ xs) =
    by_bool (u i)
    (λ e. rw (h i x ∙ e, e, counted t u h (suc i) xs) (omega arith))
    (λ e. rw (h i x ∙ e, e, counted t u h (suc i) xs) (omega arith))

-- so many and so many more
count_more : (t : ℕ → Bool) (i j k : ℕ) → count t i (j + k) ≡ count t i j + count t (i + j) k
unfolding count
count_more t i zero k =
    let a : 0 + k ≡ k = omega arith in
    let b : i + 0 ≡ i = omega arith in
    rw (a, b) (omega arith)
count_more t i (suc j) k =
    let a : suc j + k ≡ suc (j + k) = omega arith in
    let b : i + suc j ≡ suc i + j = omega arith in
    rw (a, b) (omega (arith, count_more t (suc i) j k))

-- equal tests pass the same
count_same : (t u : ℕ → Bool) (i j k : ℕ) → ((y : ℕ) → y < k → t (i + y) ≡ u (j + y)) → count t i k ≡ count u j k
unfolding count
count_same t u i j zero h = refl
count_same t u i j (suc k) h =
    let a : i + 0 ≡ i = omega arith in
    let b : j + 0 ≡ j = omega arith in
    let e : t i ≡ u j = rw (a, b) at (h 0 (omega arith)) in
    let l = count_same t u (suc i) (suc j) k (λ y q.
    let c : suc i + y ≡ i + suc y = omega arith in
    let d : suc j + y ≡ j + suc y = omega arith in
    rw (c, d) (h (suc y) (omega arith))) in
    rw (e, l)

none : ℕ → Bool
none y = false

count_none : (i k : ℕ) → count none i k ≡ 0
unfolding count none
count_none i zero = refl
count_none i (suc k) = omega (arith, count_none (suc i) k)

count_nothing : (t : ℕ → Bool) (i : ℕ) → count t i 0 ≡ 0
unfolding count
count_nothing t i = refl

count_one : (t : ℕ → Bool) (i : ℕ) → count t i 1 ≡ cond (t i) 1 0
unfolding count
count_one t i = omega arith

-- The test of a position is one of its row, r, and one of its column, q.
module _ (t r q : ℕ → Bool) (apart : (x y : ℕ) → y < 32 → t (32 * x + y) ≡ (r x && q y)) where
  count_row : (x : ℕ) → count t (32 * x) 32 ≡ cond (r x) 1 0 * count q 0 32
  unfolding none
  count_row x =
      by_bool (r x)
      (λ e. rw e (count_same t q (32 * x) 0 32 (λ y l. let z : 0 + y ≡ y = omega arith in rw z (apart x y l ∙ rw e)) ∙ sym (one-mul (count q 0 32))))
      (λ e. rw e (count_same t none (32 * x) 0 32 (λ y l. apart x y l ∙ rw e) ∙ count_none 0 32 ∙ sym (zero-mul (count q 0 32))))

  count_rows : (k : ℕ) → count t 0 (32 * k) ≡ count r 0 k * count q 0 32
  count_rows zero =
      let z : 32 * 0 ≡ 0 = refl in
      rw (z, count_nothing t 0, count_nothing r 0) (sym (zero-mul (count q 0 32)))
  count_rows (suc k) =
      let a : 32 * suc k ≡ 32 * k + 32 = omega arith in
      let b : suc k ≡ k + 1 = omega arith in
      let c : 0 + 32 * k ≡ 32 * k = omega arith in
      let d : 0 + k ≡ k = omega arith in
      let one_more : count r 0 k + cond (r k) 1 0 ≡ count r 0 (k + 1) =
      ap (λ (z : ℕ). count r 0 k + z) (sym (count_one r k)) ∙ rw d at (sym (count_more r 0 k 1)) in
      ap (λ (z : ℕ). count t 0 z) a
      ∙ count_more t 0 (32 * k) 32
      ∙ rw (c, count_rows k, count_row k) (sym (add-mul (count r 0 k) (cond (r k) 1 0) (count q 0 32)))
      ∙ ap (λ (z : ℕ). z * count q 0 32) one_more
      ∙ ap (λ (z : ℕ). count r 0 z * count q 0 32) (sym b)

-- 1 to k, and 1 to k - 1
abbrev up_to : ℕ → ℕ → Bool
up_to k i = leb 1 i && leb i k

abbrev before : ℕ → ℕ → Bool
before k i = up_to k i && ltb i k

abbrev ranges_right : ℕ → Bool
ranges_right k = eqb (count (up_to k) 0 32) k && eqb (count (before k) 0 32) (k - 1)

ranges : all_below ranges_right 31 ≡ true
unfolding count
ranges = refl

range_of : (k : ℕ) → k ≤ 30 → (count (up_to k) 0 32 ≡ k) × (count (before k) 0 32 ≡ k - 1)
range_of k h =
    let a = and_true (eqb (count (up_to k) 0 32) k) _ (passes_below ranges_right 31 k ranges (omega arith)) in
    (eqb-true _ _ a.0, eqb-true _ _ a.1)

-- the tests of a link to the right and of a link to the lower neighbour
module _ (n m : ℕ) (h : n ≤ 30) (k : m ≤ 30) where
  at : (x y : ℕ) → y < 32 → (row (32 * x + y) ≡ x) × (column (32 * x + y) ≡ y)
  at x y l = (omega arith, omega arith)

  right_apart : (x y : ℕ) → y < 32 → has_neighbour n m 0 (32 * x + y) ≡ (up_to n x && before m y)
  right_apart x y l = let z = at x y l in rw (z.0, z.1) (and_assoc (up_to n x) (up_to m y) (ltb y m))

  lower_apart : (x y : ℕ) → y < 32 → has_neighbour n m 1 (32 * x + y) ≡ (before n x && up_to m y)
  lower_apart x y l =
      let z = at x y l in
      rw (z.0, z.1, and_assoc (up_to n x) (up_to m y) (ltb x n), and_comm (up_to m y) (ltb x n)) (sym (and_assoc (up_to n x) (ltb x n) (up_to m y)))

  -- How many positions of a buffer have a neighbour on a side: the test t asks for nothing else.
  module _ {t : ℕ → ℕ → Bool} (b : List ℕ) (long : length b ≡ 1024) where
    pub right_links : ((p x : ℕ) → t p x ≡ has_neighbour n m 0 p) → length (positions_in t b) ≡ n * (m - 1)
    right_links e =
        counted t (has_neighbour n m 0) e 0 b
        ∙ ap (count (has_neighbour n m 0) 0) long
        ∙ count_rows (has_neighbour n m 0) (up_to n) (before m) right_apart 32
        ∙ rw ((range_of n h).0, (range_of m k).1)

    pub lower_links : ((p x : ℕ) → t p x ≡ has_neighbour n m 1 p) → length (positions_in t b) ≡ m * (n - 1)
    lower_links e =
        counted t (has_neighbour n m 1) e 0 b
        ∙ ap (count (has_neighbour n m 1) 0) long
        ∙ count_rows (has_neighbour n m 1) (before n) (up_to m) lower_apart 32
        ∙ rw ((range_of n h).1, (range_of m k).0) (mul_comm (n - 1) m)
