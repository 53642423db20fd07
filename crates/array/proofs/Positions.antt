-- The list of passing positions is complete and rises: every position of the buffer whose element passes stands in it, once.
-- Assumes nothing.
use mathlib.Core.Path.{◌≡◌, sym, ap, ◌∙◌}
use mathlib.Core.Bool.{Bool, true, false, cond, false≢true}
use mathlib.Core.List.{List, [], ◌∷◌}
use Prim.Native.Nat.{ℕ, zero, suc, ◌+◌, ◌<◌}
use native.Mathlib.Omega.{arith}
use native.Mathlib.Nat.{le_of_suc-le-suc, not-suc-le-zero, add-zero, add-suc, suc-add}
use lib.ListN.{length, get_or}
use Rattle.array.specs.Buffer.{positions_along, positions_in, Ascending, Index}
use Rattle.array.proofs.Filters.{passes_at, hit_along}

module _ (t : ℕ → ℕ → Bool) where
  after : (i p : ℕ) (q : Bool) (r : List ℕ) → Index r p → Index (cond q (i ∷ r) r) p
  after i p true r x = record { k = suc x.k; below = omega (arith, x.below); is = x.is }
  after i p false r x = x

  first : (i p : ℕ) (q : Bool) (r : List ℕ) → q ≡ true → i ≡ p → Index (cond q (i ∷ r) r) p
  first i p true r e h = record { k = 0; below = omega arith; is = h }
  first i p false r e h = absurd (false≢true e)

  along_index : (i : ℕ) (xs : List ℕ) (k : ℕ) → k < length xs → t (i + k) (get_or xs k 0) ≡ true → Index (positions_along t i xs) (i + k)
  unfolding positions_along
  along_index i [] k h e = absurd (not-suc-le-zero h)
  along_index i (x ∷ xs) zero h e =
      first i (i + 0) (t i x) _ (ap (λ (z : ℕ). t z x) (sym (add-zero i)) ∙ e) (sym (add-zero i))
  along_index i (x ∷ xs) (suc k) h e =
      let s : suc i + k ≡ i + suc k = suc-add i k ∙ sym (add-suc i k) in
      after i (i + suc k) (t i x) _
      (rw s at (along_index (suc i) xs k (le_of_suc-le-suc h) (ap (λ (z : ℕ). t z (get_or xs k 0)) s ∙ e)))

  pub position_index : (b : List ℕ) (p : ℕ) → p < length b → passes_at t b p ≡ true → Index (positions_in t b) p
  position_index b p h e =
      let z : 0 + p ≡ p = omega arith in
      rw z at (along_index 0 b p h (ap (λ (q : ℕ). t q (get_or b p 0)) z ∙ e))

  rising_cond : (i : ℕ) (q : Bool) (r : List ℕ)
      → ((k : ℕ) → k < length r → i < get_or r k 0)
      → ((j k : ℕ) → j < k → k < length r → get_or r j 0 < get_or r k 0)
      → (j k : ℕ) → j < k → k < length (cond q (i ∷ r) r) → get_or (cond q (i ∷ r) r) j 0 < get_or (cond q (i ∷ r) r) k 0
  rising_cond i true r above up j zero h l = absurd (not-suc-le-zero h)
  rising_cond i true r above up zero (suc k) h l = above k (le_of_suc-le-suc l)
  rising_cond i true r above up (suc j) (suc k) h l = up j k (le_of_suc-le-suc h) (le_of_suc-le-suc l)
  rising_cond i false r above up j k h l = up j k h l

  along_rising : (i : ℕ) (xs : List ℕ) (j k : ℕ) → j < k → k < length (positions_along t i xs)
      → get_or (positions_along t i xs) j 0 < get_or (positions_along t i xs) k 0
  unfolding positions_along
  along_rising i [] j k h l = absurd (not-suc-le-zero l)
  along_rising i (x ∷ xs) j k h l =
      rising_cond i (t i x) (positions_along t (suc i) xs) (λ k m. let y = hit_along t (suc i) xs k m in omega (arith, y.is))
      (along_rising (suc i) xs) j k h l

  pub positions_rise : (b : List ℕ) → Ascending (positions_in t b)
  positions_rise b j k h l = along_rising 0 b j k h l
