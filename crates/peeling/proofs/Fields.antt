-- One field of each of the settled faults in an array, place by place.
-- Assumes nothing.
use Rattle.std.proofs.Common.{◌≡◌, refl, sym, ap, ℕ, zero, suc, ◌<◌, List, [], ◌∷◌, length, get_or, set, take, map}
use native.Mathlib.Nat.{le_of_suc-le-suc, not-suc-le-zero}
use Rattle.peeling.specs.declared.Settled.{Settled}

abbrev pub none : Settled
none = record { position = 0; direction = 0 }

module _ (field : Settled → ℕ) (zeroed : field none ≡ 0) where
  pub of_length : (fs : List Settled) → length (map field fs) ≡ length fs
  of_length [] = refl
  of_length (f ∷ fs) = ap suc (of_length fs)

  pub of_at : (fs : List Settled) (k : ℕ) → get_or (map field fs) k 0 ≡ field (get_or fs k none)
  of_at [] k = sym zeroed
  of_at (f ∷ fs) zero = refl
  of_at (f ∷ fs) (suc k) = of_at fs k

  pub of_set : (fs : List Settled) (k : ℕ) (x : Settled) → map field (set fs k x) ≡ set (map field fs) k (field x)
  of_set [] k x = refl
  of_set (f ∷ fs) zero x = refl
  of_set (f ∷ fs) (suc k) x = ap (λ (l : List ℕ). field f ∷ l) (of_set fs k x)

  pub of_take : (fs : List Settled) (n k : ℕ) → k < n → get_or (map field (take n fs)) k 0 ≡ get_or (map field fs) k 0
  of_take fs zero k h = absurd (not-suc-le-zero h)
  of_take [] (suc n) k h = refl
  of_take (f ∷ fs) (suc n) zero h = refl
  of_take (f ∷ fs) (suc n) (suc k) h = of_take fs n k (le_of_suc-le-suc h)
