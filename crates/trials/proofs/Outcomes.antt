-- What an outcome says of the trials that it is of.
-- Assumes nothing.
use Prim.Native.Nat.{ℕ, ◌<◌, ◌≤◌}
use mathlib.Core.Path.{◌≡◌, refl}
use mathlib.Core.Logic.{◌⊎◌, inl, inr}
use mathlib.Core.List.{List}
use native.Mathlib.Omega.{arith}
use borrow.Author.Tests.{le-leb, lt-leb}
use Rattle.array.proofs.Bools.{by_lt}
use Rattle.trials.specs.Trials.{Search, found, exhausted, count}
use Rattle.trials.specs.Search.{outcome}
use Rattle.trials.specs.declared.Outcome.TheVariants.{Repaired, Beyond, Spent}

module _ (limit : ℕ) where
  pub above_spent : (s : Search) → limit < count s → outcome limit s ≡ Spent limit
  unfolding outcome
  above_spent (found k xs) h = rw (lt-leb k limit h)
  above_spent (exhausted k) h = rw (lt-leb k limit h)

  pub found_repaired : (k : ℕ) (xs : List ℕ) → k ≤ limit → outcome limit (found k xs) ≡ Repaired k
  unfolding outcome
  found_repaired k xs h = rw (le-leb k limit h)

  pub exhausted_beyond : (k : ℕ) → k ≤ limit → outcome limit (exhausted k) ≡ Beyond k
  unfolding outcome
  exhausted_beyond k h = rw (le-leb k limit h)

  pub carried : (s : Search) → count s ≤ limit → (outcome limit s ≡ Repaired (count s)) ⊎ (outcome limit s ≡ Beyond (count s))
  carried (found k xs) h = inl (found_repaired k xs h)
  carried (exhausted k) h = inr (exhausted_beyond k h)

  pub spent_above : (s : Search) → outcome limit s ≡ Spent limit → limit < count s
  spent_above s e = by_lt limit (count s) (λ l. l) (λ l. absurd (never s l e))
    where
      never : (s : Search) → count s ≤ limit → outcome limit s ≡ Spent limit → ⊥
      never (found k xs) l e =
          let r = found_repaired k xs l in
          let z : ◌≡◌ {A = ℕ} 0 1 = cc in
          omega arith
      never (exhausted k) l e =
          let r = exhausted_beyond k l in
          let z : ◌≡◌ {A = ℕ} 0 1 = cc in
          omega arith

  -- trials that end beyond repair are exhausted
  pub beyond_exhausted : (s : Search) (t : ℕ) → outcome limit s ≡ Beyond t → s ≡ exhausted (count s)
  beyond_exhausted (exhausted k) t e = refl
  beyond_exhausted (found k xs) t e =
      by_lt limit k
      (λ l.
      let r = above_spent (found k xs) l in
      let z : ◌≡◌ {A = ℕ} 0 1 = cc in
      absurd (omega arith))
      (λ l.
      let r = found_repaired k xs l in
      let z : ◌≡◌ {A = ℕ} 0 1 = cc in
      absurd (omega arith))

  -- trials that end repaired have found a plan, within the limit
  pub record FoundWithin (s : Search) : Type 0 where
    pub xs : List ℕ
    pub is : s ≡ found (count s) xs
    pub within : count s ≤ limit

  pub repaired_found : (s : Search) (t : ℕ) → outcome limit s ≡ Repaired t → FoundWithin s
  repaired_found (found k xs) t e =
      record {
        xs = xs;
        is = refl;
        within =
            by_lt limit k
            (λ l.
            let r = above_spent (found k xs) l in
            let z : ◌≡◌ {A = ℕ} 0 1 = cc in
            absurd (omega arith))
            (λ l. l);
      }
  repaired_found (exhausted k) t e =
      by_lt limit k
      (λ l.
      let r = above_spent (exhausted k) l in
      let z : ◌≡◌ {A = ℕ} 0 1 = cc in
      absurd (omega arith))
      (λ l.
      let r = exhausted_beyond k l in
      let z : ◌≡◌ {A = ℕ} 0 1 = cc in
      absurd (omega arith))
