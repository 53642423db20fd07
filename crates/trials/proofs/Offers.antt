-- One trial at a time: how the trials of a fault end, by its next trial. For any test of a trial.
-- Assumes nothing.
use Prim.Native.Nat.{ℕ, ◌+◌}
use mathlib.Core.Path.{◌≡◌, refl}
use mathlib.Core.Bool.{Bool, true, false}
use mathlib.Core.List.{List, ◌∷◌}
use Rattle.trials.specs.Trials.{Search, found, exhausted, more, offer}

-- by whether the trial of d is kept, how the faults after it end, and how the directions after d end
abbrev pub next : Bool → Search → ℕ → Search → Search
next true (found k xs) d r = found (1 + k) (d ∷ xs)
next true (exhausted k) d r = more (1 + k) r
next false s d r = more 1 r

pub offer_next : (keep : ℕ → Bool) (go : ℕ → Search) (d : ℕ) (l : List ℕ)
    → offer keep go (d ∷ l) ≡ next (keep d) (go d) d (offer keep go l)
unfolding offer
offer_next keep go d l = by (keep d) (go d)
  where
    by : (b : Bool) (s : Search)
        → ◌≡◌ {A = Search}
        (elim b [
          | true ↦ elim s [ found k xs ↦ found (1 + k) (d ∷ xs) | exhausted k ↦ more (1 + k) (offer keep go l) ]
          | false ↦ more 1 (offer keep go l)
        ])
        (next b s d (offer keep go l))
    by true (found k xs) = refl
    by true (exhausted k) = refl
    by false s = refl
