-- The direction of the path through a position is that of a fault whose path has it, wherever some fault's path has it.
-- Assumes nothing.
use mathlib.Core.Path.{◌≡◌, refl, sym, ◌∙◌}
use mathlib.Core.Bool.{Bool, true, false}
use mathlib.Core.List.{List, [], ◌∷◌}
use mathlib.Core.Logic.{◌⊎◌, inl, inr, ⊎_elim}
use Prim.Native.Nat.{ℕ, zero, suc, ◌<◌}
use native.Mathlib.Omega.{arith}
use native.Mathlib.Nat.{le_of_suc-le-suc, not-suc-le-zero}
use lib.ListN.{length, get_or}
use Rattle.array.proofs.Bools.{by_bool}
use Rattle.paths.specs.Path.{path, member}
use Rattle.plans.specs.Faults.{directions_at, paired}
use Rattle.track.specs.Placement.{through}

-- a fault of the list whose path, of direction d, has q on it
pub record Passing (n m : ℕ) (ds ps : List ℕ) (q d : ℕ) : Type 0 where
  pub k : ℕ
  pub below : k < length ps
  pub on : member q (path n m (get_or ps k 0) (get_or ds (get_or ps k 0) 0)) ≡ true
  pub is : get_or ds (get_or ps k 0) 0 ≡ d

module _ (n m : ℕ) (ds : List ℕ) (q : ℕ) where
  abbrev over : List ℕ → ℕ
  over ps = through n m (paired ps (directions_at ds ps)) q

  abbrev crosses : ℕ → Bool
  crosses p = member q (path n m p (get_or ds p 0))

  here : (p : ℕ) (ps : List ℕ) → crosses p ≡ true → over (p ∷ ps) ≡ get_or ds p 0
  unfolding through paired directions_at
  here p ps e = rw e

  later : (p : ℕ) (ps : List ℕ) → crosses p ≡ false → over (p ∷ ps) ≡ over ps
  unfolding through paired directions_at
  later p ps e = rw e

  first : (p : ℕ) (ps : List ℕ) → crosses p ≡ true → Passing n m ds (p ∷ ps) q (over (p ∷ ps))
  first p ps e = record { k = 0; below = omega arith; on = e; is = sym (here p ps e) }

  after : (p : ℕ) (ps : List ℕ) → crosses p ≡ false → Passing n m ds ps q (over ps) → Passing n m ds (p ∷ ps) q (over (p ∷ ps))
  after p ps e r =
      record { k = suc r.k; below = omega (arith, r.below); on = r.on; is = r.is ∙ sym (later p ps e) }

  pub through_cases : (ps : List ℕ) → (over ps ≡ 0) ⊎ Passing n m ds ps q (over ps)
  unfolding through paired directions_at
  through_cases [] = inl refl
  through_cases (p ∷ ps) =
      by_bool (crosses p) (λ e. inr (first p ps e))
      (λ e. ⊎_elim (λ z. inl (later p ps e ∙ z)) (λ r. inr (after p ps e r)) (through_cases ps))

  pub through_met : (ps : List ℕ) (k : ℕ) → k < length ps → crosses (get_or ps k 0) ≡ true → Passing n m ds ps q (over ps)
  through_met [] k h e = absurd (not-suc-le-zero h)
  through_met (p ∷ ps) zero h e = first p ps e
  through_met (p ∷ ps) (suc k) h e =
      by_bool (crosses p) (λ a. first p ps a) (λ a. after p ps a (through_met ps k (le_of_suc-le-suc h) e))
