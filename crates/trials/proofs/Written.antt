-- The direction buffer that holds a plan: read at the faults it gives the plan again, and 0 elsewhere.
-- Assumes nothing.
use Prim.Native.Nat.{ℕ, zero, suc, ◌<◌}
use mathlib.Core.Path.{◌≡◌, refl, sym, ap, ◌∙◌}
use mathlib.Core.Bool.{false, false≢true}
use mathlib.Core.List.{List, [], ◌∷◌}
use native.Mathlib.Nat.{le_of_suc-le-suc, not-suc-le-zero}
use native.Mathlib.Omega.{arith}
use borrow.Author.Tests.{eq-eqb, ne_eqb}
use lib.Dec.{eqb}
use lib.ListN.{length, get_or}
use lib.Seq.{ext_get_or}
use Rattle.array.specs.Buffer.{buffer}
use Rattle.array.specs.Map.{inner_fault}
use Rattle.array.proofs.Fills.{tabulate_at, tabulate_length}
use Rattle.plans.specs.Faults.{faults, directions_at, paired}
use Rattle.plans.proofs.Pairing.{directions_length, direction_at}
use Rattle.plans.proofs.Facts.{fault_below}
use Rattle.plans.proofs.ByPosition.{faults_list}
use Rattle.trials.specs.Search.{direction_of}

-- the direction at a position that is one of the list's, where none stands twice
pub direction_there : (ps xs : List ℕ) (k : ℕ) → length xs ≡ length ps
    → ((i j : ℕ) → i < j → j < length ps → get_or ps i 0 ≡ get_or ps j 0 → ⊥)
    → k < length ps → direction_of (paired ps xs) (get_or ps k 0) ≡ get_or xs k 0
unfolding direction_of paired
direction_there [] xs k e once h = absurd (not-suc-le-zero h)
direction_there (p ∷ ps) [] k e once h = absurd (omega arith)
direction_there (p ∷ ps) (x ∷ xs) zero e once h = rw (eq-eqb p p refl)
direction_there (p ∷ ps) (x ∷ xs) (suc k) e once h =
    let q : eqb (get_or ps k 0) p ≡ false = ne_eqb (get_or ps k 0) p (λ z. once 0 (suc k) (omega arith) h (sym z)) in
    rw q
    (direction_there ps xs k (omega arith) (λ i j l m. once (suc i) (suc j) (omega arith) (omega arith)) (le_of_suc-le-suc h))

-- and at one that is none of them
pub direction_nowhere : (ps xs : List ℕ) (p : ℕ) → ((k : ℕ) → k < length ps → get_or ps k 0 ≡ p → ⊥) → direction_of (paired ps xs) p ≡ 0
unfolding direction_of paired
direction_nowhere [] xs p none = refl
direction_nowhere (q ∷ ps) [] p none = refl
direction_nowhere (q ∷ ps) (x ∷ xs) p none =
    let e : eqb p q ≡ false = ne_eqb p q (λ z. none 0 (omega arith) (sym z)) in
    rw e (direction_nowhere ps xs p (λ k l h. none (suc k) (omega arith) h))

module _ (n m : ℕ) (grid xs : List ℕ) (long : length grid ≡ 1024) (one_each : length xs ≡ length (faults n m grid)) where
  abbrev held : List ℕ
  held = buffer (direction_of (paired (faults n m grid) xs))

  -- read at the faults, the buffer gives the plan again
  pub paths_again : directions_at held (faults n m grid) ≡ xs
  paths_again =
      ext_get_or 0 (directions_at held (faults n m grid)) xs (directions_length held (faults n m grid) ∙ sym one_each)
      (λ k h.
      let l : k < length (faults n m grid) = omega (arith, h, directions_length held (faults n m grid)) in
      direction_at held (faults n m grid) k l
      ∙ tabulate_at (direction_of (paired (faults n m grid) xs)) 1024 (get_or (faults n m grid) k 0) 0 (fault_below n m grid long k l)
      ∙ direction_there (faults n m grid) xs k one_each (faults_list n m grid).once l)

  pub zero_elsewhere : (p : ℕ) → p < 1024 → inner_fault n m grid p ≡ false → get_or held p 0 ≡ 0
  zero_elsewhere p h f =
      tabulate_at (direction_of (paired (faults n m grid) xs)) 1024 p 0 h
      ∙ direction_nowhere (faults n m grid) xs p
      (λ k l e.
      false≢true (sym f ∙ ap (inner_fault n m grid) (sym e) ∙ (faults_list n m grid).each k l))

  pub held_long : length held ≡ 1024
  held_long = tabulate_length (direction_of (paired (faults n m grid) xs)) 1024
