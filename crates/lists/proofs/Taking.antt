-- The first 1,024 of a list of faults decide its check.
-- Assumes nothing.
use Rattle.std.specs.Prelude.{Ok, Err}
use mathlib.Core.Path.{◌≡◌, refl, ap, ◌∙◌}
use mathlib.Core.List.{List, [], ◌∷◌}
use Prim.Native.Nat.{ℕ, zero, suc, ◌<◌}
use native.Mathlib.Nat.{le_of_suc-le-suc, not-suc-le-zero}
use native.Mathlib.Omega.{arith}
use lib.ListN.{length, take}
use lib.Seq.{take_all}
use Rattle.array.specs.Map.{well_formed}
use Rattle.array.specs.Tests.{Verdict, or_else}
use Rattle.array.proofs.Formed.{formed}
use Rattle.plans.specs.Faults.{faults}
use Rattle.plans.specs.Check.{paths_test}
use Rattle.plans.specs.declared.Fault.{Fault}
use Rattle.lists.specs.FaultList.{entry_test, listed_test, check_fault_list}
use Rattle.lists.proofs.Lists.{listed_positions, positions_length, faults_few}

listed_take : (k : ℕ) (ps : List ℕ) (fs : List Fault) → length ps < k → listed_test ps (take k fs) ≡ listed_test ps fs
unfolding listed_test
listed_take zero ps fs h = absurd (not-suc-le-zero h)
listed_take (suc k) [] [] h = refl
listed_take (suc k) [] (f ∷ fs) h = refl
listed_take (suc k) (p ∷ ps) [] h = refl
listed_take (suc k) (p ∷ ps) (f ∷ fs) h = ap (or_else (entry_test p f)) (listed_take k ps fs (le_of_suc-le-suc h))

later_same : (t a b : Verdict) → (t ≡ Ok tt → a ≡ b) → or_else t a ≡ or_else t b
later_same (Ok tt) a b h = h refl
later_same (Err r) a b h = refl

pub check_take : (n m : ℕ) (grid : List ℕ) (fs : List Fault) → check_fault_list n m grid (take 1024 fs) ≡ check_fault_list n m grid fs
unfolding check_fault_list
check_take n m grid fs =
    later_same (well_formed n m grid) _ _
    (λ h.
    let few = faults_few n m grid (formed n m grid h).length_is in
    ap (λ (v : Verdict). or_else v (paths_test n m grid (take 1024 fs))) (listed_take 1024 (faults n m grid) fs few)
    ∙ later_same (listed_test (faults n m grid) fs) _ _
    (λ l.
    let e = ap length (listed_positions (faults n m grid) fs l) in
    ap (paths_test n m grid) (take_all 1024 fs (omega (arith, e, positions_length fs)))))
