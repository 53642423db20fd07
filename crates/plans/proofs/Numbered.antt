-- The numbers of the plan check, 1 to 7, are document 01's.
-- Assumes nothing.
use Prim.Native.Nat.{ℕ}
use mathlib.Core.Bool.{Bool}
use mathlib.Core.List.{List, [], ◌∷◌}
use Rattle.array.specs.Tests.{first_of}
use Rattle.array.proofs.Numbered.{NumberedVerdict, numbered_or, numbers, map_numbered}
use Rattle.paths.proofs.Numbered.{pair_numbered}
use Rattle.plans.specs.Check.{clash_test, pairs_test, paths_test, plan_tests}
use Rattle.plans.specs.declared.Fault.{Fault}

pairs_numbered : (n m : ℕ) (fs : List Fault) → NumberedVerdict (pairs_test n m fs)
unfolding pairs_test
pairs_numbered n m [] = search numbers
pairs_numbered n m (f ∷ fs) =
    numbered_or (first_of (clash_test n m f) fs) (search (numbers, pair_numbered)) (pairs_numbered n m fs)

pub paths_numbered : (n m : ℕ) (grid : List ℕ) (fs : List Fault) → NumberedVerdict (paths_test n m grid fs)
unfolding paths_test
paths_numbered n m grid fs = search (numbers, pairs_numbered)

pub plan_numbered : (n m : ℕ) (right : Bool) (grid directions : List ℕ)
    → NumberedVerdict (plan_tests n m right grid directions)
unfolding plan_tests
plan_numbered n m right grid directions = search (numbers, map_numbered, paths_numbered)
