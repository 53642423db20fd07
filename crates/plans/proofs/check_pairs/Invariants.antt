use Rattle.std.proofs.Common.{◌≡◌, ℕ, ◌<◌, ◌+◌, List, length, drop}
use Rattle.std.specs.Prelude.{Ok}
use Rattle.array.specs.Tests.{Verdict, first_of}
use Rattle.array.proofs.Scans.{Seeking}
use Rattle.plans.specs.Faults.{fault_at, paired}
use Rattle.plans.specs.Check.{clash_test, pairs_test}
use Rattle.plans.specs.Inner.{Starts, OpenFaults}
use Rattle.plans.proofs.check_pairs.Given as goal

-- fault i with fault j, and with all from j on
abbrev pair_at : ℕ → ℕ → List ℕ → List ℕ → ℕ → ℕ → Verdict
pair_at n m starts ds i j = clash_test n m (fault_at starts ds i) (fault_at starts ds j)

abbrev pairs_with : ℕ → ℕ → List ℕ → List ℕ → ℕ → ℕ → Verdict
pairs_with n m starts ds i j = first_of (clash_test n m (fault_at starts ds i)) (drop j (paired starts ds))

-- fault i with all later ones, and all pairs from i on
abbrev pairs_of : ℕ → ℕ → List ℕ → List ℕ → ℕ → Verdict
pairs_of n m starts ds i = pairs_with n m starts ds i (i + 1)

abbrev pairs_from : ℕ → ℕ → List ℕ → List ℕ → ℕ → Verdict
pairs_from n m starts ds i = pairs_test n m (drop i (paired starts ds))

-- what holds on every array in which these are starts of open paths
abbrev Sized : (ℕ → ℕ → Type 0) → List ℕ → List ℕ → Type 0
Sized P starts ds = (n m : ℕ) (grid : List ℕ) → Starts n m starts ds → OpenFaults n m grid starts ds → P n m

abbrev pub invariant-loop-j : goal.invariant-loop-j
invariant-loop-j l =
    Sized (λ n m. Seeking (pair_at n m l.starts l.ds l.i) (pairs_with n m l.starts l.ds l.i) (length l.starts) l.j
    (pairs_of n m l.starts l.ds l.i)) l.starts l.ds
    × (l.found ≡ Ok tt) × (l.i < l.j)

abbrev pub invariant-pairs : goal.invariant-pairs
invariant-pairs l =
    Sized (λ n m. Seeking (pairs_of n m l.starts l.ds) (pairs_from n m l.starts l.ds) (length l.starts) l.i
    (pairs_test n m (paired l.starts l.ds))) l.starts l.ds
    × (l.found ≡ Ok tt)
