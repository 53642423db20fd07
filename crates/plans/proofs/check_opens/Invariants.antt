use Rattle.std.proofs.Common.{length, drop}
use Rattle.array.specs.Tests.{first_of}
use Rattle.array.proofs.Scans.{Seeking}
use Rattle.plans.specs.Faults.{fault_at, paired}
use Rattle.plans.specs.Check.{open_test, opens_test}
use Rattle.plans.proofs.check_opens.Given as goal

-- the paths before the k-th are open
abbrev pub invariant-loop-k : goal.invariant-loop-k
invariant-loop-k l =
    let f = open_test l.map.shape.rows l.map.shape.columns l.map.grid.now in
    Seeking (λ k. f (fault_at l.starts l.ds k)) (λ k. first_of f (drop k (paired l.starts l.ds))) (length l.starts) l.k
    (opens_test l.map.shape.rows l.map.shape.columns l.map.grid.now (paired l.starts l.ds))
