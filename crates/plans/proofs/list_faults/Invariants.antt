use Rattle.array.specs.Map.{inner_faulty}
use Rattle.array.proofs.Filters.{Collecting}
use Rattle.plans.proofs.list_faults.Given as goal

-- the faults before p are listed
abbrev pub invariant-loop-p : goal.invariant-loop-p
invariant-loop-p l =
    Collecting (inner_faulty l.n l.m) l.grid l.p l.initial.out l.out l.count
