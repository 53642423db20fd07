use Rattle.exact.specs.Inner.{SomeBelow, RowCovered, Bettered}
use Rattle.exact.proofs.search.try_pairs.Given as goal

abbrev pub invariant-loop-a : goal.invariant-loop-a
invariant-loop-a l =
    let starts = l.problem.faults.starts.now in
    Bettered starts l.problem.faults.open.now (SomeBelow (RowCovered l.columns starts) l.a) l.fn.best l.best
