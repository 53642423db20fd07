use Rattle.std.proofs.Common.{length}
use Rattle.exact.specs.Options.{at}
use Rattle.exact.specs.Problem.{Covered}
use Rattle.exact.specs.Inner.{SomeBelow, Bettered}
use Rattle.exact.proofs.search.try_row.Given as goal

abbrev pub invariant-loop-b : goal.invariant-loop-b
invariant-loop-b l =
    let starts = l.problem.faults.starts.now in
    Bettered starts l.problem.faults.open.now
    (SomeBelow (λ b r. Covered (length starts) (at starts) r l.columns l.a b) l.b) l.fn.best l.best
