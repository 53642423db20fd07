use Rattle.std.proofs.Common.{length}
use Rattle.exact.specs.Inner.{clears_on}
use Rattle.exact.proofs.Spreading.{Solving}
use Rattle.exact.proofs.propagation.Options.solve.Given as goal

-- the faults passed have one option each, and no solution comes before
abbrev pub invariant-loop-k : goal.invariant-loop-k
invariant-loop-k l =
    let starts = l.problem.faults.starts.now in
    Solving (length starts) (clears_on starts) l.fn.self.low l.fn.self.high l.k l.self.low l.self.high l.self.done
