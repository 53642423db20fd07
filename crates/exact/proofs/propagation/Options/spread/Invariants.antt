use Rattle.std.proofs.Common.{◌≤◌, length}
use Rattle.exact.specs.Inner.{clears_on}
use Rattle.exact.proofs.Spreading.{Spreading, unmarked}
use Rattle.exact.proofs.propagation.Options.spread.Given as goal

-- what is marked is closed, and no solution is lost; with each turn one fault more is marked
abbrev pub invariant-loop-f : goal.invariant-loop-f
invariant-loop-f l =
    let starts = l.problem.faults.starts.now in
    (l.from ≤ length starts)
    × Spreading (length starts) (clears_on starts) l.fn.self.low l.fn.self.high l.self.low l.self.high l.self.done

abbrev pub decreases-loop-f : goal.decreases-loop-f
decreases-loop-f l = unmarked l.self.done
