use Rattle.std.proofs.Common.{◌≡◌, ◌≤◌, ◌<◌, length}
use Rattle.exact.specs.Inner.{clears_on, Striking}
use Rattle.exact.proofs.propagation.Options.strike_rest.Given as goal

-- the faults passed keep what passes
abbrev pub invariant-loop-g : goal.invariant-loop-g
invariant-loop-g l =
    let starts = l.faults.starts.now in
    (l.self.done ≡ l.fn.self.done)
    × Striking (length starts) (clears_on starts) l.fn.self.low l.fn.self.high l.f (λ j. (l.from ≤ j) × (j < l.g)) l.self.low l.self.high
