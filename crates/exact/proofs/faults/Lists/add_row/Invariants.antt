use Rattle.std.proofs.Common.{◌-◌, ◌≡◌, length}
use Rattle.exact.specs.Options.{at}
use Rattle.exact.specs.Inner.{clears_on, Alone}
use Rattle.exact.proofs.Listing.{Rowing}
use Rattle.exact.proofs.faults.Lists.add_row.Given as goal

-- of the faults passed those that may clash are named
abbrev pub invariant-loop-g : goal.invariant-loop-g
invariant-loop-g l =
    let starts = l.faults.starts.now in
    (l.self.ends ≡ l.fn.self.ends) × (l.self.rest ≡ l.fn.self.rest)
    × Rowing (length starts) (clears_on starts) (Alone l.faults.open.now) l.f (at l.fn.self.ends l.f) l.fn.self.names l.end l.g l.self.names

abbrev pub decreases-loop-g : goal.decreases-loop-g
decreases-loop-g l = length l.faults.starts.now - l.g
