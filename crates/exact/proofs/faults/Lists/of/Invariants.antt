use Rattle.std.proofs.Common.{length}
use Rattle.exact.specs.Inner.{clears_on, Alone}
use Rattle.exact.proofs.Listing.{Listing}
use Rattle.exact.proofs.faults.Lists.of.Given as goal

abbrev pub invariant-loop-f : goal.invariant-loop-f
invariant-loop-f l =
    let starts = l.faults.starts.now in
    Listing (length starts) (clears_on starts) (Alone l.faults.open.now) l.f l.lists.names l.lists.ends l.lists.rest
