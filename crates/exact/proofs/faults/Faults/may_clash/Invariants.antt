use Rattle.exact.proofs.Listing.{Clearing}
use Rattle.exact.proofs.faults.Faults.may_clash.Given as goal

abbrev pub invariant-loop-i : goal.invariant-loop-i
invariant-loop-i l = Clearing l.self.starts.now l.self.open.now l.f l.g l.i
