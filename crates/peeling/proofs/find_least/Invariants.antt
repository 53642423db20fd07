use Rattle.peeling.specs.Inner.{Least}
use Rattle.peeling.proofs.find_least.Given as goal

abbrev pub invariant-loop-p : goal.invariant-loop-p
invariant-loop-p l = Least l.d l.left l.p-index l.least
