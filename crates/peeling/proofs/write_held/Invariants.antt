use Rattle.peeling.specs.Inner.{positions, directions}
use Rattle.peeling.proofs.Held.{Over}
use Rattle.peeling.proofs.write_held.Given as goal

-- the faults passed are written
abbrev pub invariant-loop-fault : goal.invariant-loop-fault
invariant-loop-fault l = Over (positions l.held) (directions l.held) l.fn.directions l.fault-index l.directions
