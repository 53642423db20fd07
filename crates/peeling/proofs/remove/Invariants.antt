use Rattle.peeling.proofs.Removing.{Removing}
use Rattle.peeling.proofs.remove.Given as goal

-- the places before k hold what they shall
abbrev pub invariant-loop-k : goal.invariant-loop-k
invariant-loop-k l = Removing l.at l.fn.left l.k l.left
