use Rattle.trials.proofs.Writing.{Writing}
use Rattle.trials.proofs.write_plan.Given as goal

-- the faults from k on are written, last fault first, so that each store is one turn of the definition
abbrev pub invariant-loop-k : goal.invariant-loop-k
invariant-loop-k l = Writing l.starts l.chosen l.k l.directions
