use Rattle.counters.proofs.Tallies.{Tallying}
use Rattle.counters.proofs.count_afresh.Given as goal

abbrev pub invariant-loop-start : goal.invariant-loop-start
invariant-loop-start l = Tallying l.shape.rows l.shape.columns l.directions l.d l.start l.counters
