use Rattle.counters.proofs.Tallies.{Tallying}
use Rattle.counters.proofs.count_all.Given as goal

abbrev pub invariant-loop-start : goal.invariant-loop-start
invariant-loop-start l =
    Tallying l.shape.rows l.shape.columns l.directions 1 l.start l.south
    × Tallying l.shape.rows l.shape.columns l.directions 2 l.start l.north
    × Tallying l.shape.rows l.shape.columns l.directions 3 l.start l.east
    × Tallying l.shape.rows l.shape.columns l.directions 4 l.start l.west
