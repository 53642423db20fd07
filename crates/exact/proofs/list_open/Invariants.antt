use Rattle.exact.proofs.Pairs.{Tabling}
use Rattle.exact.proofs.list_open.Given as goal

abbrev pub invariant-loop-i : goal.invariant-loop-i
invariant-loop-i l = Tabling l.map.shape.rows l.map.shape.columns l.map.grid.now l.starts l.i l.open
