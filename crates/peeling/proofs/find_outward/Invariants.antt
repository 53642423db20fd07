use Rattle.paths.specs.Path.{is_open}
use Rattle.peeling.proofs.Sides.{Along}
use Rattle.peeling.proofs.find_outward.Given as goal

-- none of the first k faults qualifies
abbrev pub invariant-loop-k : goal.invariant-loop-k
invariant-loop-k l = Along (is_open l.map.shape.rows l.map.shape.columns l.map.grid.now) l.left l.d l.k
