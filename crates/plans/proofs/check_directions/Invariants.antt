use Rattle.std.proofs.Common.{length}
use Rattle.array.proofs.Scans.{Seeking, element_test, from_position}
use Rattle.plans.specs.Check.{direction_test, directions_test}
use Rattle.plans.proofs.check_directions.Given as goal

-- the positions before p have no refusal
abbrev pub invariant-loop-p : goal.invariant-loop-p
invariant-loop-p l =
    let m = l.map in
    let f = direction_test m.shape.rows m.shape.columns m.grid.now in
    Seeking (element_test f l.directions) (from_position f l.directions) (length l.directions) l.p
    (directions_test m.shape.rows m.shape.columns m.grid.now l.directions)
