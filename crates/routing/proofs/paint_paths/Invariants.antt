use Rattle.std.proofs.Common.{length}
use Rattle.plans.specs.Faults.{directions_at}
use Rattle.routing.proofs.Painting.{Traced}
use Rattle.routing.proofs.paint_paths.Given as goal

-- the paths of the last faults are painted
abbrev pub invariant-loop-start : goal.invariant-loop-start
invariant-loop-start l =
    (goal.iterator-loop-start).can_next l.start-iterator
    × (goal.iterator-loop-start).is_finite l.start-iterator
    × Traced l.plan.map.shape.rows l.plan.map.shape.columns l.starts (directions_at l.plan.directions.now l.starts) (length l.yielded) l.traced
