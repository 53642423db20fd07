use Rattle.std.proofs.Common.{◌∙◌}
use Rattle.routing.proofs.Agreement.{placed_is}
use Rattle.routing.proofs.place.Goals as goal

pub returns : goal.returns
returns c =
    let w = c.args.plan.now in
    rw c.trace_paths.ensures at c.fill_places.ensures ∙ placed_is w.map.shape.rows w.map.shape.columns w.map.grid.now w.directions.now
