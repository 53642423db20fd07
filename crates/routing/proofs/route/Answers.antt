use Rattle.std.proofs.Common.{◌∙◌}
use Rattle.routing.proofs.Agreement.{across_is, down_is}
use Rattle.routing.proofs.route.Goals as goal

pub returns-clause-across : goal.returns-clause-across
returns-clause-across c =
    let w = c.args.plan.now in
    let s = w.map.shape in
    rw c.trace_paths-traced.ensures at c.fill_letters.ensures
    ∙ across_is s.rows s.columns s.small.0 s.small.1 w.map.grid.now w.directions.now

pub returns-clause-down : goal.returns-clause-down
returns-clause-down c =
    let w = c.args.plan.now in
    let s = w.map.shape in
    rw c.trace_paths-traced.ensures at c.fill_letters-2.ensures
    ∙ down_is s.rows s.columns s.small.0 s.small.1 w.map.grid.now w.directions.now
