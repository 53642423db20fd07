use Rattle.runs.specs.Run.{given}
use Rattle.capi.proofs.Kept.{flat_ran}
use Rattle.capi.proofs.run_by.Goals as goal

pub returns : goal.returns
returns c =
    let a = c.args in
    let g = given a.planner a.n a.m a.grid.now a.limit a.directions.now a.places.now a.across.now a.down.now in
    flat_ran g c.run_by.result c.run_by.ensures c.into.ensures
