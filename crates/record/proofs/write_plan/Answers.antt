-- The length that `write_plan` answers is within the buffer.
use Rattle.std.proofs.Common.{arith, sym}
use Rattle.std.proofs.lemmas.List.{length-take-le}
use Rattle.record.proofs.Within.{plan_within}
use Rattle.record.proofs.write_plan.Goals as goal

pub slice_bounds-file-end : goal.slice_bounds-file-end
slice_bounds-file-end g c =
    let a = c.args in
    let w = c.write_plan in
    let within = plan_within a.head.rows a.head.columns a.directions.now a.trials _ w.result c.in-Ok.k w.ensures.0 c.in-Ok.is in
    omega (arith, within, w.auto.out)

pub slice_bounds-write_all-end : goal.slice_bounds-write_all-end
slice_bounds-write_all-end g c =
    let a = c.args in
    let w = c.write_plan in
    let within = plan_within a.head.rows a.head.columns a.directions.now a.trials _ w.result c.in-Ok.k w.ensures.0 c.in-Ok.is in
    sym (length-take-le c.in-Ok.k w.new.out (omega (arith, within, w.auto.out)))
