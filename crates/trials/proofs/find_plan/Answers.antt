use Rattle.std.proofs.Common.{arith}
use lib.Seq.{length-take-le}
use Rattle.trials.proofs.Planning.{ready, starts_below, planned_end}
use Rattle.trials.proofs.find_plan.Goals as goal

pub search_within-found-requires : goal.search_within-found-requires
search_within-found-requires c =
    let l = c.list_faults-count.ensures in
    let m = c.args.map.now in
    (ready l m.shape.small.0 m.shape.small.1 m.long, omega (arith, l.size, l.short), omega (arith, l.size, l.short))

pub write_found-requires : goal.write_found-requires
write_found-requires c =
    let l = c.list_faults-count.ensures in
    let e = length-take-le c.list_faults-count.result c.search_within-found.new.chosen (omega (arith, l.short)) in
    (omega (arith, l.size, e), starts_below l c.args.map.now.long)

pub returns : goal.returns
returns c =
    planned_end c.list_faults-count.ensures _ _ _ _ c.search_within-found.ensures.outcome c.search_within-found.ensures.plan c.write_found.ensures
