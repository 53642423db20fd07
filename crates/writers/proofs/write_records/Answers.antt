use Rattle.std.proofs.Common.{arith}
use Rattle.formats.proofs.Runs.{run_room, run_step, run_end}
use Rattle.writers.proofs.Records.{records_turn, records_end}
use Rattle.writers.proofs.write_records.Goals as goal

pub write_element-at-requires : goal.write_element-at-requires
write_element-at-requires c =
    (omega arith, run_room c.loop-p.invariant.1 (records_turn c.args.kind c.args.b.now c.loop-p.p (omega arith)))

pub loop-p-preserved : goal.loop-p-preserved
loop-p-preserved c =
    let w = c.write_element-at.ensures in
    (omega arith, run_step c.loop-p.invariant.1 (records_turn c.args.kind c.args.b.now c.loop-p.p (omega arith)) w.0 w.1)

pub returns : goal.returns
returns c = run_end c.loop-p.invariant.1 (records_end c.args.kind c.args.b.now c.loop-p.p (omega arith))
