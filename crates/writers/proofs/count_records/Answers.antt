use Rattle.std.proofs.Common.{arith}
use Rattle.array.proofs.Counts.{count_start, count_take, count_skip, count_end}
use Rattle.formats.specs.Records.{record_count}
use Rattle.writers.proofs.count_records.Goals.{then-is_recorded, else-is_recorded}
use Rattle.writers.proofs.count_records.Goals as goal

pub loop-p-init : goal.loop-p-init
loop-p-init c = count_start _ _

pub loop-p-preserved : goal.loop-p-preserved
loop-p-preserved c =
    let s = c.loop-p.invariant in
    let e = c.is_recorded.ensures c.loop-p.p in
    elim c.if-is_recorded.branch [
      | then-is_recorded w ↦ rw w.count-is (count_take s (omega arith) e w.if-is_recorded.true)
      | else-is_recorded w ↦ rw w.count-is (count_skip s (omega arith) e w.if-is_recorded.false)
    ]

pub returns : goal.returns
unfolding record_count
returns c = (count_end c.loop-p.invariant (omega arith), omega arith)
