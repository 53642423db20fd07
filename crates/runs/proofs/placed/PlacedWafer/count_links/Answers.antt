use Rattle.std.proofs.Common.{◌≡◌, arith}
use Rattle.array.proofs.Counts.{count_start, count_take, count_skip, count_end}
use Rattle.runs.specs.Run.{links_reached}
use Rattle.runs.proofs.placed.PlacedWafer.count_links.Goals.{then-is_reached, else-is_reached}
use Rattle.runs.proofs.placed.PlacedWafer.count_links.Goals as goal

pub loop-p-init : goal.loop-p-init
loop-p-init c = count_start _ _

pub loop-p-preserved : goal.loop-p-preserved
loop-p-preserved c =
    let s = c.loop-p.invariant in
    let m = c.args.self.now.wafer.plan.map in
    elim c.if-is_reached.branch [
      | then-is_reached w ↦ rw w.count-is (count_take s (omega (arith, m.long)) c.is_reached.ensures w.if-is_reached.true)
      | else-is_reached w ↦ rw w.count-is (count_skip s (omega (arith, m.long)) c.is_reached.ensures w.if-is_reached.false)
    ]

pub returns : goal.returns
unfolding links_reached
returns c =
    let m = c.args.self.now.wafer.plan.map in
    (count_end c.loop-p.invariant (omega (arith, m.long)), omega arith)
