use Rattle.std.proofs.Common.{◌∙◌, arith}
use Rattle.counters.proofs.Tallies.{tally_start, tally_skip, tally_take, tally_end}
use Rattle.counters.proofs.count_afresh.Goals.{then-direction-ne0, else-direction-ne0}
use Rattle.counters.proofs.count_afresh.Goals as goal

pub loop-start-init : goal.loop-start-init
loop-start-init c = tally_start c.requires.1 c.args.d

pub loop-start-preserved : goal.loop-start-preserved
loop-start-preserved c =
    let s = c.loop-start.invariant in
    let kept = c.requires.1 in
    elim c.if-direction-ne0.branch [
      | then-direction-ne0 w ↦ tally_take kept c.args.d s (omega (arith, kept.long)) (w.counters-is ∙ w.alter_counters.ensures)
      | else-direction-ne0 w ↦ rw w.counters-is (tally_skip kept c.args.d s (omega (arith, kept.long)) w.if-direction-ne0.false)
    ]

pub returns : goal.returns
returns c = tally_end c.requires.1 c.args.d c.loop-start.invariant (omega (arith, c.requires.1.long))
