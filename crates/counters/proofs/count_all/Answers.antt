use Rattle.std.proofs.Common.{◌∙◌, arith}
use Rattle.counters.proofs.Tallies.{tally_zeros, tally_skip, tally_take, tally_end}
use Rattle.counters.proofs.count_all.Goals.{then-direction-ne0, else-direction-ne0}
use Rattle.counters.proofs.count_all.Goals as goal

pub loop-start-init : goal.loop-start-init
loop-start-init c =
    let h = c.requires in (
      tally_zeros h.0 1 h.1,
      tally_zeros h.0 2 h.2,
      tally_zeros h.0 3 h.3,
      tally_zeros h.0 4 h.4,
    )

pub loop-start-preserved : goal.loop-start-preserved
loop-start-preserved c =
    let s = c.loop-start.invariant in
    let kept = c.requires.0 in
    elim c.if-direction-ne0.branch [
      | then-direction-ne0 w ↦ (
        tally_take kept 1 s.0 (omega (arith, kept.long)) (w.south-is ∙ w.alter_all.ensures.0),
        tally_take kept 2 s.1 (omega (arith, kept.long)) (w.north-is ∙ w.alter_all.ensures.1),
        tally_take kept 3 s.2 (omega (arith, kept.long)) (w.east-is ∙ w.alter_all.ensures.2),
        tally_take kept 4 s.3 (omega (arith, kept.long)) (w.west-is ∙ w.alter_all.ensures.3),
      )
      | else-direction-ne0 w ↦
          rw (w.south-is, w.north-is, w.east-is, w.west-is) (
            tally_skip kept 1 s.0 (omega (arith, kept.long)) w.if-direction-ne0.false,
            tally_skip kept 2 s.1 (omega (arith, kept.long)) w.if-direction-ne0.false,
            tally_skip kept 3 s.2 (omega (arith, kept.long)) w.if-direction-ne0.false,
            tally_skip kept 4 s.3 (omega (arith, kept.long)) w.if-direction-ne0.false,
          )
    ]

pub returns : goal.returns
returns c =
    let s = c.loop-start.invariant in
    let kept = c.requires.0 in (
      tally_end kept 1 s.0 (omega (arith, kept.long)),
      tally_end kept 2 s.1 (omega (arith, kept.long)),
      tally_end kept 3 s.2 (omega (arith, kept.long)),
      tally_end kept 4 s.3 (omega (arith, kept.long)),
    )
