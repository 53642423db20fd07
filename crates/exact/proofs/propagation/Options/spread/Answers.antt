use Rattle.std.proofs.Common.{length, ap, ◌∙◌, arith}
use Rattle.exact.proofs.Listing.{still_listed}
use Rattle.exact.proofs.Striking.{judge_no}
use Rattle.exact.proofs.Spreading.{spread_none, spread_next, spread_less}
use Rattle.exact.proofs.propagation.Options.spread.Goals as goal

pub strike-requires : goal.strike-requires
strike-requires c =
    let v = c.loop-f.invariant.1 in
    let x = c.in-Some.ensures in
    (v.held, x.below, x.one, still_listed v.narrowed c.requires.listed)

pub returns-then-not-strike : goal.returns-then-not-strike
returns-then-not-strike c =
    let v = c.loop-f.invariant.1 in
    let e = c.strike.ensures in
    (e.0.0, ap length e.1 ∙ v.done_long, judge_no (spread_none _ _ v (e.0.1.no c.if-not-strike.true)))

pub loop-f-smaller : goal.loop-f-smaller
loop-f-smaller c = rw c.strike.ensures.1 (omega (arith, spread_less _ _ c.loop-f.invariant.1 c.in-Some.ensures))

pub loop-f-preserved : goal.loop-f-preserved
loop-f-preserved c =
    let e = c.strike.ensures in
    let x = c.in-Some.ensures in
    (omega (arith, x.below), rw e.1 (spread_next _ _ c.loop-f.invariant.1 e.0.0 (e.0.1.yes c.if-not-strike.false)))
