use Rattle.exact.proofs.Striking.{judge_yes}
use Rattle.exact.proofs.Spreading.{down_ready, down_yes, up_ready, up_judged}
use Rattle.exact.proofs.propagation.Options.settle.Goals as goal

pub spread-requires : goal.spread-requires
spread-requires c = down_ready c.args.k c.requires.0 c.requires.1

pub returns-then-spread : goal.returns-then-spread
returns-then-spread c =
    let e = c.spread.ensures in
    (e.0, e.1, judge_yes (down_yes c.args.k c.requires.0 c.requires.1 c.if-self-k.false (e.2.yes c.if-spread.true)))

pub spread-requires-2 : goal.spread-requires-2
spread-requires-2 c = up_ready c.args.k c.requires.0 c.requires.1

pub returns : goal.returns
returns c =
    let e = c.spread-2.ensures in
    (e.0, e.1, up_judged c.args.k c.requires.0 c.requires.1 (c.spread.ensures.2.no c.if-spread.false) e.2)
