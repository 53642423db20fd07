use Rattle.std.proofs.Common.{sym, ◌∙◌, arith}
use Rattle.follower.proofs.Nodes.{stands_low}
use Rattle.follower.proofs.wafer.Wafer.stretch_from.Goals as goal

pub returns-then-stands-clause-within : goal.returns-then-stands-clause-within
returns-then-stands-clause-within c =
    let shape = c.args.self.now.plan.map.shape in
    let l = stands_low shape.rows shape.columns c.in_ok-next.next.node (sym c.stands.ensures ∙ c.if-stands.true) in
    (omega (arith, l.0, shape.small), omega (arith, l.1, shape.small))
