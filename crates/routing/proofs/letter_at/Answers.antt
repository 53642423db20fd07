use Rattle.std.proofs.Common.{sym, ◌∙◌, ap, arith}
use Rattle.track.specs.Ports.{stands}
use Rattle.routing.proofs.Agreement.{second_within}
use Rattle.routing.proofs.letter_at.Goals as goal

pub state_at-requires-2 : goal.state_at-requires-2
state_at-requires-2 c =
    let shape = c.args.map.now.shape in
    let within = second_within shape.rows shape.columns shape.small.0 shape.small.1 c.args.switch c.args.p
    (sym (c.stands.ensures ∙ ap (stands shape.rows shape.columns) c.node_under.ensures) ∙ c.if-not-stands.false) in
    omega (arith, c.second.ensures, within)
