use Rattle.std.proofs.Common.{sym, ap, subst, ◌∙◌, ◌+◌}
use Rattle.peeling.specs.Inner.{depth, Least}
use Rattle.peeling.proofs.Depths.{least_turn}
use Rattle.peeling.proofs.find_least.Goals as goal

pub loop-p-preserved : goal.loop-p-preserved
loop-p-preserved c =
    subst (Least c.args.d c.args.left.now (c.loop-p.p-index + 1)) (sym c.min-least.ensures)
    (least_turn c.loop-p.invariant (c.depth.ensures ∙ ap (depth c.args.d) c.from.ensures))
