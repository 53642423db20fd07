use Rattle.std.proofs.Common.{arith}
use Rattle.routing.proofs.Painting.{paint_start, paint_step, paint_end}
use Rattle.routing.proofs.paint_path.Goals as goal

pub loop-k-init : goal.loop-k-init
loop-k-init c = paint_start _ _ _ _ _

pub loop-k-preserved : goal.loop-k-preserved
loop-k-preserved c = paint_step c.loop-k.invariant _ (omega arith) c.step.ensures.0

pub returns : goal.returns
returns c = paint_end c.loop-k.invariant (omega arith)
