use Rattle.std.proofs.Common.{arith}
use Rattle.array.proofs.Fills.{fill_start, fill_step, fill_end}
use Rattle.routing.proofs.fill_places.Goals as goal

pub loop-p-init : goal.loop-p-init
loop-p-init c = fill_start _ _ (omega arith)

pub loop-p-preserved : goal.loop-p-preserved
loop-p-preserved c = fill_step c.loop-p.invariant _ (omega arith) c.place_at.ensures

pub returns : goal.returns
returns c = fill_end c.loop-p.invariant (omega arith)
