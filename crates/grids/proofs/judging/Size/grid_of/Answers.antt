use Rattle.std.proofs.Common.{refl, arith}
use Rattle.array.proofs.Fills.{fill_start, fill_step, fill_end}
use Rattle.grids.specs.Reading.{grid_of}
use Rattle.grids.proofs.judging.Size.grid_of.Goals as goal

pub loop-p-init : goal.loop-p-init
loop-p-init c = fill_start _ _ refl

pub loop-p-preserved : goal.loop-p-preserved
loop-p-preserved c = fill_step c.loop-p.invariant _ (omega arith) c.mark_of.ensures

pub returns : goal.returns
unfolding grid_of
returns c = fill_end c.loop-p.invariant (omega arith)
