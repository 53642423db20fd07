use Rattle.std.proofs.Common.{◌-◌, arith}
use Rattle.trials.proofs.Writing.{write_start, write_step, write_end}
use Rattle.trials.proofs.write_plan.Goals as goal

pub loop-k-init : goal.loop-k-init
loop-k-init c = write_start _ _ _ c.wipe.ensures

pub loop-k-preserved : goal.loop-k-preserved
loop-k-preserved c =
    rw c.from.ensures (write_step _ _ c.loop-k.invariant (omega arith) c.requires.0 (c.requires.1 (c.loop-k.k - 1) (omega arith)))

pub returns : goal.returns
returns c = write_end _ _ c.loop-k.invariant (omega arith)
