use Rattle.std.proofs.Common.{ap, ◌∙◌, ℕ, get_or, arith}
use Rattle.array.proofs.Fills.{fill_start, fill_step, fill_end}
use Rattle.plans.proofs.Pairing.{directions_filled}
use Rattle.plans.proofs.take_directions.Goals as goal

pub loop-k-init : goal.loop-k-init
loop-k-init c = fill_start _ _ (omega arith)

pub bounds-directions-from : goal.bounds-directions-from
bounds-directions-from c = omega (arith, c.from.ensures, c.requires.1 c.loop-k.k (omega arith))

pub loop-k-preserved : goal.loop-k-preserved
loop-k-preserved c =
    fill_step c.loop-k.invariant _ (omega arith) (ap (λ (x : ℕ). get_or c.args.directions.now x 0) c.from.ensures)

pub returns : goal.returns
returns c = fill_end c.loop-k.invariant (omega arith) ∙ directions_filled _ _
