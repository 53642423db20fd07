use Rattle.std.proofs.Common.{◌∙◌, arith}
use Rattle.trials.proofs.Writing.{all_zero}
use Rattle.trials.proofs.wipe.Goals as goal

pub returns : goal.returns
returns c = c.fill.ensures.after (λ y e. e) ∙ all_zero c.args.directions.now (omega arith)
