use Rattle.std.proofs.Common.{ap, sym, ◌∙◌}
use Rattle.trials.specs.Inner.{finished}
use Rattle.trials.proofs.Writing.{nothing_finished}
use Rattle.trials.proofs.write_found.Goals as goal

pub returns-in-Repaired : goal.returns-in-Repaired
unfolding finished
returns-in-Repaired c = c.write_plan.ensures ∙ sym (ap (finished _ _) c.in-Repaired.is)

pub returns-in-Beyond : goal.returns-in-Beyond
returns-in-Beyond c = c.wipe.ensures ∙ sym (nothing_finished _ _ _ c.in-Beyond.is)
