use Rattle.std.proofs.Common.{ap, sym, ◌∙◌, ⊎_elim}
use Rattle.peeling.specs.Inner.{completed_by}
use Rattle.peeling.proofs.complete.Goals as goal

pub returns-in-Repaired : goal.returns-in-Repaired
unfolding completed_by
returns-in-Repaired c = c.write_held.ensures ∙ sym (ap (completed_by _ _) c.in-Repaired.is)

pub returns-in-Beyond : goal.returns-in-Beyond
unfolding completed_by
returns-in-Beyond c = ⊎_elim (λ e. sym (ap (completed_by _ _) e.1)) (λ e. sym (ap (completed_by _ _) e.1)) c.in-Beyond.is
