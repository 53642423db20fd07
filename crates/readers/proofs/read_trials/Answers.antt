use Rattle.std.proofs.Common.{sym, ◌∙◌}
use Rattle.formats.proofs.Answers.{number_kept}
use Rattle.readers.proofs.Cases.{trials_some}
use Rattle.readers.proofs.read_trials.Goals as goal

pub returns : goal.returns
returns c = λ p.
    let a = c.args in
    c.fill.ensures p
    ∙ sym (trials_some a.s.now a.head a.lent.now a.at p a.directions _ _ (sym (number_kept _ _ c.read_number.ensures) ∙ c.in_ok-trials.was))
