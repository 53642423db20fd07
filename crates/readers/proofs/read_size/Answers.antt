use Rattle.std.proofs.Common.{sym, ◌∙◌}
use Rattle.formats.proofs.Answers.{number_kept}
use Rattle.readers.proofs.Cases.{size_refused, size_good, size_bad}
use Rattle.readers.proofs.read_size.Goals as goal

pub returns-in_default : goal.returns-in_default
returns-in_default c = c.in_default.is ∙ sym (size_refused _ _ _ (sym (number_kept _ _ c.read_number-answer.ensures) ∙ c.in_default.is))

pub returns-then-is_size : goal.returns-then-is_size
returns-then-is_size c =
    c.in-Ok.is
    ∙ sym (size_good _ _ _ _ (sym (number_kept _ _ c.read_number-answer.ensures) ∙ c.in-Ok.is) (sym c.is_size.ensures ∙ c.if-is_size.true))

pub returns : goal.returns
returns c =
    rw c.at.ensures
    (sym (size_bad _ _ _ _ (sym (number_kept _ _ c.read_number-answer.ensures) ∙ c.in-Ok.is) (sym c.is_size.ensures ∙ c.if-is_size.false)))
