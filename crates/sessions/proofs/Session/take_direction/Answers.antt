use Rattle.std.proofs.Common.{sym, ◌∙◌}
use Rattle.std.specs.Option.{ok_or}
use Rattle.sessions.proofs.Judging.{found_judged}
use Rattle.sessions.proofs.Session.take_direction.Goals as goal

pub returns : goal.returns
returns c =
    c.ok_or.ensures.value
    ∙ (λ i. ok_or (c.find_direction.ensures i) (c.at.ensures i))
    ∙ found_judged _ _ (sym c.is_inner.ensures ∙ c.if-not-is_inner.false)
