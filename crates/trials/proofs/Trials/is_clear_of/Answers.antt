use Rattle.std.proofs.Common.{sym, ◌∙◌, arith}
use borrow.Author.Tests.{eq-eqb, ne_eqb}
use Rattle.trials.proofs.Testing.{entries_next, entries_none}
use Rattle.trials.proofs.Trials.is_clear_of.Goals as goal

pub returns-then-found-ne-CLEAR : goal.returns-then-found-ne-CLEAR
returns-then-found-ne-CLEAR c =
    sym (c.loop-j.invariant ∙ entries_next _ _ _ _ _ _ _ (omega arith) c.find_entry-found.ensures (ne_eqb _ 0 c.if-found-ne-CLEAR.true))

pub loop-j-preserved : goal.loop-j-preserved
loop-j-preserved c =
    c.loop-j.invariant ∙ entries_next _ _ _ _ _ _ _ (omega arith) c.find_entry-found.ensures (eq-eqb _ 0 c.if-found-ne-CLEAR.false)

pub returns : goal.returns
returns c = sym (c.loop-j.invariant ∙ entries_none _ _ _ _ _ _ (omega arith))
