-- The characters at the end are left out one by one.
use Rattle.std.proofs.Common.{◌∙◌, sym, ap}
use Rattle.grids.specs.Reading.{trim}
use Rattle.grids.proofs.Lines.{trim_last, trim_kept, trim_nothing}
use Rattle.grids.proofs.rows.trimmed.Goals as goal

pub returns-then-not-is_blank : goal.returns-then-not-is_blank
returns-then-not-is_blank c =
    let e = c.in-Some.ensures.cases.0 in
    e ∙ sym (trim_kept _ _ (sym c.is_blank.ensures ∙ c.if-not-is_blank.true)) ∙ ap trim (sym e) ∙ c.loop-last.invariant

pub loop-last-preserved : goal.loop-last-preserved
loop-last-preserved c =
    let e = c.in-Some.ensures.cases.0 in
    sym (trim_last _ _ (sym c.is_blank.ensures ∙ c.if-not-is_blank.false)) ∙ ap trim (sym e) ∙ c.loop-last.invariant

pub returns : goal.returns
returns c = trim_nothing _ c.in_default.ensures.cases ∙ c.loop-last.invariant
