-- Line by line, what is left of the text ends as the whole text does.
use Rattle.std.proofs.Common.{rules, ◌∙◌, sym, ap, arith, eqb-true, length}
use Rattle.std.proofs.lemmas.Bool.{eqb-false}
use Rattle.grids.specs.Parts.{taken}
use Rattle.grids.proofs.RowLaws.{text_on, text_stop, text_end, shorter}
use Rattle.grids.proofs.rows.Rows.take_lines.Goals as goal

pub returns-in_err-take_line : goal.returns-in_err-take_line
returns-in_err-take_line c =
    let l = c.loop-rest in
    let some = eqb-false (length l.rest.now) 0 (sym c.is_empty.ensures ∙ c.loop-rest-test.true) in
    let t = c.take_line in
    let wrong = sym t.ensures ∙ ap (λ z. taken z t.new.self) c.in_err-take_line.was in
    search (
      rules,
      sym l.invariant.0
          ∙ text_stop l.rest.now _ _ _ l.line l.self some c.cut_line.ensures.line c.cut_line.ensures.after c.trimmed.ensures c.in_err-take_line.field-0.0
          wrong,
    )

pub loop-rest-preserved : goal.loop-rest-preserved
loop-rest-preserved c =
    let l = c.loop-rest in
    let some = eqb-false (length l.rest.now) 0 (sym c.is_empty.ensures ∙ c.loop-rest-test.true) in
    let t = c.take_line in
    let next = sym t.ensures ∙ ap (λ z. taken z t.new.self) c.in_ok-take_line.was in
    let short = shorter l.rest.now _ some c.cut_line.ensures.after in (
      sym (text_on l.rest.now _ _ _ l.line l.self some c.cut_line.ensures.line c.cut_line.ensures.after c.trimmed.ensures t.new.self next) ∙ l.invariant.0,
      omega (arith, l.invariant.1),
    )

pub returns : goal.returns
returns c =
    let l = c.loop-rest in
    sym (text_end l.rest.now l.line l.self (eqb-true _ _ (sym c.is_empty.ensures ∙ c.loop-rest-test.false))) ∙ l.invariant.0
