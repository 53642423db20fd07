use Rattle.std.proofs.Common.{sym, ◌∙◌, ◌≡◌, rules}
use Rattle.std.specs.Prelude.{Err}
use Rattle.formats.proofs.Answers.{number_kept}
use Rattle.readers.proofs.Cases.{no_row, no_column, no_value, record_marked}
use Rattle.readers.proofs.read_record.Goals as goal

pub returns-in_err-row : goal.returns-in_err-row
returns-in_err-row c =
    let e : c.from_residual.result ≡ Err c.in_err-row.field-0.0 = search rules in
    rw e (sym (no_row _ _ _ _ _ _ _ _ (sym (number_kept _ _ c.read_number.ensures) ∙ c.in_err-row.was)))

pub returns-in_err-column : goal.returns-in_err-column
returns-in_err-column c =
    let e : c.from_residual-in_err-column.result ≡ Err c.in_err-column.field-0.0 = search rules in
    rw e
    (sym (no_column _ _ _ _ _ _ _ _ (sym (number_kept _ _ c.read_number.ensures) ∙ c.in_ok-row.was) _ _
    (sym (number_kept _ _ c.read_number-2.ensures) ∙ c.in_err-column.was)))

pub returns-in_err-value : goal.returns-in_err-value
returns-in_err-value c =
    let e : c.from_residual-in_err-value.result ≡ Err c.in_err-value.field-0.0 = search rules in
    rw e
    (sym (no_value _ _ _ _ _ _ _ _ (sym (number_kept _ _ c.read_number.ensures) ∙ c.in_ok-row.was) _ _
    (sym (number_kept _ _ c.read_number-2.ensures) ∙ c.in_ok-column.was) _ _
    (sym c.read_value.ensures ∙ c.in_err-value.was)))

pub returns : goal.returns
returns c =
    let p = c.requires in
    c.mark.ensures
    ∙ sym (record_marked _ _ _ _ _ _ _ _ (sym (number_kept _ _ c.read_number.ensures) ∙ c.in_ok-row.was) _ _
    (sym (number_kept _ _ c.read_number-2.ensures) ∙ c.in_ok-column.was) (p.0, p.1) p.2 _ _ _
    (sym c.read_value.ensures ∙ c.in_ok-value.was))
