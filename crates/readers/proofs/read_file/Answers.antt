use Rattle.std.proofs.Common.{sym, ◌∙◌, ◌≡◌, arith, rules}
use Rattle.std.specs.Prelude.{Err}
use Rattle.formats.proofs.Answers.{number_kept}
use Rattle.readers.proofs.Cases.{size_bound, file_short, no_rows, no_columns, no_count, head_read}
use Rattle.readers.proofs.read_file.Goals as goal

pub returns-then-lent-ne1024 : goal.returns-then-lent-ne1024
returns-then-lent-ne1024 c = rw c.at.ensures (sym (file_short _ _ _ c.if-lent-ne1024.true))

pub returns-in_err-n : goal.returns-in_err-n
returns-in_err-n c =
    let e : c.from_residual.result ≡ Err c.in_err-n.field-0.0 = search rules in
    rw e (sym (no_rows _ _ _ c.if-lent-ne1024.false _ (sym c.read_size.ensures ∙ c.in_err-n.was)))

pub returns-in_err-m : goal.returns-in_err-m
returns-in_err-m c =
    let e : c.from_residual-in_err-m.result ≡ Err c.in_err-m.field-0.0 = search rules in
    rw e
    (sym (no_columns _ _ _ c.if-lent-ne1024.false _ _ (sym c.read_size.ensures ∙ c.in_ok-n.was) _
    (sym c.read_size-2.ensures ∙ c.in_err-m.was)))

pub returns-in_err-count : goal.returns-in_err-count
returns-in_err-count c =
    let e : c.from_residual-in_err-count.result ≡ Err c.in_err-count.field-0.0 = search rules in
    rw e
    (sym (no_count _ _ _ c.if-lent-ne1024.false _ _ (sym c.read_size.ensures ∙ c.in_ok-n.was) _ _
    (sym c.read_size-2.ensures ∙ c.in_ok-m.was) _ (sym (number_kept _ _ c.read_number.ensures) ∙ c.in_err-count.was)))

pub read_body-requires : goal.read_body-requires
read_body-requires c = (
  size_bound _ _ _ _ (sym c.read_size.ensures ∙ c.in_ok-n.was),
  size_bound _ _ _ _ (sym c.read_size-2.ensures ∙ c.in_ok-m.was),
  omega arith,
  c.if-lent-ne1024.false,
)

pub returns : goal.returns
returns c =
    c.read_body.ensures
    ∙ sym (head_read _ _ _ c.if-lent-ne1024.false _ _ (sym c.read_size.ensures ∙ c.in_ok-n.was) _ _
    (sym c.read_size-2.ensures ∙ c.in_ok-m.was) _ _ (sym (number_kept _ _ c.read_number.ensures) ∙ c.in_ok-count.was))
