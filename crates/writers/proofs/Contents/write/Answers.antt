use Rattle.std.proofs.Common.{sym, ◌∙◌}
use Rattle.array.proofs.Verdicts.{passed_on}
use Rattle.writers.proofs.Accepted.{file_refused, file_accepted}
use Rattle.writers.proofs.Contents.write.Goals as goal

pub returns-in_err-check_buffer : goal.returns-in_err-check_buffer
returns-in_err-check_buffer c =
    let s = c.args.self in
    rw (passed_on _ c.from_residual.ensures.1)
    (sym (file_refused s.kind s.rows s.columns s.buffer.now s.trials c.args.out.now _ (sym c.check_buffer.ensures ∙ c.in_err-check_buffer.was)))

pub write_checked-requires : goal.write_checked-requires
write_checked-requires c = sym c.check_buffer.ensures ∙ c.in_ok-check_buffer.was

pub returns : goal.returns
returns c =
    let s = c.args.self in
    c.write_checked.ensures
    ∙ sym (file_accepted s.kind s.rows s.columns s.buffer.now s.trials c.args.out.now (sym c.check_buffer.ensures ∙ c.in_ok-check_buffer.was))
