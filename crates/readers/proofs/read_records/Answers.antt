use Rattle.std.proofs.Common.{◌≡◌, ◌-◌, ◌+◌, sym, ◌∙◌, arith, rules}
use Rattle.std.specs.Prelude.{Err}
use Rattle.readers.proofs.Cases.{more, stop, none_left}
use Rattle.readers.proofs.read_records.Goals as goal

pub returns-in_err-next : goal.returns-in_err-next
returns-in_err-next c =
    let e : c.from_residual.result ≡ Err c.in_err-next.field-0.0 = search rules in
    rw e
    (sym (c.loop.invariant.1
    ∙ stop _ _ _ _ _ _ _ _ (omega (arith, c.loop-test.true)) _ _ (sym (rw c.in_err-next.was at c.read_record.ensures))))

pub loop-preserved : goal.loop-preserved
loop-preserved c =
    let n : c.args.head.count - c.loop.counter - 1 ≡ c.args.head.count - (c.loop.counter + 1) = omega arith in (
      omega arith,
      rw n at (c.loop.invariant.1
          ∙ more _ _ _ _ _ _ _ _ (omega (arith, c.loop-test.true)) _ _ _ (sym (rw c.in_ok-next.was at c.read_record.ensures))),
    )

pub returns : goal.returns
returns c =
    let z : c.args.head.count - c.loop.counter ≡ 0 = omega arith in
    sym (c.loop.invariant.1 ∙ rw z (none_left _ _ _ _ _ _ _))
