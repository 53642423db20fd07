use Rattle.std.proofs.Common.{sym, ◌∙◌, arith}
use Rattle.array.proofs.Verdicts.{passed_on}
use Rattle.array.proofs.Scans.{seek_start, seek_stop, seek_pass, seek_none}
use Rattle.plans.proofs.Pairing.{faults_scan}
use Rattle.plans.proofs.check_opens.Goals as goal

pub loop-k-init : goal.loop-k-init
loop-k-init c = seek_start (faults_scan _ _ c.requires.same _) 0 (omega arith)

pub returns-in_err-check_open_at : goal.returns-in_err-check_open_at
returns-in_err-check_open_at c =
    let e = c.in_err-check_open_at.was in
    passed_on _ c.from_residual.ensures.1 ∙ sym e ∙ seek_stop c.loop-k.invariant (omega arith) c.check_open_at.ensures e

pub loop-k-preserved : goal.loop-k-preserved
loop-k-preserved c =
    seek_pass c.loop-k.invariant (omega arith) c.check_open_at.ensures c.in_ok-check_open_at.was

pub returns : goal.returns
returns c = seek_none c.loop-k.invariant (omega arith)
