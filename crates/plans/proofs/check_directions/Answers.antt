use Rattle.std.proofs.Common.{refl, ap, ◌∙◌, arith}
use Rattle.std.specs.Prelude.{Err}
use Rattle.array.proofs.Scans.{buffer_scan, seek_start, seek_stop_if, seek_pass_if, seek_none}
use Rattle.plans.proofs.check_directions.Goals as goal

pub loop-p-init : goal.loop-p-init
loop-p-init c = seek_start (buffer_scan _ _) 0 (omega arith)

pub returns-then-is_wrong : goal.returns-then-is_wrong
returns-then-is_wrong c =
    ap Err c.at.ensures ∙ seek_stop_if c.loop-p.invariant 4 _ 0 (omega arith) refl c.is_wrong.ensures c.if-is_wrong.true

pub loop-p-preserved : goal.loop-p-preserved
loop-p-preserved c = seek_pass_if c.loop-p.invariant 4 _ 0 (omega arith) refl c.is_wrong.ensures c.if-is_wrong.false

pub returns : goal.returns
returns c = seek_none c.loop-p.invariant (omega arith)
