use Rattle.std.proofs.Common.{refl, ap, ◌∙◌, not, arith}
use Rattle.std.specs.Prelude.{Err}
use Rattle.array.proofs.Scans.{buffer_scan, seek_start, seek_stop_if, seek_pass_if, seek_none}
use Rattle.follower.proofs.check_switches.Goals as goal

pub loop-p-init : goal.loop-p-init
loop-p-init c = seek_start (buffer_scan _ _) 0 (omega arith)

pub returns-then-not-are_switch_bytes : goal.returns-then-not-are_switch_bytes
returns-then-not-are_switch_bytes c =
    ap Err c.at.ensures
    ∙ seek_stop_if c.loop-p.invariant 16 _ 0 (omega arith) refl (ap not c.are_switch_bytes.ensures) (ap not c.if-not-are_switch_bytes.true)

pub loop-p-preserved : goal.loop-p-preserved
loop-p-preserved c =
    seek_pass_if c.loop-p.invariant 16 _ 0 (omega arith) refl (ap not c.are_switch_bytes.ensures) (ap not c.if-not-are_switch_bytes.false)

pub returns : goal.returns
returns c = seek_none c.loop-p.invariant (omega arith)
