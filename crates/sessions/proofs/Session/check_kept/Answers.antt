use Rattle.std.proofs.Common.{arith, ap, refl, ◌∙◌}
use Rattle.std.specs.Prelude.{Err}
use Rattle.array.proofs.Scans.{buffer_scan, seek_start, seek_stop_if, seek_pass_if, seek_pass, seek_none}
use Rattle.sessions.specs.Session.{path_test}
use Rattle.sessions.proofs.OnPath.{none_there}
use Rattle.sessions.proofs.Session.check_kept.Goals.{else-e-ne0-via-then-e-ne0+else-is_on, else-e-ne0-via-else-e-ne0}
use Rattle.sessions.proofs.Session.check_kept.Goals as goal

pub loop-q-init : goal.loop-q-init
loop-q-init c = seek_start (buffer_scan _ _) 0 (omega arith)

pub returns-then-is_on : goal.returns-then-is_on
returns-then-is_on c =
    let e = c.path.ensures in
    ap Err c.at.ensures
    ∙ seek_stop_if c.loop-q.invariant 23 _ 0 (omega arith) refl (rw (e.0, e.1, e.2, e.3) at c.is_on.ensures) c.if-is_on.true

pub loop-q-preserved : goal.loop-q-preserved
loop-q-preserved c =
    let s = c.args.self.now in
    elim c.else-e-ne0.branch [
      | else-e-ne0-via-then-e-ne0+else-is_on w ↦
          let e = w.path.ensures in
          seek_pass_if c.loop-q.invariant 23 _ 0 (omega arith) refl (rw (e.0, e.1, e.2, e.3) at w.is_on.ensures) w.if-is_on.false
      | else-e-ne0-via-else-e-ne0 w ↦ seek_pass c.loop-q.invariant (omega arith) refl
          (ap (path_test s.rows s.columns c.args.p _) w.if-e-ne0.false ∙ none_there s.rows s.columns c.args.p _)
    ]

pub returns : goal.returns
returns c = seek_none c.loop-q.invariant (omega arith)
