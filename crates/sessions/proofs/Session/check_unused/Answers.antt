use Rattle.std.proofs.Common.{sym, ◌∙◌}
use Rattle.array.proofs.Verdicts.{passed_on, verdict_stops, verdict_passes}
use Rattle.sessions.proofs.Stood.{below, started, faulty_same}
use Rattle.sessions.proofs.Session.check_unused.Goals as goal

pub bounds-self-p : goal.bounds-self-p
bounds-self-p c = below c.requires

pub check_kept-requires : goal.check_kept-requires
check_kept-requires c =
    let s = c.args.self.now in
    started s.rows s.columns s.grid s.directions c.requires.passes

pub returns-in_err-check_mark : goal.returns-in_err-check_mark
returns-in_err-check_mark c =
    let e = c.in_err-check_mark.was in
    passed_on _ c.from_residual.ensures.1 ∙ sym e ∙ verdict_stops (c.check_mark.ensures ∙ faulty_same c.requires) _ e

pub returns : goal.returns
returns c = verdict_passes (c.check_mark.ensures ∙ faulty_same c.requires) _ c.in_ok-check_mark.was c.check_kept.ensures
