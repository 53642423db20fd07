use Rattle.std.proofs.Common.{ℕ, true, sym, ap, subst, ◌∙◌}
use Rattle.array.proofs.Verdicts.{passed_on}
use Rattle.sessions.specs.Session.{path_of, changed}
use Rattle.sessions.specs.Inner.{PathOrNone}
use Rattle.sessions.proofs.Judging.{reported_stops, standing, unused_stops, taking_stops, failing_passes, refused_leaves, accepted_leaves}
use Rattle.sessions.proofs.Stood.{below, taken_path}
use Rattle.sessions.proofs.Session.fail.Goals as goal

pub returns-in_err-check_reported-clause-answer : goal.returns-in_err-check_reported-clause-answer
returns-in_err-check_reported-clause-answer c =
    passed_on _ c.from_residual.ensures.1 ∙ sym (reported_stops _ _ true (sym c.in_err-check_reported.ensures))

pub returns-in_err-check_reported-clause-session : goal.returns-in_err-check_reported-clause-session
returns-in_err-check_reported-clause-session c =
    refused_leaves _ _ true (reported_stops _ _ true (sym c.in_err-check_reported.ensures))

pub check_unused-requires : goal.check_unused-requires
check_unused-requires c = standing c.args.self.now c.args.p (sym c.in_ok-check_reported.ensures)

pub returns-in_err-check_unused-clause-answer : goal.returns-in_err-check_unused-clause-answer
returns-in_err-check_unused-clause-answer c =
    passed_on _ c.from_residual-in_err-check_unused.ensures.1
    ∙ sym (unused_stops _ _ (sym c.in_ok-check_reported.ensures) (sym c.in_err-check_unused.ensures))

pub returns-in_err-check_unused-clause-session : goal.returns-in_err-check_unused-clause-session
returns-in_err-check_unused-clause-session c =
    refused_leaves _ _ true (unused_stops _ _ (sym c.in_ok-check_reported.ensures) (sym c.in_err-check_unused.ensures))

pub take_direction-requires : goal.take_direction-requires
take_direction-requires c = standing c.args.self.now c.args.p (sym c.in_ok-check_reported.ensures)

pub returns-in_err-e-clause-answer : goal.returns-in_err-e-clause-answer
returns-in_err-e-clause-answer c =
    passed_on _ c.from_residual-in_err-e.ensures.1
    ∙ sym (taking_stops _ _ (sym c.in_ok-check_reported.ensures) (sym c.in_ok-check_unused.ensures) (sym c.in_err-e.ensures))

pub returns-in_err-e-clause-session : goal.returns-in_err-e-clause-session
returns-in_err-e-clause-session c =
    refused_leaves _ _ true
    (taking_stops _ _ (sym c.in_ok-check_reported.ensures) (sym c.in_ok-check_unused.ensures) (sym c.in_err-e.ensures))

pub bounds-self-p : goal.bounds-self-p
bounds-self-p c = below (standing c.args.self.now c.args.p (sym c.in_ok-check_reported.ensures))

pub bounds-self-p-2 : goal.bounds-self-p-2
bounds-self-p-2 c = below (standing c.args.self.now c.args.p (sym c.in_ok-check_reported.ensures))

pub alter_counters-requires : goal.alter_counters-requires
alter_counters-requires c =
    let s = c.args.self.now in
    let h = sym c.in_ok-check_reported.ensures in
    let f = failing_passes s c.args.p h (sym c.in_ok-check_unused.ensures) (sym c.in_ok-e.ensures) in
    subst (λ (d : ℕ). PathOrNone s.rows s.columns c.args.p d) f.1 (taken_path (standing s c.args.p h))

pub returns-clause-answer : goal.returns-clause-answer
returns-clause-answer c =
    sym (failing_passes _ _ (sym c.in_ok-check_reported.ensures) (sym c.in_ok-check_unused.ensures) (sym c.in_ok-e.ensures)).0

pub returns-clause-session : goal.returns-clause-session
unfolding path_of changed
returns-clause-session c =
    let s = c.args.self.now in
    let f = failing_passes s c.args.p (sym c.in_ok-check_reported.ensures) (sym c.in_ok-check_unused.ensures) (sym c.in_ok-e.ensures) in
    c.alter_counters.ensures ∙ ap (changed s true c.args.p) (sym f.1) ∙ accepted_leaves s c.args.p true f.0
