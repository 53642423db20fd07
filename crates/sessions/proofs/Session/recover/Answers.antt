use Rattle.std.proofs.Common.{false, sym, ◌∙◌}
use Rattle.array.proofs.Verdicts.{passed_on}
use Rattle.sessions.specs.Session.{path_of, changed}
use Rattle.sessions.proofs.Judging.{reported_stops, standing, recovers, refused_leaves, accepted_leaves}
use Rattle.sessions.proofs.Stood.{below, kept_path, used_same}
use Rattle.sessions.proofs.Session.recover.Goals as goal

pub returns-in_err-check_reported-clause-answer : goal.returns-in_err-check_reported-clause-answer
returns-in_err-check_reported-clause-answer c =
    passed_on _ c.from_residual.ensures.1 ∙ sym (reported_stops _ _ false (sym c.in_err-check_reported.ensures))

pub returns-in_err-check_reported-clause-session : goal.returns-in_err-check_reported-clause-session
returns-in_err-check_reported-clause-session c =
    refused_leaves _ _ false (reported_stops _ _ false (sym c.in_err-check_reported.ensures))

pub bounds-self-p : goal.bounds-self-p
bounds-self-p c = below (standing c.args.self.now c.args.p (sym c.in_ok-check_reported.ensures))

-- 22 and 23 where the others are passed
pub returns-in_err-check_used-clause-answer : goal.returns-in_err-check_used-clause-answer
returns-in_err-check_used-clause-answer c =
    let h = sym c.in_ok-check_reported.ensures in
    passed_on _ c.from_residual-in_err-check_used.ensures.1
    ∙ c.in_err-check_used.ensures ∙ used_same (standing c.args.self.now c.args.p h) ∙ sym (recovers _ _ h)

pub returns-in_err-check_used-clause-session : goal.returns-in_err-check_used-clause-session
returns-in_err-check_used-clause-session c =
    let h = sym c.in_ok-check_reported.ensures in
    refused_leaves _ _ false (recovers _ _ h ∙ sym (used_same (standing c.args.self.now c.args.p h)) ∙ sym c.in_err-check_used.ensures)

pub alter_counters-requires : goal.alter_counters-requires
alter_counters-requires c = kept_path (standing c.args.self.now c.args.p (sym c.in_ok-check_reported.ensures))

pub returns-clause-answer : goal.returns-clause-answer
returns-clause-answer c =
    let h = sym c.in_ok-check_reported.ensures in
    c.in_ok-check_used.ensures ∙ used_same (standing c.args.self.now c.args.p h) ∙ sym (recovers _ _ h)

pub returns-clause-session : goal.returns-clause-session
unfolding path_of changed
returns-clause-session c =
    let h = sym c.in_ok-check_reported.ensures in
    c.alter_counters.ensures
    ∙ accepted_leaves _ _ false (recovers _ _ h ∙ sym (used_same (standing c.args.self.now c.args.p h)) ∙ sym c.in_ok-check_used.ensures)
