use Rattle.std.proofs.Common.{◌≡◌, sym, ap, ◌∙◌, List, ℕ, Bool, ◌&&◌}
use Rattle.array.specs.Buffer.{long}
use Rattle.array.specs.Tests.{Verdict, verdict_of, told}
use Rattle.array.proofs.Bools.{and_one}
use Rattle.array.proofs.Verdicts.{passed_on, kept_refused, written_accepted}
use Rattle.plans.specs.Check.{plan_tests}
use Rattle.plans.proofs.Tested.{tested_map, tested_directions}
use Rattle.repair.specs.Operations.{route_switches, across_after, down_after}
use Rattle.repair.proofs.Calls.{front_long, back_long}
use Rattle.repair.proofs.route_switches.Goals as goal

-- the tests of the call, as the code makes them
tested : (n m : ℕ) (grid directions across down : List ℕ) {v : Verdict}
    → v ≡ plan_tests n m (long grid && (long directions && (long across && long down))) grid directions
    → v ≡ route_switches n m grid directions across down
unfolding route_switches
tested n m grid directions across down e =
    e ∙ ap (λ (r : Bool). plan_tests n m (long grid && (long directions && (long across && r))) grid directions)
    (sym (and_one (long down)))

pub check_tests-requires : goal.check_tests-requires
check_tests-requires c =
    let a = c.args in λ h. front_long a.grid.now a.directions.now (long a.across.now && long a.down.now) h

pub returns-in_err-plan : goal.returns-in_err-plan
unfolding across_after down_after
returns-in_err-plan c =
    let a = c.args in
    let h = ap verdict_of c.in_err-plan.was in
    let e = tested a.n a.m a.grid.now a.directions.now a.across.now a.down.now c.check_tests.ensures.tests in
    record { verdict = ap told (passed_on _ c.from_residual.ensures.1 ∙ sym h ∙ e); buffers = (kept_refused e _ _ h, kept_refused e _ _ h) }

pub unwrap-requires : goal.unwrap-requires
unwrap-requires c =
    let a = c.args in
    let p = sym c.check_tests.ensures.tests ∙ ap verdict_of c.in_ok-plan.was in
    let m = tested_map a.n a.m _ a.grid.now a.directions.now p in
    let l = back_long a.grid.now a.directions.now a.across.now a.down.now m.lengths in
    c.as_mut_array.ensures.variant.1 l.0

pub unwrap-requires-2 : goal.unwrap-requires-2
unwrap-requires-2 c =
    let a = c.args in
    let p = sym c.check_tests.ensures.tests ∙ ap verdict_of c.in_ok-plan.was in
    let m = tested_map a.n a.m _ a.grid.now a.directions.now p in
    let l = back_long a.grid.now a.directions.now a.across.now a.down.now m.lengths in
    c.as_mut_array-2.ensures.variant.1 l.1

pub returns : goal.returns
unfolding across_after down_after
returns c =
    let a = c.args in
    let h = ap verdict_of c.in_ok-plan.was in
    let f = c.in_ok-plan.ensures.plan in
    let e = tested a.n a.m a.grid.now a.directions.now a.across.now a.down.now c.check_tests.ensures.tests in
    record { verdict = ap told (sym h ∙ e); buffers = (written_accepted e _ _ h (rw (f.0, f.1, f.2, f.3) at c.route.ensures.across), written_accepted e _ _ h (rw (f.0, f.1, f.2, f.3) at c.route.ensures.down)) }
