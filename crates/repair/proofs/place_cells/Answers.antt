use Rattle.std.proofs.Common.{◌≡◌, sym, ap, ◌∙◌, List, ℕ, Bool, ◌&&◌}
use borrow.Author.Tests.{eqb-true}
use Rattle.array.specs.Buffer.{long}
use Rattle.array.specs.Tests.{Verdict, verdict_of, told}
use Rattle.array.proofs.Bools.{and_true, and_one}
use Rattle.array.proofs.Verdicts.{passed_on, kept_refused, written_accepted}
use Rattle.plans.specs.Check.{plan_tests}
use Rattle.plans.proofs.Tested.{tested_map, tested_directions}
use Rattle.repair.specs.Operations.{place_cells, places_after}
use Rattle.repair.proofs.Calls.{front_long}
use Rattle.repair.proofs.place_cells.Goals as goal

-- the tests of the call, as the code makes them
tested : (n m : ℕ) (grid directions places : List ℕ) {v : Verdict}
    → v ≡ plan_tests n m (long grid && (long directions && long places)) grid directions
    → v ≡ place_cells n m grid directions places
unfolding place_cells
tested n m grid directions places e =
    e ∙ ap (λ (r : Bool). plan_tests n m (long grid && (long directions && r)) grid directions) (sym (and_one (long places)))

pub check_tests-requires : goal.check_tests-requires
check_tests-requires c = let a = c.args in λ h. front_long a.grid.now a.directions.now (long a.places.now) h

pub returns-in_err-plan : goal.returns-in_err-plan
unfolding places_after
returns-in_err-plan c =
    let a = c.args in
    let h = ap verdict_of c.in_err-plan.was in
    let e = tested a.n a.m a.grid.now a.directions.now a.places.now c.check_tests.ensures.tests in
    record { verdict = ap told (passed_on _ c.from_residual.ensures.1 ∙ sym h ∙ e); buffer = kept_refused e _ _ h }

pub unwrap-requires : goal.unwrap-requires
unwrap-requires c =
    let a = c.args in
    let p = sym c.check_tests.ensures.tests ∙ ap verdict_of c.in_ok-plan.was in
    let m = tested_map a.n a.m _ a.grid.now a.directions.now p in
    c.as_mut_array.ensures.variant.1 (eqb-true _ _ (and_true (long a.directions.now) _ (and_true (long a.grid.now) _ m.lengths).1).1)

pub returns : goal.returns
unfolding places_after
returns c =
    let a = c.args in
    let h = ap verdict_of c.in_ok-plan.was in
    let f = c.in_ok-plan.ensures.plan in
    let e = tested a.n a.m a.grid.now a.directions.now a.places.now c.check_tests.ensures.tests in
    record { verdict = ap told (sym h ∙ e); buffer = written_accepted e _ _ h (rw (f.0, f.1, f.2, f.3) at c.place.ensures) }
