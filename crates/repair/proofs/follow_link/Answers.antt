use Rattle.std.proofs.Common.{◌≡◌, sym, ap, ◌∙◌, ℕ, Bool, ◌&&◌}
use borrow.Author.Tests.{ltb-true}
use Rattle.array.specs.Buffer.{long}
use Rattle.array.specs.Tests.{Verdict, verdict_of}
use Rattle.array.proofs.Bools.{and_true, and_one}
use Rattle.array.proofs.Verdicts.{passed_on}
use Rattle.plans.proofs.Tested.{tested_map, tested_directions}
use Rattle.array.specs.Place.{inner}
use Rattle.track.specs.Follower.{told, followed}
use Rattle.track.specs.Ports.{Wafer, wafer}
use Rattle.repair.specs.Operations.{link_tests, follow_test, follow_link}
use Rattle.repair.proofs.Calls.{front_long, back_long, follow_refused, follow_accepted, link_tested}
use Rattle.repair.proofs.follow_link.Goals as goal

-- the tests of the call, as the code makes them
tested : (w : Wafer) (cell side : ℕ) {v : Verdict}
    → v ≡ link_tests w (long w.grid && (long w.directions && (long w.across && long w.down))) cell side
    → v ≡ follow_test w cell side
tested w cell side e =
    e ∙ ap (λ (r : Bool). link_tests w (long w.grid && (long w.directions && (long w.across && r))) cell side) (sym (and_one (long w.down)))

pub check_link-requires : goal.check_link-requires
check_link-requires c = λ h.
    let a = c.args in
    let f = front_long a.grid.now a.directions.now (long a.across.now && long a.down.now) h in
    let b = back_long a.grid.now a.directions.now a.across.now a.down.now h in
    (f.0, f.1, b.0, b.1)

pub returns-in_err-wafer : goal.returns-in_err-wafer
unfolding follow_link
returns-in_err-wafer c =
    let a = c.args in
    let h = (ap verdict_of c.in_err-wafer.was) in
    let e = tested (wafer a.n a.m a.grid.now a.directions.now a.across.now a.down.now) a.cell a.side c.check_link.ensures.tests in
    ap told (passed_on _ c.from_residual.ensures.1 ∙ follow_refused e _ h)

pub follow_tested-requires : goal.follow_tested-requires
follow_tested-requires c =
    let f = c.in_ok-wafer.ensures.wafer in
    (ap (λ (x : Wafer). inner x.rows x.columns c.args.cell) f.0 ∙ f.1, f.2)

pub returns : goal.returns
unfolding follow_link
returns c =
    let a = c.args in
    let e = tested (wafer a.n a.m a.grid.now a.directions.now a.across.now a.down.now) a.cell a.side c.check_link.ensures.tests in
    ap told (follow_accepted e _ (ap verdict_of c.in_ok-wafer.was) (c.follow_tested.ensures ∙ ap (λ (x : Wafer). followed x a.cell a.side) c.in_ok-wafer.ensures.wafer.0))
