use Rattle.std.proofs.Common.{◌≡◌, sym, ap, ◌∙◌, ℕ, suc, ◌+◌, ◌-◌, arith}
use Rattle.std.specs.Prelude.{Err}
use Rattle.array.proofs.Verdicts.{passed_on}
use Rattle.track.specs.Ports.{◌at◌}
use Rattle.track.specs.declared.ports.Compass.{Compass}
use Rattle.track.specs.Link.{run}
use Rattle.track.specs.Follower.{processor_of, judged}
use Rattle.follower.specs.Inner.{wafer_of}
use Rattle.follower.proofs.Judging.{none_left}
use Rattle.follower.proofs.follow.Goals as goal

pub loop-init : goal.loop-init
loop-init c =
    let a = c.args in
    let w = wafer_of a.wafer.now in (
      record { port = (omega arith, omega arith); few = omega arith },
      ap (λ (s : Compass). judged w.grid a.from 0 (run w 7 (processor_of a.from at s))) c.of_link.ensures,
    )

pub returns-in_err-landing : goal.returns-in_err-landing
returns-in_err-landing c =
    let v = c.loop.walk in
    let w = wafer_of c.args.wafer.now in
    let e : suc (7 - (c.loop.counter + 1)) ≡ 7 - c.loop.counter = omega arith in
    passed_on _ c.from_residual.ensures.1
    ∙ c.in_err-landing.ensures.is (7 - (c.loop.counter + 1))
    ∙ ap (λ (k : ℕ). judged w.grid v.last v.passed (run w k v.port)) e
    ∙ c.loop.invariant.1

pub returns-in-Some : goal.returns-in-Some
returns-in-Some c =
    let v = c.loop.walk in
    let w = wafer_of c.args.wafer.now in
    let e : suc (7 - (c.loop.counter + 1)) ≡ 7 - c.loop.counter = omega arith in
    let f = rw c.in-Some.is at c.in_ok-landing.ensures in
    f.is (7 - (c.loop.counter + 1)) ∙ ap (λ (k : ℕ). judged w.grid v.last v.passed (run w k v.port)) e ∙ c.loop.invariant.1

pub loop-preserved : goal.loop-preserved
loop-preserved c =
    let v = c.loop.walk in
    let w = wafer_of c.args.wafer.now in
    let e : suc (7 - (c.loop.counter + 1)) ≡ 7 - c.loop.counter = omega arith in
    let f = rw c.in_default.is at c.in_ok-landing.ensures in
    (f.sound, f.is (7 - (c.loop.counter + 1)) ∙ ap (λ (k : ℕ). judged w.grid v.last v.passed (run w k v.port)) e ∙ c.loop.invariant.1)

pub returns : goal.returns
returns c =
    let v = c.loop.walk in
    let w = wafer_of c.args.wafer.now in
    let e : 7 - c.loop.counter ≡ 0 = omega arith in
    ap Err c.at.ensures ∙ sym (none_left w w.grid v.last v.passed v.port) ∙ (rw e at c.loop.invariant.1)
