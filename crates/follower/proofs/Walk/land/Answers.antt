use Rattle.std.proofs.Common.{sym, ap, ◌∙◌}
use Rattle.std.specs.Prelude.{Err}
use Rattle.track.proofs.Follows.{judged_healthy, judged_faulty}
use Rattle.follower.proofs.Walk.land.Goals as goal

pub returns-then-is_faulty : goal.returns-then-is_faulty
returns-then-is_faulty c =
    let v = c.args.self.now in
    let h = rw c.position-position.ensures.is at (sym c.is_faulty.ensures ∙ c.if-is_faulty.true) in
    ap Err c.at.ensures ∙ sym (judged_faulty c.args.wafer.now.plan.map.grid.now v.last v.passed c.args.port h)

pub returns : goal.returns
returns c =
    let v = c.args.self.now in
    let place = c.position-position.ensures.is in
    let h = rw place at (sym c.is_faulty.ensures ∙ c.if-is_faulty.false) in
    rw (place, c.number.ensures) (sym (judged_healthy c.args.wafer.now.plan.map.grid.now v.last v.passed c.args.port h))
