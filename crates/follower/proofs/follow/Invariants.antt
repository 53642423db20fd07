use Rattle.std.proofs.Common.{◌≡◌, ◌-◌}
use Rattle.track.specs.Link.{run}
use Rattle.track.specs.Follower.{out_of, judged}
use Rattle.follower.specs.Inner.{wafer_of, SoundWalk}
use Rattle.follower.proofs.follow.Given as goal

-- what is left of the run gives the whole answer
abbrev pub invariant-loop : goal.invariant-loop
invariant-loop l =
    let w = wafer_of l.wafer in
    SoundWalk l.walk
    × (judged w.grid l.walk.last l.walk.passed (run w (7 - l.counter) l.walk.port)
    ≡ judged w.grid l.from 0 (run w 7 (out_of l.from l.side)))
