use Rattle.std.proofs.Common.{length}
use Rattle.array.proofs.Scans.{Seeking, element_test, from_position}
use Rattle.track.specs.Follower.{switch_test, switches_test}
use Rattle.follower.specs.Inner.{wafer_of}
use Rattle.follower.proofs.check_switches.Given as goal

-- the positions passed have no refusal
abbrev pub invariant-loop-p : goal.invariant-loop-p
invariant-loop-p l =
    let w = wafer_of l.wafer in
    Seeking (element_test (switch_test w) w.across) (from_position (switch_test w) w.across) (length w.across) l.p (switches_test w)
