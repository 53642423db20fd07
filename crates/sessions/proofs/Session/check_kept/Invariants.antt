use Rattle.std.proofs.Common.{length}
use Rattle.array.proofs.Scans.{Seeking, element_test, from_position}
use Rattle.sessions.specs.Session.{path_test, kept_paths_test}
use Rattle.sessions.proofs.Session.check_kept.Given as goal

-- no path that starts before q runs over p
abbrev pub invariant-loop-q : goal.invariant-loop-q
invariant-loop-q l =
    let s = l.self in
    Seeking (element_test (path_test s.rows s.columns l.p) s.directions) (from_position (path_test s.rows s.columns l.p) s.directions)
    (length s.directions) l.q (kept_paths_test s.rows s.columns s.directions l.p)
