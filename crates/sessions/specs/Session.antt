-- Document 02, T-07: the session, its start, and what a report answers and leaves.
-- Assumes nothing.
use Rattle.std.specs.Prelude.{ℕ, Bool, cond, not, ◌&&◌, List, eqb, get_or, set, Ok, Err}
use Rattle.array.specs.Place.{inner, processor}
use Rattle.array.specs.Buffer.{zeros}
use Rattle.array.specs.Map.{faulty, healthy, dead}
use Rattle.array.specs.Tests.{or_else, refuse_if, first_in}
use Rattle.array.specs.Tests.{Verdict}
use Rattle.paths.specs.Path.{member, path, is_open}
use Rattle.plans.specs.Check.{check_plan}
use Rattle.counters.specs.Count.{counters_afresh, counters_after}
use Rattle.sessions.specs.declared.Session.{Session}

abbrev pub session : ℕ → ℕ → List ℕ → List ℕ → List ℕ → List ℕ → List ℕ → List ℕ → Session
session n m grid directions south north east west =
    record {
      rows = n;
      columns = m;
      grid = grid;
      directions = directions;
      south = south;
      north = north;
      east = east;
      west = west;
    }

-- a session after a call: the new one where the call is accepted, else the old one
abbrev pub session_if : Verdict → Session → Session → Session
session_if (Ok tt) new old = new
session_if (Err r) new old = old

-- THE START. What stands for a session where it is refused, and the session of a plan, each counter made afresh.
abbrev pub no_session : Session
no_session = session 0 0 zeros zeros zeros zeros zeros zeros

abbrev pub begun : ℕ → ℕ → List ℕ → List ℕ → Session
begun n m grid directions =
    session n m grid directions (counters_afresh n m directions 1) (counters_afresh n m directions 2)
    (counters_afresh n m directions 3) (counters_afresh n m directions 4)

-- what start_session returns beside the answer of the plan check
unfoldable pub session_started : ℕ → ℕ → List ℕ → List ℕ → Session
session_started n m grid directions =
    session_if (check_plan n m grid directions) (begun n m grid directions) no_session

-- A REPORT. A path from p in direction d qualifies: it is open, and its counter is 0.
abbrev pub qualifies : ℕ → ℕ → List ℕ → ℕ → ℕ → ℕ → Bool
qualifies n m grid p d counter = is_open n m grid p d && eqb counter 0

-- the first direction that does, in the order south, north, east, west; 0 where none does
unfoldable pub first_direction : ℕ → ℕ → List ℕ → ℕ → ℕ → ℕ → ℕ → ℕ → ℕ
first_direction n m grid p south north east west =
    cond (qualifies n m grid p 1 south) 1
    (cond (qualifies n m grid p 2 north) 2
    (cond (qualifies n m grid p 3 east) 3
    (cond (qualifies n m grid p 4 west) 4 0)))

-- the direction that a failing processor takes; a spare takes none
abbrev pub taken : Session → ℕ → ℕ
taken s p =
    cond (inner s.rows s.columns p)
    (first_direction s.rows s.columns s.grid p (get_or s.south p 0) (get_or s.north p 0) (get_or s.east p 0)
    (get_or s.west p 0)) 0

-- 1 to 7 on the session
abbrev pub session_test : Session → Verdict
session_test s = check_plan s.rows s.columns s.grid s.directions

-- 23 of a failing processor: it lies on a kept path
abbrev pub path_test : ℕ → ℕ → ℕ → ℕ → ℕ → Verdict
path_test n m p q e = refuse_if (member p (path n m q e)) 23 p 0

abbrev pub kept_paths_test : ℕ → ℕ → List ℕ → ℕ → Verdict
kept_paths_test n m directions p = first_in (path_test n m p) directions

-- 22, 23 and 24 of a failing processor
unfoldable pub fail_test : Session → ℕ → Verdict
fail_test s p =
    or_else (refuse_if (faulty s.grid p) 22 p 0)
    (or_else (kept_paths_test s.rows s.columns s.directions p)
    (refuse_if (inner s.rows s.columns p && eqb (taken s p) 0) 24 p 0))

-- 22 and 23 of a recovering one
unfoldable pub recover_test : Session → ℕ → Verdict
recover_test s p = or_else (refuse_if (healthy s.grid p) 22 p 0) (refuse_if (dead s.grid p) 23 p 0)

-- what a report answers: 1 to 7, then 15, 22, 23, 24
unfoldable pub report_test : Session → Bool → ℕ → Verdict
report_test s failing p =
    or_else (session_test s)
    (or_else (refuse_if (not (processor s.rows s.columns p)) 15 0 0)
    (cond failing (fail_test s p) (recover_test s p)))

-- the path from p that comes or goes, by its direction: the one that is taken, or the one that is kept there; 0 is none
unfoldable pub path_of : Session → Bool → ℕ → ℕ
path_of s failing p = cond failing (taken s p) (get_or s.directions p 0)

-- The session where the path from p in direction e comes or goes. A failing processor gets the mark of a fault and this direction,
-- a recovering one is healthy and has none.
unfoldable pub changed : Session → Bool → ℕ → ℕ → Session
changed s failing p e =
    session s.rows s.columns (set s.grid p (cond failing 1 0)) (set s.directions p (cond failing e 0))
    (counters_after s.rows s.columns failing p e 1 s.south)
    (counters_after s.rows s.columns failing p e 2 s.north)
    (counters_after s.rows s.columns failing p e 3 s.east)
    (counters_after s.rows s.columns failing p e 4 s.west)

-- the session after a report
unfoldable pub session_reported : Session → Bool → ℕ → Session
session_reported s failing p = session_if (report_test s failing p) (changed s failing p (path_of s failing p)) s
