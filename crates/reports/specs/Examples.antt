-- Document 02, T-07, computed on 3 x 3 with three kept paths: from (1, 1) west, from the dead (1, 3) south and from (2, 2)
-- south. The spare (0, 2) is faulty. A position is 32 times the row, and the column.
-- Assumes nothing.
use Rattle.std.specs.Prelude.{ℕ, ◌≡◌, true, false, cond, ◌||◌, List, [], ◌∷◌, eqb, get_or, Ok}
use Rattle.array.specs.Buffer.{buffer, zeros}
use Rattle.array.specs.Place.{processor}
use Rattle.array.specs.Tests.{refuse}
use Rattle.array.specs.Tests.{Verdict}
use Rattle.plans.specs.Check.{check_plan}
use Rattle.counters.specs.Count.{count_afresh}
use Rattle.sessions.specs.Session.{session, begun, no_session, report_test, path_of}
use Rattle.sessions.specs.declared.Session.{Session}
use Rattle.reports.specs.Theorems.{Report, after_all}

abbrev mark : ℕ → ℕ
mark p = cond (processor 3 3 p) (cond (eqb p 35) 3 (cond (eqb p 33 || (eqb p 66 || eqb p 2)) 1 0)) 2

abbrev direction : ℕ → ℕ
direction p = cond (eqb p 33) 4 (cond (eqb p 35 || eqb p 66) 1 0)

abbrev pub grid : List ℕ
grid = buffer mark

abbrev pub directions : List ℕ
directions = buffer direction

-- the counters at p: south, north, east, west
abbrev pub counted : ℕ → List ℕ
counted p =
    count_afresh 3 3 directions 1 p ∷ count_afresh 3 3 directions 2 p ∷ count_afresh 3 3 directions 3 p
    ∷ count_afresh 3 3 directions 4 p ∷ []

abbrev pub started : Session
started = begun 3 3 grid directions

-- a processor that fails, and one that recovers
abbrev pub failing_at : ℕ → Report
failing_at p = record { failing = true; position = p }

abbrev pub recovering_at : ℕ → Report
recovering_at p = record { failing = false; position = p }

-- what a session has at p: mark, direction, and the counters south, north, east, west
abbrev pub held_at : Session → ℕ → List ℕ
held_at s p =
    get_or s.grid p 0 ∷ get_or s.directions p 0 ∷ get_or s.south p 0 ∷ get_or s.north p 0
    ∷ get_or s.east p 0 ∷ get_or s.west p 0 ∷ []

-- what a report of a failing and of a recovering processor answers
abbrev pub fails_at : ℕ → Verdict
fails_at p = report_test started true p

abbrev pub recovers_at : ℕ → Verdict
recovers_at p = report_test started false p

-- an array of 3 x 3 without a fault inside, where these spares are faulty; a corner, 0, stands for none
abbrev blank : ℕ → ℕ → ℕ → ℕ → ℕ
blank a b c p = cond (processor 3 3 p) (cond (eqb p a || (eqb p b || eqb p c)) 1 0) 2

abbrev pub without : ℕ → ℕ → ℕ → Session
without a b c = begun 3 3 (buffer (blank a b c)) zeros

-- the session above with counters made up: this number at every position but (3, 1), which has 0
abbrev made_up_at : ℕ → ℕ → ℕ
made_up_at c p = cond (eqb p 97) 0 c

abbrev pub made_up : ℕ → Session
made_up c =
    session 3 3 grid directions (buffer (made_up_at c)) (buffer (made_up_at c)) (buffer (made_up_at c)) (buffer (made_up_at c))

pub record ReportExamples : Type 0 where
  pub starts : check_plan 3 3 grid directions ≡ Ok tt
  -- at (1, 2): south meets (2, 2), east (1, 3), west (1, 1)
  pub beside_three : counted 34 ≡ 1 ∷ 0 ∷ 1 ∷ 1 ∷ []
  -- at (3, 1): north meets (1, 1) and nearly misses (2, 2), east meets the two paths south
  pub near_miss : counted 97 ≡ 0 ∷ 2 ∷ 2 ∷ 0 ∷ []
  -- at the start (2, 2) its own path does not count: north nearly misses (1, 3), east meets it
  pub own_start : counted 66 ≡ 0 ∷ 1 ∷ 1 ∷ 0 ∷ []
  -- at a spare nothing counts
  pub spare : counted 32 ≡ 0 ∷ 0 ∷ 0 ∷ 0 ∷ []
  -- 15: a corner, and a position beyond every buffer
  pub corner : fails_at 0 ≡ refuse 15 0 0
  pub beyond : recovers_at 5000 ≡ refuse 15 0 0
  -- 22: a fault on its own kept path, a dead processor, and a healthy one
  pub already_faulty : fails_at 66 ≡ refuse 22 66 0
  pub already_dead : fails_at 35 ≡ refuse 22 35 0
  pub already_healthy : recovers_at 34 ≡ refuse 22 34 0
  -- 23: an inner processor and a spare on a kept path, and a dead processor
  pub on_path : fails_at 98 ≡ refuse 23 98 0
  pub spare_on_path : fails_at 32 ≡ refuse 23 32 0
  pub dead_stays : recovers_at 35 ≡ refuse 23 35 0
  -- 24: north of (1, 2) is the faulty spare, and the other three meet kept paths
  pub no_direction : fails_at 34 ≡ refuse 24 34 0
  -- (3, 1) takes south, a spare nothing; (2, 2) gives back its path south
  pub taken : fails_at 97 ≡ Ok tt
  pub taken_south : path_of started true 97 ≡ 1
  pub spare_fails : fails_at 1 ≡ Ok tt
  pub spare_takes_none : path_of started true 1 ≡ 0
  pub recovered : recovers_at 66 ≡ Ok tt
  pub given_back : path_of started false 66 ≡ 1
  -- (2, 1) before and after (3, 1) fails and takes south, and after it recovers; (3, 1) itself
  pub before : held_at started 65 ≡ 0 ∷ 0 ∷ 0 ∷ 1 ∷ 2 ∷ 0 ∷ []
  pub after : held_at (after_all started (failing_at 97 ∷ [])) 65 ≡ 0 ∷ 0 ∷ 1 ∷ 1 ∷ 2 ∷ 0 ∷ []
  pub itself : held_at (after_all started (failing_at 97 ∷ [])) 97 ≡ 1 ∷ 1 ∷ 0 ∷ 2 ∷ 2 ∷ 0 ∷ []
  pub again : held_at (after_all started (failing_at 97 ∷ recovering_at 97 ∷ [])) 65 ≡ 0 ∷ 0 ∷ 0 ∷ 1 ∷ 2 ∷ 0 ∷ []
  -- south, north, east, west in this order, from the middle: the spares (4, 2), (0, 2) and (2, 4) are faulty in turn
  pub south_first : path_of (without 0 0 0) true 66 ≡ 1
  pub north_second : path_of (without 130 0 0) true 66 ≡ 2
  pub east_third : path_of (without 130 2 0) true 66 ≡ 3
  pub west_last : path_of (without 130 2 68) true 66 ≡ 4
  -- made_up counters stop at 255 and at 0, and those off the inner positions stay
  pub stops_at_255 : held_at (after_all (made_up 255) (failing_at 97 ∷ [])) 65 ≡ 0 ∷ 0 ∷ 255 ∷ 255 ∷ 255 ∷ 255 ∷ []
  pub stops_at_0 : held_at (after_all (made_up 0) (recovering_at 66 ∷ [])) 34 ≡ 0 ∷ 0 ∷ 0 ∷ 0 ∷ 0 ∷ 0 ∷ []
  pub down_by_1 : held_at (after_all (made_up 9) (recovering_at 66 ∷ [])) 34 ≡ 0 ∷ 0 ∷ 8 ∷ 9 ∷ 9 ∷ 9 ∷ []
  pub off_inner : held_at (after_all (made_up 9) (recovering_at 66 ∷ [])) 130 ≡ 0 ∷ 0 ∷ 9 ∷ 9 ∷ 9 ∷ 9 ∷ []
  -- 1: the session that stands for none
  pub no_session_refused : report_test no_session true 33 ≡ refuse 1 0 0
