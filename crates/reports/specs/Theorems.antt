-- Document 02, T-07: for every list of reports from an accepted start, refused ones included, the directions pass the plan
-- check and every counter equals its count made afresh.
-- Assumes nothing.
use Rattle.std.specs.Prelude.{ℕ, ◌≡◌, Bool, List, [], ◌∷◌, Ok}
use Rattle.plans.specs.Check.{check_plan}
use Rattle.counters.specs.Count.{counters_afresh}
use Rattle.sessions.specs.Session.{session_started, session_test, session_reported}
use Rattle.sessions.specs.declared.Session.{Session}

pub record SoundSession (s : Session) : Type 0 where
  pub passes : session_test s ≡ Ok tt
  pub south_right : s.south ≡ counters_afresh s.rows s.columns s.directions 1
  pub north_right : s.north ≡ counters_afresh s.rows s.columns s.directions 2
  pub east_right : s.east ≡ counters_afresh s.rows s.columns s.directions 3
  pub west_right : s.west ≡ counters_afresh s.rows s.columns s.directions 4

-- a report: whether the processor fails, or recovers, and its position
pub record Report : Type 0 where
  pub failing : Bool
  pub position : ℕ

-- the session after a list of reports
abbrev pub after_all : Session → List Report → Session
after_all s [] = s
after_all s (r ∷ rs) = after_all (session_reported s r.failing r.position) rs

pub record Sessions : Type 0 where
  -- one report, accepted or refused
  pub report_sound : (s : Session) (failing : Bool) (p : ℕ) → SoundSession s → SoundSession (session_reported s failing p)
  -- an accepted start
  pub start_sound : (n m : ℕ) (grid directions : List ℕ) → check_plan n m grid directions ≡ Ok tt
      → SoundSession (session_started n m grid directions)
  -- and every list of reports from it
  pub reports_sound : (n m : ℕ) (grid directions : List ℕ) (rs : List Report) → check_plan n m grid directions ≡ Ok tt
      → SoundSession (after_all (session_started n m grid directions) rs)
