-- Document 02, T-08: a preview and its report cannot part, and the direction is 0 for a spare and for a recovery.
-- Assumes nothing.
use Rattle.std.specs.Prelude.{ℕ, ◌≡◌, Bool, true, false, cond, set, Ok}
use Rattle.array.specs.Place.{inner}
use Rattle.sessions.specs.Session.{session, taken, report_test, session_reported}
use Rattle.sessions.specs.declared.Session.{Session}
use Rattle.reports.specs.Theorems.{SoundSession}
use Rattle.previews.specs.Preview.{foretold}
use Rattle.previews.specs.declared.Foretold.{Foretold}

-- a session whose processor at p fails or recovers as it is foretold: its mark, its direction and all counters
abbrev pub as_foretold : Session → Bool → ℕ → Foretold → Session
as_foretold s failing p f =
    session s.rows s.columns (set s.grid p (cond failing 1 0)) (set s.directions p f.direction)
    f.south f.north f.east f.west

-- of every session, also one whose counters were made up
pub record Previews : Type 0 where
  -- an accepted report leaves what its preview foretold, and changes nothing else
  pub report_as_foretold : (s : Session) (failing : Bool) (p : ℕ) → report_test s failing p ≡ Ok tt
      → session_reported s failing p ≡ as_foretold s failing p (foretold s failing p)
  -- the direction of a failing processor is the one that it takes, of an inner one never 0
  pub direction_taken : (s : Session) (p : ℕ) → report_test s true p ≡ Ok tt → (foretold s true p).direction ≡ taken s p
  pub inner_has_direction : (s : Session) (p : ℕ) → report_test s true p ≡ Ok tt
      → inner s.rows s.columns p ≡ true → (foretold s true p).direction ≡ 0 → ⊥
  pub spare_has_none : (s : Session) (failing : Bool) (p : ℕ) → inner s.rows s.columns p ≡ false
      → (foretold s failing p).direction ≡ 0
  pub recovery_has_none : (s : Session) (p : ℕ) → (foretold s false p).direction ≡ 0
  -- from a start on: what is foretold passes the plan check again, and its counters are those made afresh
  pub foretold_sound : (s : Session) (failing : Bool) (p : ℕ) → SoundSession s → report_test s failing p ≡ Ok tt
      → SoundSession (as_foretold s failing p (foretold s failing p))
