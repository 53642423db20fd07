-- Document 02, T-07: what the definitions of sessions come to, in the request's own words.
-- Assumes nothing.
use Rattle.std.specs.Prelude.{ℕ, ◌+◌, ◌*◌, ◌≤◌, ◌<◌, ◌≡◌, Bool, true, false, not, ◌&&◌, List, [], eqb, length, get_or, set, Ok}
use Rattle.array.specs.Place.{inner}
use Rattle.array.specs.Buffer.{positions_in}
use Rattle.array.specs.Map.{inner_faulty}
use Rattle.paths.specs.Path.{by_direction, clear}
use Rattle.plans.specs.Check.{check_plan}
use Rattle.counters.specs.Count.{counts, count_afresh}
use Rattle.sessions.specs.Session.{session, session_started, report_test, session_reported}
use Rattle.sessions.specs.Inner.{Wide}
use Rattle.sessions.specs.declared.Session.{Session}
use Rattle.reports.specs.Theorems.{SoundSession, Report, after_all}

-- the path of another inner fault meets or nearly misses a path from p in direction d
abbrev pub fault_counts : ℕ → ℕ → List ℕ → ℕ → ℕ → ℕ → ℕ → Bool
fault_counts n m directions d p q mark =
    inner_faulty n m q mark && (not (eqb q p) && not (clear n m p d q (get_or directions q 0)))

-- the session with another mark at p
abbrev pub with_mark : Session → ℕ → ℕ → Session
with_mark s p mark =
    session s.rows s.columns (set s.grid p mark) s.directions s.south s.north s.east s.west

-- the counters of direction d
abbrev pub counters_of : Session → ℕ → List ℕ
counters_of s d = by_direction d s.south s.north s.east s.west []

pub record Readings : Type 0 where
  -- on a plan the paths that are counted are those of the other inner faults
  pub by_faults : (n m : ℕ) (grid directions : List ℕ) (d p : ℕ) → check_plan n m grid directions ≡ Ok tt
      → inner n m p ≡ true
      → count_afresh n m directions d p ≡ length (positions_in (fault_counts n m directions d p) grid)
  -- a failing spare is only marked, and of a recovering one only the mark goes
  pub spare_marked : (s : Session) (p : ℕ) → Wide s → report_test s true p ≡ Ok tt
      → inner s.rows s.columns p ≡ false → session_reported s true p ≡ with_mark s p 1
  pub spare_cleared : (s : Session) (p : ℕ) → Wide s → report_test s false p ≡ Ok tt
      → inner s.rows s.columns p ≡ false → session_reported s false p ≡ with_mark s p 0
  -- A counter is never above the number of spares, so from an accepted start never above 120, and it is above 0 while a
  -- path counts: the stops at 255 and at 0 never apply.
  pub never_full : (s : Session) (d p : ℕ) → SoundSession s → 1 ≤ d → d ≤ 4
      → get_or (counters_of s d) p 0 ≤ 2 * (s.rows + s.columns)
  pub never_above : (n m : ℕ) (grid directions : List ℕ) (rs : List Report) (d p : ℕ)
      → check_plan n m grid directions ≡ Ok tt → 1 ≤ d → d ≤ 4
      → get_or (counters_of (after_all (session_started n m grid directions) rs) d) p 0 ≤ 120
  pub never_empty : (s : Session) (d p q : ℕ) → SoundSession s → 1 ≤ d → d ≤ 4
      → inner s.rows s.columns p ≡ true → q < 1024
      → counts s.rows s.columns d p q (get_or s.directions q 0) ≡ true → 1 ≤ get_or (counters_of s d) p 0
