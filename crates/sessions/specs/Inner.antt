-- What the inner parts ask and answer.
-- Assumes nothing.
use Rattle.std.specs.Prelude.{ℕ, ◌<◌, ◌≡◌, Bool, true, cond, not, ◌&&◌, List, eqb, length, get_or, Option, None, Some, Result, Ok, Err}
use Rattle.array.specs.Place.{inner, processor}
use Rattle.array.specs.Map.{faulty, dead_mark}
use Rattle.array.specs.Tests.{Verdict, or_else, refuse_if}
use Rattle.array.specs.declared.Refusal.{Refusal}
use Rattle.paths.specs.Path.{Start, by_direction}
use Rattle.counters.specs.Count.{counters_after}
use Rattle.sessions.specs.Session.{session, taken, session_test, kept_paths_test}
use Rattle.sessions.specs.declared.Session.{Session}

-- each counter buffer has 1,024 elements, as the arrays of a session do
pub record Wide (s : Session) : Type 0 where
  pub south_long : length s.south ≡ 1024
  pub north_long : length s.north ≡ 1024
  pub east_long : length s.east ≡ 1024
  pub west_long : length s.west ≡ 1024

-- sizes and directions as after tests 1 to 4: every direction that is not 0 starts a path
pub record Started (n m : ℕ) (directions : List ℕ) : Type 0 where
  pub long : length directions ≡ 1024
  pub each : (q : ℕ) → q < 1024 → (get_or directions q 0 ≡ 0 → ⊥) → Start n m q (get_or directions q 0)

-- what is left to be tested of a report after 1 to 7 and 15
pub record Standing (s : Session) (p : ℕ) : Type 0 where
  pub passes : session_test s ≡ Ok tt
  pub stands : processor s.rows s.columns p ≡ true

-- a path from p in direction e, or none where e is 0
abbrev pub PathOrNone : ℕ → ℕ → ℕ → ℕ → Type 0
PathOrNone n m p e = (e ≡ 0 → ⊥) → Start n m p e

-- the counter of direction d at p
abbrev pub counter_of : Session → ℕ → ℕ → ℕ
counter_of s d p = get_or (by_direction d s.south s.north s.east s.west s.west) p 0

-- 1 to 7 and 15
abbrev pub reported_test : Session → ℕ → Verdict
reported_test s p = or_else (session_test s) (refuse_if (not (processor s.rows s.columns p)) 15 0 0)

-- 22 and 23 of a failing processor
abbrev pub unused_test : ℕ → ℕ → List ℕ → List ℕ → ℕ → Verdict
unused_test n m grid directions p = or_else (refuse_if (faulty grid p) 22 p 0) (kept_paths_test n m directions p)

-- 22 and 23 of a recovering one, by its mark
abbrev pub used_test : ℕ → ℕ → Verdict
used_test mark p = or_else (refuse_if (eqb mark 0) 22 p 0) (refuse_if (dead_mark mark) 23 p 0)

-- a direction that is found, where 0 stands for none
abbrev pub some_direction : ℕ → Option ℕ
some_direction d = cond (eqb d 0) None (Some d)

-- an answer with the direction of the path that comes
abbrev pub judged_as : Verdict → ℕ → Result ℕ Refusal
judged_as (Ok _) e = Ok e
judged_as (Err r) e = Err r

-- 24
abbrev pub taken_judged : Session → ℕ → Result ℕ Refusal
taken_judged s p = judged_as (refuse_if (inner s.rows s.columns p && eqb (taken s p) 0) 24 p 0) (taken s p)

-- a session whose counters are altered by the path from p in direction e
abbrev pub altered : Session → Bool → ℕ → ℕ → Session
altered s up p e =
    session s.rows s.columns s.grid s.directions
    (counters_after s.rows s.columns up p e 1 s.south)
    (counters_after s.rows s.columns up p e 2 s.north)
    (counters_after s.rows s.columns up p e 3 s.east)
    (counters_after s.rows s.columns up p e 4 s.west)
