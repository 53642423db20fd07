-- Document 00, demand 3, in a session (document 02, T-07): what a run promises of placement, routing and follower holds of the
-- session after every list of reports.
-- Assumes nothing.
use Rattle.std.specs.Prelude.{ℕ, ◌≡◌, true, List, [], ◌∷◌, Ok}
use Rattle.array.specs.Buffer.{all_long}
use Rattle.plans.specs.Check.{check_plan}
use Rattle.repair.specs.InUse.{Use, InUse}
use Rattle.sessions.specs.Session.{session_started}
use Rattle.sessions.specs.declared.Session.{Session}
use Rattle.reports.specs.Theorems.{Report, after_all}

-- a session's map and directions, handed to placement and routing with these buffers
abbrev pub used_in : Session → List ℕ → List ℕ → List ℕ → Use
used_in s places across down =
    record {
      n = s.rows;
      m = s.columns;
      grid = s.grid;
      directions = s.directions;
      places = places;
      across = across;
      down = down;
    }

-- for every accepted start, every list of reports, and every content of the lent buffers, which have 1,024 elements each
abbrev pub SessionsServe : Type 0
SessionsServe =
    (n m : ℕ) (grid directions : List ℕ) (rs : List Report) (places across down : List ℕ)
    → check_plan n m grid directions ≡ Ok tt → all_long (places ∷ across ∷ down ∷ []) ≡ true
    → InUse (used_in (after_all (session_started n m grid directions) rs) places across down)
