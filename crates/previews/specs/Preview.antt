-- Document 02, T-08: what the preview of a report gives. It is read off the report's own definitions: its answer is
-- `report_test`, and what it foretells stands in `session_reported`.
-- Assumes nothing.
use Rattle.std.specs.Prelude.{ℕ, ◌+◌, Bool, not, List, eqb, length, get_or, Ok, Err}
use Rattle.array.specs.Buffer.{zeros, positions_in}
use Rattle.array.specs.Tests.{Verdict}
use Rattle.sessions.specs.Session.{report_test, session_reported}
use Rattle.sessions.specs.declared.Session.{Session}
use Rattle.previews.specs.declared.Foretold.{Foretold}

-- what stands beside a refusal
abbrev pub nothing_foretold : Foretold
nothing_foretold = record { direction = 0; south = zeros; north = zeros; east = zeros; west = zeros }

-- the direction that a session has at p, and its counters
abbrev pub shown_at : Session → ℕ → Foretold
shown_at s p =
    record {
      direction = get_or s.directions p 0;
      south = s.south;
      north = s.north;
      east = s.east;
      west = s.west;
    }

-- by the answer
abbrev pub foretold_if : Verdict → Foretold → Foretold
foretold_if (Ok tt) f = f
foretold_if (Err r) f = nothing_foretold

-- THE PREVIEW, beside its answer: the direction at p and the counters of the session after the report
unfoldable pub foretold : Session → Bool → ℕ → Foretold
foretold s failing p = foretold_if (report_test s failing p) (shown_at (session_reported s failing p) p)

-- whether an element x at p is another than that of b
abbrev pub differs : List ℕ → ℕ → ℕ → Bool
differs b p x = not (eqb x (get_or b p 0))

-- at how many positions two buffers differ
unfoldable pub differences : List ℕ → List ℕ → ℕ
differences a b = length (positions_in (differs b) a)

-- how many counters would change, where f is foretold by an accepted preview
abbrev pub counter_changes : Session → Foretold → ℕ
counter_changes s f =
    (differences s.south f.south + differences s.north f.north)
    + (differences s.east f.east + differences s.west f.west)
