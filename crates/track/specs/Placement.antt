-- Document 01, "Placement and routing": the path through a position, and the placement.
-- Document 003 (Kung, Jean, Chang, "Fault-Tolerant Array Processors Using Single-Track Switches"): its placement P along
-- compensation paths.
-- Assumes nothing.
use Rattle.std.specs.Prelude.{ℕ, cond, List, [], ◌∷◌}
use Rattle.array.specs.Place.{inner}
use Rattle.array.specs.Buffer.{buffer}
use Rattle.paths.specs.Path.{path, member, ahead}
use Rattle.plans.specs.Faults.{directed_faults}
use Rattle.plans.specs.declared.Fault.{Fault}

-- the direction of the path through q, 0 where none is: of the first fault whose path has q on it (in a plan no other has)
unfoldable pub through : ℕ → ℕ → List Fault → ℕ → ℕ
through n m [] q = 0
through n m (f ∷ fs) q =
    cond (member q (path n m f.position f.direction)) f.direction (through n m fs q)

-- where the cell of position p sits: on the next processor of the path through p, or at p if there is none
abbrev pub seat : ℕ → ℕ → List Fault → ℕ → ℕ
seat n m fs p = ahead p (through n m fs p) 1

-- at 32i + j the position that holds cell [i, j], else 0
abbrev pub placed_at : ℕ → ℕ → List Fault → ℕ → ℕ
placed_at n m fs p = cond (inner n m p) (seat n m fs p) 0

-- the whole placement buffer
unfoldable pub placement : ℕ → ℕ → List ℕ → List ℕ → List ℕ
placement n m grid directions = buffer (placed_at n m (directed_faults n m grid directions))
