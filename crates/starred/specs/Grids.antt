-- Grids, direction buffers and letters of worked examples.
-- Assumes nothing.
use Rattle.std.specs.Prelude.{ℕ, cond, List, [], ◌∷◌, eqb}
use Rattle.array.specs.Place.{processor}
use Rattle.array.specs.Buffer.{buffer}
use Rattle.paths.specs.Path.{member}
use Rattle.plans.specs.declared.Fault.{Fault}
use Rattle.trials.specs.Search.{direction_of}

abbrev pub mark : ℕ → ℕ → List ℕ → ℕ → ℕ
mark n m faulty p = cond (processor n m p) (cond (member p faulty) 1 0) 2

-- the grid of an array with faults at these positions
unfoldable pub grid_of : ℕ → ℕ → List ℕ → List ℕ
grid_of n m faulty = buffer (mark n m faulty)

-- the direction buffer with these directions at these positions
unfoldable pub directions_of : List Fault → List ℕ
directions_of fs = buffer (direction_of fs)

-- the letters of a switch buffer, by position
unfoldable pub shown : List ℕ → List ℕ
shown [] = []
shown (x ∷ xs) = cond (eqb x 0) (shown xs) (x ∷ shown xs)
