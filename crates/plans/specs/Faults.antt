-- Document 01, "Paths and plans": the inner faults with their directions.
-- Assumes nothing.
use Rattle.std.specs.Prelude.{ℕ, List, [], ◌∷◌, get_or}
use Rattle.array.specs.Buffer.{positions_in}
use Rattle.array.specs.Map.{inner_faulty}
use Rattle.plans.specs.declared.Fault.{Fault}

-- the positions of the inner faults in row order
unfoldable pub faults : ℕ → ℕ → List ℕ → List ℕ
faults n m grid = positions_in (inner_faulty n m) grid

-- the directions that a direction buffer has at these positions
unfoldable pub directions_at : List ℕ → List ℕ → List ℕ
directions_at directions [] = []
directions_at directions (p ∷ ps) = get_or directions p 0 ∷ directions_at directions ps

-- a fault with its position and its direction
abbrev pub fault : ℕ → ℕ → Fault
fault p d = record { position = p; direction = d }

-- the k-th of these positions with its direction, and all of them
abbrev pub fault_at : List ℕ → List ℕ → ℕ → Fault
fault_at ps ds k = fault (get_or ps k 0) (get_or ds k 0)

unfoldable pub paired : List ℕ → List ℕ → List Fault
paired [] ds = []
paired (p ∷ ps) [] = []
paired (p ∷ ps) (d ∷ ds) = fault p d ∷ paired ps ds

-- the inner faults in row order with the directions of a buffer: what the check, the placement and the routing work over
abbrev pub directed_faults : ℕ → ℕ → List ℕ → List ℕ → List Fault
directed_faults n m grid directions = paired (faults n m grid) (directions_at directions (faults n m grid))
