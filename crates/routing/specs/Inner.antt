-- What the inner parts of placement and routing promise each other. `traced` is a buffer that holds, at each position, the direction of the
-- path through it. Assumes nothing.
use Rattle.std.specs.Prelude.{ℕ, ◌+◌, Bool, cond, List, [], ◌∷◌, get_or, set}
use Rattle.array.specs.Place.{row, column, inner}
use Rattle.array.specs.Buffer.{buffer}
use Rattle.array.specs.Map.{faulty}
use Rattle.paths.specs.Path.{by_direction, ahead, path}
use Rattle.paths.specs.declared.Path.{Path}
use Rattle.plans.specs.Faults.{directed_faults}
use Rattle.track.specs.Placement.{through}
use Rattle.track.specs.Letters.{vertical, horizontal, letter}
use Rattle.track.specs.Ports.{stands}
use Rattle.track.specs.declared.ports.Node.{Node}
use Rattle.track.specs.declared.ports.Node.TheVariants as node
use Rattle.routing.specs.declared.Switch.{Switch}
use Rattle.routing.specs.declared.Switch.TheVariants.{Across, Down}

-- the positions of a path as the code holds it
abbrev pub path_of : Path → List ℕ
path_of s = path s.shape.rows s.shape.columns s.start s.direction

-- v at each of these positions
unfoldable pub painted : List ℕ → ℕ → List ℕ → List ℕ
painted [] v b = b
painted (q ∷ qs) v b = painted qs v (set b q v)

-- the direction of the path through each position
unfoldable pub traced_paths : ℕ → ℕ → List ℕ → List ℕ → List ℕ
traced_paths n m grid directions = buffer (through n m (directed_faults n m grid directions))

-- where the cell of p sits, by the path through p
abbrev pub placed_by : ℕ → ℕ → List ℕ → ℕ → ℕ
placed_by n m traced p = cond (inner n m p) (ahead p (get_or traced p 0) 1) 0

-- a direction as it is in the transposed grid
abbrev pub transposed : ℕ → ℕ
transposed d = by_direction d 3 4 1 2 d

-- of both kinds of switch: the one filed under p, the position of its second processor, and the routing state that it goes by
abbrev pub node_under : Switch → ℕ → Node
node_under Across p = node.Across (row p) (column p)
node_under Down p = node.Down (row p) (column p)

abbrev pub second_at : Switch → ℕ → ℕ
second_at Across p = p + 1
second_at Down p = p + 32

abbrev pub state : Switch → ℕ → Bool → ℕ
state Across d fault = vertical d fault
state Down d fault = horizontal d fault

abbrev pub state_by : Switch → List ℕ → List ℕ → ℕ → ℕ
state_by switch grid traced p = state switch (get_or traced p 0) (faulty grid p)

-- the letter of the switch filed under p, 0 where none is
abbrev pub letter_by : Switch → ℕ → ℕ → List ℕ → List ℕ → ℕ → ℕ
letter_by switch n m grid traced p =
    cond (stands n m (node_under switch p)) (letter (state_by switch grid traced p) (state_by switch grid traced (second_at switch p))) 0
