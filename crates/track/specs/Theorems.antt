-- Document 01, "Placement and routing": what is proved of placement, links and letters once a plan is found, for every N and M from 1 to 30.
-- Assumes nothing.
use Rattle.std.specs.Prelude.{ℕ, ◌+◌, ◌≤◌, ◌<◌, ◌≡◌, Bool, true, ◌⊎◌, eqb, get_or, Ok}
use mathlib.Core.List.{List, Memᴰ}
use Rattle.array.specs.Place.{position, row, column, processor}
use Rattle.array.specs.Map.{healthy, well_formed}
use Rattle.plans.specs.Faults.{faults, directions_at, directed_faults}
use Rattle.plans.specs.Plan.{Plan}
use Rattle.track.specs.Placement.{placement}
use Rattle.track.specs.Letters.{x, entry, across_exists, down_exists, across_letters, down_letters, vertical_at, horizontal_at}
use Rattle.track.specs.Ports.{Wafer, ◌at◌, dead_node}
use Rattle.track.specs.declared.ports.Compass.{Compass}
use Rattle.track.specs.declared.ports.Compass.TheVariants.{W, N}
use Rattle.track.specs.declared.ports.Node.{Node}
use Rattle.track.specs.declared.ports.Port.{Port}
use Rattle.track.specs.Link.{Trail, Link, Enters, switches}
use Rattle.track.specs.Pieces.{Piece, pieces, Same}
use Rattle.track.specs.Follower.{port_number, processor_of, out_of, seat_of, followed, switches_test}

-- A well-formed map, directions that are a plan at its inner faults, the switches that routing sets for them, and what is
-- broken is what the map says. Nothing is asked of what stands elsewhere among the directions.
pub record Routed (w : Wafer) : Type 0 where
  pub map : well_formed w.rows w.columns w.grid ≡ Ok tt
  pub plan : Plan w.rows w.columns w.grid (directions_at w.directions (faults w.rows w.columns w.grid))
  pub across_set : w.across ≡ across_letters w.rows w.columns w.grid w.directions
  pub down_set : w.down ≡ down_letters w.rows w.columns w.grid w.directions
  pub broken_are : (v : Node) → w.broken v ≡ dead_node w.grid v

-- [i, j] is a cell
pub record Cell (w : Wafer) (i j : ℕ) : Type 0 where
  pub row_low : 1 ≤ i
  pub row_high : i ≤ w.rows
  pub column_low : 1 ≤ j
  pub column_high : j ≤ w.columns

-- the position that holds cell [i, j], and the port by which its link on a side leaves the processor there
abbrev pub holder : Wafer → ℕ → ℕ → ℕ
holder w i j = seat_of w (position i j)

abbrev pub out : Wafer → ℕ → ℕ → ℕ → Port
out w i j side = out_of (holder w i j) side

-- the right neighbour of [i, j] is on side 0, [i, j+1] where j < M, to be entered by W; the lower one is on side 1, [i+1, j] where i < N, by N
-- (the links to them are the horizontal and the vertical links of document 003)
pub data Neighbour (w : Wafer) (i j : ℕ) : ℕ → ℕ → ℕ → Compass → Type 0 where
  right : Cell w i j → j < w.columns → Neighbour w i j 0 i (j + 1) W
  lower : Cell w i j → i < w.rows → Neighbour w i j 1 (i + 1) j N

-- the link of [i, j] on a side enters the processor of [k, l] by a port, over at most three switches
pub record Reaches (w : Wafer) (i j side k l : ℕ) (port : Compass) : Type 0 where
  pub link : Trail
  pub is_link : Link w (out w i j side) link
  pub ends : Enters link (processor_of (holder w k l) at port)
  pub few : switches link ≤ 3

-- Every link to a neighbour reaches it: the routing of document 003's reconfigurability theorem. In its proof A and B are the
-- processors at (i, j) and (k, l), and C and D those that hold the two cells.
abbrev pub LinksReach : Type 0
LinksReach =
    (w : Wafer) → Routed w → (i j side k l : ℕ) (port : Compass) → Neighbour w i j side k l port → Reaches w i j side k l port

-- the follower's answer from [i, j]: the position that holds [k, l], the port's number and at most three switches
pub record Arrives (w : Wafer) (i j side k l : ℕ) (port : Compass) : Type 0 where
  pub passed : ℕ
  pub few : passed ≤ 3
  pub answer : followed w (position i j) side ≡ Ok (record { position = holder w k l; port = port_number port; switches = passed })

abbrev pub FollowerArrives : Type 0
FollowerArrives =
    (w : Wafer) → Routed w → (i j side k l : ℕ) (port : Compass) → Neighbour w i j side k l port → Arrives w i j side k l port

-- a link to a neighbour, named by its cell and side
pub record NeighbourLink (w : Wafer) : Type 0 where
  pub i : ℕ
  pub j : ℕ
  pub side : ℕ
  pub k : ℕ
  pub l : ℕ
  pub port : Compass
  pub to : Neighbour w i j side k l port
  pub link : Trail
  pub is_link : Link w (out w i j side) link

abbrev pub pieces_of : (w : Wafer) → NeighbourLink w → List Piece
pieces_of w u = pieces (out w u.i u.j u.side) u.link

-- two links to neighbours that have a piece of track in common have the same name
abbrev pub NoPieceShared : Type 0
NoPieceShared =
    (w : Wafer) → Routed w → (u v : NeighbourLink w) (a b : Piece) → Memᴰ a (pieces_of w u) → Memᴰ b (pieces_of w v)
    → Same a b → (u.i ≡ v.i) × (u.j ≡ v.j) × (u.side ≡ v.side)

-- every cell sits on a healthy processor
abbrev pub CellsSit : Type 0
CellsSit =
    (w : Wafer) → Routed w → (i j : ℕ) → Cell w i j
    → (processor w.rows w.columns (holder w i j) ≡ true) × (healthy w.grid (holder w i j) ≡ true)

-- no two cells on the same one
abbrev pub CellsAlone : Type 0
CellsAlone =
    (w : Wafer) → Routed w → (i j k l : ℕ) → Cell w i j → Cell w k l → holder w i j ≡ holder w k l → (i ≡ k) × (j ≡ l)

-- the placement holds these positions
abbrev pub PlacementHolds : Type 0
PlacementHolds =
    (w : Wafer) → Routed w → (i j : ℕ) → Cell w i j
    → get_or (placement w.rows w.columns w.grid w.directions) (position i j) 0 ≡ holder w i j

-- 16 does not apply to the switches that routing sets, for whatever directions
abbrev pub SwitchesPass : Type 0
SwitchesPass =
    (w : Wafer) → w.across ≡ across_letters w.rows w.columns w.grid w.directions
    → w.down ≡ down_letters w.rows w.columns w.grid w.directions → switches_test w ≡ Ok tt

-- the entry of the table for these states is x
abbrev pub printed_x : ℕ → ℕ → Bool
printed_x west east = eqb (entry west east) x

abbrev pub TwoOrThree : ℕ → ℕ → Type 0
TwoOrThree west east = ((west ≡ 2) × (east ≡ 2)) ⊎ ((west ≡ 3) × (east ≡ 3))

-- the routing states of the processor at p
abbrev pub vertical_of : Wafer → ℕ → ℕ
vertical_of w p = vertical_at w.rows w.columns w.grid (directed_faults w.rows w.columns w.grid w.directions) p

abbrev pub horizontal_of : Wafer → ℕ → ℕ
horizontal_of w p = horizontal_at w.rows w.columns w.grid (directed_faults w.rows w.columns w.grid w.directions) p

-- of the states whose entry is x, a plan has only 2 with 2 and 3 with 3 beside a switch, across or down
pub record XEntries (w : Wafer) : Type 0 where
  pub at_across : (p : ℕ) → across_exists w.rows w.columns (row p) (column p) ≡ true
      → printed_x (vertical_of w p) (vertical_of w (p + 1)) ≡ true → TwoOrThree (vertical_of w p) (vertical_of w (p + 1))
  pub at_down : (p : ℕ) → down_exists w.rows w.columns (row p) (column p) ≡ true
      → printed_x (horizontal_of w p) (horizontal_of w (p + 32)) ≡ true → TwoOrThree (horizontal_of w p) (horizontal_of w (p + 32))

abbrev pub FewXEntries : Type 0
FewXEntries = (w : Wafer) → Routed w → XEntries w
