-- A plan in use: placement, routing and follower on a map and a direction buffer that the plan check accepts (document 00, demand 3;
-- document 01, end of "Placement and routing"). Document 02, T-04: a dead processor joins none of its ports.
-- Assumes nothing.
use Rattle.std.specs.Prelude.{ℕ, ◌≤◌, ◌≡◌, true, get_or, Ok}
use mathlib.Core.List.{List, [], ◌∷◌, Memᴰ}
use Rattle.array.specs.Place.{position, processor}
use Rattle.array.specs.Buffer.{all_long}
use Rattle.array.specs.Map.{healthy, dead}
use Rattle.array.specs.Tests.{Verdict}
use Rattle.plans.specs.Check.{check_plan}
use Rattle.track.specs.Placement.{placement}
use Rattle.track.specs.Letters.{across_letters, down_letters}
use Rattle.track.specs.Ports.{Wafer, wafer}
use Rattle.track.specs.declared.ports.Compass.{Compass}
use Rattle.track.specs.declared.ports.Node.TheVariants.{Processor}
use Rattle.track.specs.declared.ports.Port.{Port}
use Rattle.track.specs.Link.{Trail, Link, Enters, switches}
use Rattle.track.specs.Pieces.{Piece, pieces, Same}
use Rattle.track.specs.Follower.{position_of, out_of, landing}
use Rattle.track.specs.Theorems.{Cell, Neighbour}
use Rattle.track.specs.Avoids.{Visits}
use Rattle.track.specs.Follower.{Followed}
use Rattle.repair.specs.Operations.{place_cells, places_after, route_switches, across_after, down_after}
use Rattle.repair.specs.Operations.{follow_link}

-- what is given: a fault map, a direction buffer, and the lent buffers with whatever they hold
pub record Use : Type 0 where
  pub n : ℕ
  pub m : ℕ
  pub grid : List ℕ
  pub directions : List ℕ
  pub places : List ℕ
  pub across : List ℕ
  pub down : List ℕ

-- THE CALLS. Each gets N, M, the grid and the directions; what the routing leaves in the switch buffers is handed to the follower.
abbrev pub placing : Use → Verdict
placing u = place_cells u.n u.m u.grid u.directions u.places

abbrev pub places_held : Use → List ℕ
places_held u = places_after u.n u.m u.grid u.directions u.places

abbrev pub routing : Use → Verdict
routing u = route_switches u.n u.m u.grid u.directions u.across u.down

-- the wafer that the follower is given
abbrev pub routed : Use → Wafer
routed u =
    wafer u.n u.m u.grid u.directions
    (across_after u.n u.m u.grid u.directions u.across u.down)
    (down_after u.n u.m u.grid u.directions u.across u.down)

abbrev pub following : Use → ℕ → ℕ → ℕ → Followed
following u i j side = follow_link (routed u) (position i j) side

-- the position that the placement holds for cell [i, j], and the port of the processor there by which its link on a side leaves
abbrev pub held : Use → ℕ → ℕ → ℕ
held u i j = get_or (places_held u) (position i j) 0

abbrev pub out : Use → ℕ → ℕ → ℕ → Port
out u i j side = out_of (held u i j) side

-- the link of [i, j] on a side, which is to reach [k, l] by a port
pub record Reached (u : Use) (i j side k l : ℕ) (port : Compass) : Type 0 where
  -- there is a link, run through the switches that routing sets, and it enters a processor by the port `end`
  pub link : Trail
  pub is_link : Link (routed u) (out u i j side) link
  pub end : Port
  pub ends : Enters link end
  -- the follower accepts, and its answer is that of the link itself: the end's position and port number, and the link's switches
  pub own : following u i j side ≡ Ok (landing link end)
  -- the position entered is the one that the placement holds for the neighbour
  pub at_neighbour : position_of end.node ≡ held u k l
  pub by_port : end.side ≡ port
  pub few : switches link ≤ 3

-- a link to a neighbour, named by its cell and side
pub record NeighbourLink (u : Use) : Type 0 where
  pub i : ℕ
  pub j : ℕ
  pub side : ℕ
  pub k : ℕ
  pub l : ℕ
  pub port : Compass
  pub to : Neighbour (routed u) i j side k l port
  pub link : Trail
  pub is_link : Link (routed u) (out u i j side) link

-- all the pieces that it runs over
abbrev pub pieces_of : (u : Use) → NeighbourLink u → List Piece
pieces_of u x = pieces (out u x.i x.j x.side) x.link

-- what is said of a plan in use
pub record InUse (u : Use) : Type 0 where
  -- placement and routing accept, and their buffers hold what `track` defines for the directions
  pub placing_accepted : placing u ≡ Ok tt
  pub placement_defined : places_held u ≡ placement u.n u.m u.grid u.directions
  pub routing_accepted : routing u ≡ Ok tt
  pub across_defined : (routed u).across ≡ across_letters u.n u.m u.grid u.directions
  pub down_defined : (routed u).down ≡ down_letters u.n u.m u.grid u.directions
  -- every cell has a healthy processor to itself
  pub sits : (i j : ℕ) → Cell (routed u) i j
      → (processor u.n u.m (held u i j) ≡ true) × (healthy u.grid (held u i j) ≡ true)
  pub alone : (i j k l : ℕ) → Cell (routed u) i j → Cell (routed u) k l → held u i j ≡ held u k l → (i ≡ k) × (j ≡ l)
  -- the track followed from any cell to a right or lower neighbour reaches it, by W or by N, over at most three switches
  pub reaches : (i j side k l : ℕ) (port : Compass) → Neighbour (routed u) i j side k l port → Reached u i j side k l port
  -- no two such links of different name share a piece of track
  pub no_shared_piece : (x y : NeighbourLink u) (a b : Piece) → Memᴰ a (pieces_of u x) → Memᴰ b (pieces_of u y)
      → Same a b → (x.i ≡ y.i) × (x.j ≡ y.j) × (x.side ≡ y.side)
  -- and none enters a dead processor
  pub avoids_dead : (x : NeighbourLink u) (i j : ℕ) → dead u.grid (position i j) ≡ true → Visits x.link (Processor i j) → ⊥

-- for every plan that the plan check accepts and every content of the lent buffers, which have 1,024 elements each
abbrev pub PlansServe : Type 0
PlansServe =
    (u : Use) → check_plan u.n u.m u.grid u.directions ≡ Ok tt
    → all_long (u.places ∷ u.across ∷ u.down ∷ []) ≡ true → InUse u
