-- Document 01, "Placement and routing": the track. Processors and switches have ports W, E, N, S; a stretch leads from port to
-- neighbouring port; letters and converted faults join ports. Both axes at once. Assumes nothing.
use Rattle.std.specs.Prelude.{ℕ, zero, suc, Bool, false, cond, not, List, Option, Some, None, eqb, get_or}
use Rattle.array.specs.Place.{position, processor_at}
use Rattle.array.specs.Map.{dead, inner_fault}
use Rattle.paths.specs.Path.{by_direction}
use Rattle.track.specs.Letters.{across_exists, down_exists, a, b, c, d}
use Rattle.track.specs.declared.ports.Compass.{Compass}
use Rattle.track.specs.declared.ports.Compass.TheVariants.{W, E, N, S}
use Rattle.track.specs.declared.ports.Node.{Node}
use Rattle.track.specs.declared.ports.Node.TheVariants.{Processor, Across, Down}
use Rattle.track.specs.declared.ports.Port.{Port}

-- a wafer with its paths and its switches set: what a link runs through; the nodes that are broken join none of their
-- ports, whatever is set (T-04: the dead processors)
pub record Wafer : Type 0 where
  pub rows : ℕ
  pub columns : ℕ
  pub grid : List ℕ
  pub directions : List ℕ
  pub across : List ℕ
  pub down : List ℕ
  pub broken : Node → Bool

-- the nodes that the map says are broken
abbrev pub dead_node : List ℕ → Node → Bool
dead_node grid (Processor x y) = dead grid (position x y)
dead_node grid (Across x y) = false
dead_node grid (Down x y) = false

abbrev pub wafer : ℕ → ℕ → List ℕ → List ℕ → List ℕ → List ℕ → Wafer
wafer n m grid directions across down =
    record {
      rows = n;
      columns = m;
      grid = grid;
      directions = directions;
      across = across;
      down = down;
      broken = dead_node grid;
    }

infix 60 ◌at◌
abbrev pub ◌at◌ : Node → Compass → Port
v at s = record { node = v; side = s }

-- Which port neighbours which, wherever both stand:
--   Processor (x,y) E - W Across (x,y) E - W Processor (x,y+1)    the across switch between two processors of a row
--   Processor (x,y) S - N Down (x,y) S - N Processor (x+1,y)      the down switch between two processors of a column
--   Across (x,y) S - N Across (x+1,y)                             an across switch and the one below it in its channel
--   Down (x,y) E - W Down (x,y+1)                                 the same, transposed
unfoldable pub neighbour : Node → Compass → Option Port
neighbour (Processor x y) E = Some (Across x y at W)
neighbour (Processor x y) S = Some (Down x y at N)
neighbour (Processor x zero) W = None
neighbour (Processor x (suc y)) W = Some (Across x y at E)
neighbour (Processor zero y) N = None
neighbour (Processor (suc x) y) N = Some (Down x y at S)
neighbour (Across x y) W = Some (Processor x y at E)
neighbour (Across x y) E = Some (Processor x (suc y) at W)
neighbour (Across zero y) N = None
neighbour (Across (suc x) y) N = Some (Across x y at S)
neighbour (Across x y) S = Some (Across (suc x) y at N)
neighbour (Down x y) N = Some (Processor x y at S)
neighbour (Down x y) S = Some (Processor (suc x) y at N)
neighbour (Down x zero) W = None
neighbour (Down x (suc y)) W = Some (Down x y at E)
neighbour (Down x y) E = Some (Down x (suc y) at W)

unfoldable pub stands : ℕ → ℕ → Node → Bool
stands n m (Processor x y) = processor_at n m x y
stands n m (Across x y) = across_exists n m x y
stands n m (Down x y) = down_exists n m x y

abbrev pub if_stands : ℕ → ℕ → Option Port → Option Port
if_stands n m None = None
if_stands n m (Some i) = cond (stands n m i.node) (Some i) None

-- the port at the other end of the stretch that begins at a port, if there is one; document 003 calls a stretch between
-- two switches a segment
unfoldable pub stretch_from : Wafer → Port → Option Port
stretch_from w o = if_stands w.rows w.columns (neighbour o.node o.side)

-- the pairs of ports that can be joined
abbrev pub N–S : Compass → Option Compass
N–S N = Some S
N–S S = Some N
N–S W = None
N–S E = None

abbrev pub W–E : Compass → Option Compass
W–E W = Some E
W–E E = Some W
W–E N = None
W–E S = None

abbrev pub W–S·E–N : Compass → Option Compass
W–S·E–N W = Some S
W–S·E–N S = Some W
W–S·E–N E = Some N
W–S·E–N N = Some E

abbrev pub W–N·E–S : Compass → Option Compass
W–N·E–S W = Some N
W–N·E–S N = Some W
W–N·E–S E = Some S
W–N·E–S S = Some E

abbrev pub unjoined : Compass → Option Compass
unjoined s = None

abbrev pub by_letter : {A : Type 0} → ℕ → A → A → A → A → A → A
by_letter l ja jb jc jd other =
    cond (eqb l a) ja (cond (eqb l b) jb (cond (eqb l c) jc (cond (eqb l d) jd other)))

-- what the letter of an across switch joins, worked out from Table II: the switch functions of document 003's Fig. 1(b) are lost
abbrev pub across_joins : ℕ → Compass → Option Compass
across_joins l = by_letter l N–S W–E W–S·E–N W–N·E–S unjoined

-- what the letter of a down switch joins: a and b change places, c and d join the same ports
abbrev pub down_joins : ℕ → Compass → Option Compass
down_joins l = by_letter l W–E N–S W–S·E–N W–N·E–S unjoined

-- what an inner fault joins (a connecting element in document 003), by the direction of its path: the two ports along it
abbrev pub fault_joins : ℕ → Compass → Option Compass
fault_joins d = by_direction d N–S N–S W–E W–E unjoined

-- A link ends at any processor but an inner fault (document 01: a processor that joins nothing). A dead processor joins
-- nothing either, but is an inner fault: a link that enters it is at an unjoined port, 17.
unfoldable pub ends_link : Wafer → Node → Bool
ends_link w (Processor x y) = not (inner_fault w.rows w.columns w.grid (position x y))
ends_link w (Across x y) = false
ends_link w (Down x y) = false

-- the port of a node that is set to be joined inside to a port of it
unfoldable pub set_to : Wafer → Node → Compass → Option Compass
set_to w (Processor x y) s =
    cond (inner_fault w.rows w.columns w.grid (position x y)) (fault_joins (get_or w.directions (position x y) 0) s) None
set_to w (Across x y) s = across_joins (get_or w.across (position x y) 0) s
set_to w (Down x y) s = down_joins (get_or w.down (position x y) 0) s

-- and that is joined: none of a broken node
unfoldable pub joined : Wafer → Node → Compass → Option Compass
joined w v s = cond (w.broken v) None (set_to w v s)
