-- One run with any planner: what the function that makes its calls answers, and every buffer afterwards (document
-- 00, demand 3; document 01, end of "Placement and routing"; document 02, T-05). Assumes nothing.
use Rattle.std.specs.Prelude.{ℕ, ◌+◌, ◌-◌, ◌*◌, ◌≡◌, Bool, true, false, cond, ◌&&◌, List, [], ◌∷◌, ltb, leb, eqb, length, get_or, Ok, Err}
use Rattle.array.specs.Place.{row, column, inner}
use Rattle.array.specs.Tests.{or_else}
use Rattle.array.specs.Buffer.{written, positions_in}
use Rattle.array.specs.Map.{map_test}
use Rattle.array.specs.Tests.{Verdict}
use Rattle.track.specs.Ports.{Wafer, wafer}
use Rattle.track.specs.Follower.{by_side}
use Rattle.track.specs.Follower.{Followed}
use Rattle.repair.specs.Operations.{told, answer_after, is_repaired, place_cells, places_after, route_switches, across_after, down_after, follow_link}
use Rattle.repair.specs.Demand3.{Given, Good, answer, planned_directions, places_held, routed, Demand3}
use Rattle.repair.specs.declared.Planner.{Planner}
use Rattle.repair.specs.declared.Answer.{Answer}
use Rattle.runs.specs.declared.Ran.{Ran}

abbrev pub given : Planner → ℕ → ℕ → List ℕ → ℕ → List ℕ → List ℕ → List ℕ → List ℕ → Given
given pl n m grid limit directions places across down =
    record {
      planner = pl;
      n = n;
      m = m;
      grid = grid;
      limit = limit;
      directions = directions;
      places = places;
      across = across;
      down = down;
    }

-- 1 to 3, where 2 is tested of all buffers of the run
abbrev pub run_test : Given → Verdict
run_test g =
    map_test g.n g.m (g.grid ∷ g.directions ∷ g.places ∷ g.across ∷ g.down ∷ []) g.grid

-- the refusal of these tests, else the planner's answer
unfoldable pub run_answer : Given → Answer
run_answer g = answer_after (run_test g) (answer g)

-- the direction buffer: as the planner leaves it, or as lent where the tests refuse
unfoldable pub run_directions : Given → List ℕ
run_directions g = written (run_test g) (planned_directions g) g.directions

-- Placement, routing and follower are called after `repaired`. Otherwise the placement and the switch buffers stay as they were.
abbrev pub if_repaired : {A : Type 0} → Given → A → A → A
if_repaired g new old = cond (is_repaired (run_answer g)) new old

unfoldable pub run_places : Given → List ℕ
run_places g = if_repaired g (places_held g) g.places

unfoldable pub run_across : Given → List ℕ
run_across g = if_repaired g (routed g).across g.across

unfoldable pub run_down : Given → List ℕ
run_down g = if_repaired g (routed g).down g.down

-- The links to a neighbour: p is a cell, and its right neighbour (side 0) or its lower one (side 1) is a cell too.
abbrev pub has_neighbour : ℕ → ℕ → ℕ → ℕ → Bool
has_neighbour n m side p = inner n m p && by_side side (ltb (column p) m) (ltb (row p) n)

abbrev pub neighbour_of : ℕ → ℕ → ℕ
neighbour_of side p = p + by_side side 1 32

-- an answer of the follower: the link enters at position q, by port W on side 0 or N on side 1 (0 and 2), over at most three switches
abbrev pub arrives_at : ℕ → ℕ → Followed → Bool
arrives_at q side (Ok l) = (eqb l.position q && eqb l.port (2 * side)) && leb l.switches 3
arrives_at q side (Err r) = false

-- the link of the cell at p has a neighbour to reach, and the follower finds that it enters where `places` holds that neighbour
abbrev pub reached : Wafer → List ℕ → ℕ → ℕ → ℕ → Bool
reached w places side p mark =
    has_neighbour w.rows w.columns side p && arrives_at (get_or places (neighbour_of side p) 0) side (follow_link w p side)

-- how many do on a side
unfoldable pub links_reached : Wafer → List ℕ → ℕ → ℕ
links_reached w places side = length (positions_in (reached w places side) w.grid)

-- and on both
abbrev pub all_reached : Wafer → List ℕ → ℕ
all_reached w places = links_reached w places 0 + links_reached w places 1

-- none where a call refuses
abbrev pub unless_refused_count : Verdict → ℕ → ℕ
unless_refused_count (Ok tt) k = k
unless_refused_count (Err r) k = 0

-- how many of all links are found to reach their neighbour, once placement and routing have been called
unfoldable pub links_found : ℕ → ℕ → List ℕ → List ℕ → List ℕ → List ℕ → List ℕ → ℕ
links_found n m grid directions places across down =
    unless_refused_count (or_else (place_cells n m grid directions places) (route_switches n m grid directions across down))
    (all_reached
    (wafer n m grid directions (across_after n m grid directions across down) (down_after n m grid directions across down))
    (places_after n m grid directions places))

unfoldable pub run_links : Given → ℕ
run_links g =
    if_repaired g (links_found g.n g.m g.grid (planned_directions g) g.places g.across g.down) 0

-- how many links to a neighbour an N x M array has: to the right and to the lower one
abbrev pub link_count : ℕ → ℕ → ℕ
link_count n m = n * (m - 1) + m * (n - 1)

-- A run's result r, and its buffers afterwards: each is as defined. Where the tests pass, what demand 3 asks of the arguments holds, demand 3
-- with it, and r and the directions are what it speaks of. After `repaired` the other buffers are too, and the follower has found
-- every link to a neighbour to reach it.
pub record RanAs (g : Given) (r : Ran) (directions places across down : List ℕ) : Type 0 where
  pub answers : told r.answer ≡ told (run_answer g)
  pub counts : r.links ≡ run_links g
  pub directions_are : directions ≡ run_directions g
  pub places_are : places ≡ run_places g
  pub across_are : across ≡ run_across g
  pub down_are : down ≡ run_down g
  pub demand_3 : run_test g ≡ Ok tt → Good g × Demand3 g
  pub spoken_of : run_test g ≡ Ok tt → (r.answer ≡ answer g) × (directions ≡ planned_directions g)
  pub after_repaired : is_repaired r.answer ≡ true
      → (places ≡ places_held g) × (across ≡ (routed g).across) × (down ≡ (routed g).down) × (r.links ≡ link_count g.n g.m)
