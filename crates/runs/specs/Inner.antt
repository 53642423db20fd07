-- What the inner parts of a run promise each other.
-- Assumes nothing.
use Rattle.std.specs.Prelude.{◌≡◌, ◌≤◌, true, List, ℕ, length, Ok}
use Rattle.plans.specs.Check.{plan_tests}
use Rattle.track.specs.Placement.{placement}
use Rattle.track.specs.Ports.{Wafer}
use Rattle.track.specs.Follower.{switches_test}
use Rattle.repair.specs.Operations.{place_cells, route_switches}

-- placement and routing, called with these buffers, would accept
pub record Accepts (n m : ℕ) (grid directions places across down : List ℕ) : Type 0 where
  pub placing : place_cells n m grid directions places ≡ Ok tt
  pub routing : route_switches n m grid directions across down ≡ Ok tt

-- a wafer whose sizes and buffers passed 1 and 2
pub record Ready (n m : ℕ) (grid directions across down : List ℕ) : Type 0 where
  pub rows : n ≤ 30
  pub columns : m ≤ 30
  pub grid_long : length grid ≡ 1024
  pub directions_long : length directions ≡ 1024
  pub across_long : length across ≡ 1024
  pub down_long : length down ≡ 1024

-- A wafer and its placement before the links are followed: 1 to 7 and 16 pass, whichever the cell.
pub record Laid (w : Wafer) (places : List ℕ) : Type 0 where
  pub ready : Ready w.rows w.columns w.grid w.directions w.across w.down
  pub plan : plan_tests w.rows w.columns true w.grid w.directions ≡ Ok tt
  pub switches : switches_test w ≡ Ok tt
  pub placed : places ≡ placement w.rows w.columns w.grid w.directions
