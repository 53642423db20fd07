-- Where placement and routing would accept: what their inner parts require, and what is then laid for the follower.
-- Assumes nothing.
use mathlib.Core.Path.{◌≡◌, sym, ap, ◌∙◌}
use mathlib.Core.Bool.{Bool, true, ◌&&◌}
use mathlib.Core.List.{List}
use Prim.Native.Nat.{ℕ}
use borrow.Author.Tests.{eqb-true}
use lib.ListN.{length}
use Rattle.array.specs.Buffer.{long}
use Rattle.array.proofs.Bools.{and_true}
use Rattle.array.proofs.Fills.{tabulate_length}
use Rattle.array.proofs.Maps.{AcceptedMap}
use Rattle.plans.specs.Check.{plan_tests}
use Rattle.plans.specs.Inner.{Directed}
use Rattle.plans.proofs.Tested.{tested_map, tested_directions}
use Rattle.track.specs.Placement.{placement}
use Rattle.track.specs.Letters.{across_letters, down_letters}
use Rattle.track.specs.Ports.{wafer}
use Rattle.track.proofs.Accepted.{switches_pass}
use Rattle.repair.specs.Operations.{place_cells, places_after, route_switches, across_after, down_after}
use Rattle.repair.proofs.Calls.{front_long}
use Rattle.runs.specs.Run.{all_reached, links_found}
use Rattle.runs.specs.Inner.{Accepts, Laid}

-- the third of some buffers whose lengths are all tested, and the others after it
third_long : (a b c : List ℕ) (others : Bool) → (long a && (long b && (long c && others))) ≡ true → (length c ≡ 1024) × (others ≡ true)
third_long a b c others h =
    let x = and_true (long c) others (and_true (long b) _ (and_true (long a) _ h).1).1 in
    (eqb-true _ _ x.0, x.1)

module _ {n m : ℕ} {grid directions places across down : List ℕ} (a : Accepts n m grid directions places across down) where
  map : AcceptedMap n m (long grid && (long directions && (long places && true))) grid
  unfolding place_cells
  map = tested_map n m _ grid directions a.placing

  pub directed : Directed n m grid directions
  unfolding place_cells
  directed = tested_directions n m _ grid directions a.placing (λ h. front_long grid directions (long places && true) h)

  pub places_long : length places ≡ 1024
  places_long = (third_long grid directions places true map.lengths).0

  pub switches_long : (length across ≡ 1024) × (length down ≡ 1024)
  unfolding route_switches
  switches_long =
      let x = third_long grid directions across (long down && true) (tested_map n m _ grid directions a.routing).lengths in
      (x.0, eqb-true _ _ (and_true (long down) true x.1).0)

  -- What placement and routing write.
  module _ {across' down' places' : List ℕ} (x : across' ≡ across_letters n m grid directions)
      (y : down' ≡ down_letters n m grid directions) (z : places' ≡ placement n m grid directions) where
    -- it is laid for the follower
    pub laid : Laid (wafer n m grid directions across' down') places'
    unfolding place_cells across_letters down_letters
    laid =
        record {
          ready =
              record {
                rows = directed.sound.rows;
                columns = directed.sound.columns;
                grid_long = directed.sound.grid_long;
                directions_long = directed.sound.directions_long;
                across_long = ap length x ∙ tabulate_length _ 1024;
                down_long = ap length y ∙ tabulate_length _ 1024;
              };
          plan = ap (λ (b : Bool). plan_tests n m b grid directions) (sym map.lengths) ∙ a.placing;
          switches = switches_pass (wafer n m grid directions across' down') x y;
          placed = z;
        }

    -- and is what these operations leave, with as many links found as are counted on it
    pub finished : {k : ℕ} → k ≡ all_reached (wafer n m grid directions across' down') places'
        → (k ≡ links_found n m grid directions places across down) × ((places' ≡ places_after n m grid directions places)
        × ((across' ≡ across_after n m grid directions across down) × (down' ≡ down_after n m grid directions across down)))
    unfolding links_found places_after across_after down_after
    finished l = rw (a.placing, a.routing) (l ∙ rw (x, y, z), (z, (x, y)))
