-- Where the tests of a run pass, demand 3 holds of it; and after `repaired` every link to a neighbour is found to reach it.
-- Assumes nothing.
use Rattle.std.specs.Prelude.{Ok}
use mathlib.Core.Path.{◌≡◌, refl, sym, ap, ◌∙◌}
use mathlib.Core.Bool.{Bool, true, false, ◌&&◌}
use mathlib.Core.List.{[], ◌∷◌}
use Prim.Native.Nat.{ℕ, ◌+◌, ◌*◌, ◌<◌}
use native.Mathlib.Omega.{arith}
use borrow.Author.Tests.{eq-eqb, le-leb, ltb-true}
use lib.ListN.{get_or}
use Rattle.array.specs.Place.{position, row, column, inner}
use Rattle.array.specs.Buffer.{long, all_long}
use Rattle.array.specs.Map.{map_tests}
use Rattle.array.specs.Tests.{Verdict}
use Rattle.array.proofs.Bools.{and_true}
use Rattle.array.proofs.Maps.{map_accepted}
use Rattle.array.proofs.Formed.{formed}
use Rattle.array.proofs.Places.{inner_holds}
use Rattle.array.proofs.Verdicts.{accept_both}
use Rattle.track.specs.declared.ports.Compass.{Compass}
use Rattle.track.specs.declared.ports.Compass.TheVariants.{W, N}
use Rattle.track.specs.Follower.{port_number}
use Rattle.track.specs.Theorems.{Cell, Neighbour, right, lower}
use Rattle.repair.specs.Operations.{follow_link}
use Rattle.repair.specs.InUse.{InUse}
use Rattle.repair.specs.Demand3.{Given, Good, planned_directions, used, places_held, routed}
use Rattle.runs.specs.Run.{run_test, neighbour_of, arrives_at, has_neighbour, reached, links_reached, all_reached, unless_refused_count, links_found, link_count}
use Rattle.runs.proofs.LinkCount.{right_links, lower_links}

-- the arguments are as demand 3 asks
pub run_good : (g : Given) → run_test g ≡ Ok tt → g.limit < 4294967296 → Good g
run_good g passed u32 =
    let a = map_accepted g.n g.m (all_long (g.grid ∷ g.directions ∷ g.places ∷ g.across ∷ g.down ∷ [])) g.grid passed in
    let l = and_true (long g.grid) _ a.lengths in
    let e : (long g.grid && true) ≡ true = rw l.0 in
    record { map = ap (λ (b : Bool). map_tests g.n g.m b g.grid) (e ∙ sym a.lengths) ∙ passed; u32 = u32; lent = l.1 }

and_same : (b x : Bool) → (b ≡ true → x ≡ true) → (b && x) ≡ b
and_same true x f = f refl
and_same false x f = refl

-- After `repaired`.
module _ (g : Given) (good : Good g) (after : InUse (used g)) where
  -- the link of the cell at p to a neighbour arrives there
  arrives : (p side k l : ℕ) (port : Compass) → Neighbour (routed g) (row p) (column p) side k l port
      → position k l ≡ neighbour_of side p → port_number port ≡ 2 * side
      → arrives_at (get_or (places_held g) (neighbour_of side p) 0) side (follow_link (routed g) p side) ≡ true
  arrives p side k l port to next number =
      let r = after.reaches (row p) (column p) side k l port to in
      let e : position (row p) (column p) ≡ p = omega arith in
      let q = r.at_neighbour ∙ ap (λ (i : ℕ). get_or (places_held g) i 0) next in
      ap (arrives_at (get_or (places_held g) (neighbour_of side p) 0) side) (rw e at r.own)
      ∙ rw (eq-eqb _ _ q, eq-eqb _ _ (ap port_number r.by_port ∙ number), le-leb _ 3 r.few)

  cell : (p : ℕ) → inner g.n g.m p ≡ true → Cell (routed g) (row p) (column p)
  cell p h =
      let i = inner_holds g.n g.m p h in
      record { row_low = i.row_low; row_high = i.row_high; column_low = i.column_low; column_high = i.column_high }

  right_arrives : (p x : ℕ) → reached (routed g) (places_held g) 0 p x ≡ has_neighbour g.n g.m 0 p
  right_arrives p x =
      and_same (has_neighbour g.n g.m 0 p) _
      (λ h.
      let a = and_true (inner g.n g.m p) _ h in
      arrives p 0 (row p) (column p + 1) W (right (cell p a.0) (ltb-true _ _ a.1)) (omega arith) refl)

  lower_arrives : (p x : ℕ) → reached (routed g) (places_held g) 1 p x ≡ has_neighbour g.n g.m 1 p
  lower_arrives p x =
      and_same (has_neighbour g.n g.m 1 p) _
      (λ h.
      let a = and_true (inner g.n g.m p) _ h in
      arrives p 1 (row p + 1) (column p) N (lower (cell p a.0) (ltb-true _ _ a.1)) (omega arith) refl)

  all_arrive : all_reached (routed g) (places_held g) ≡ link_count g.n g.m
  unfolding links_reached
  all_arrive =
      let f = formed g.n g.m g.grid good.map in
      let s = f.sizes in
      rw (
        right_links g.n g.m s.rows_high s.columns_high g.grid f.length_is right_arrives,
        lower_links g.n g.m s.rows_high s.columns_high g.grid f.length_is lower_arrives,
      )

  pub all_found : links_found g.n g.m g.grid (planned_directions g) g.places g.across g.down ≡ link_count g.n g.m
  unfolding links_found
  all_found =
      ap (λ (v : Verdict). unless_refused_count v (all_reached (routed g) (places_held g))) (accept_both after.placing_accepted after.routing_accepted)
      ∙ all_arrive
