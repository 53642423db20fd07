-- Placement, routing and follower serve every plan that the plan check accepts.
-- Assumes nothing.
use Rattle.std.specs.Prelude.{Ok}
use Prim.Native.Nat.{ℕ, ◌<◌}
use mathlib.Core.Path.{◌≡◌, refl, sym, ap, subst, ◌∙◌}
use mathlib.Core.Bool.{true, not, ◌&&◌}
use mathlib.Core.List.{List, [], ◌∷◌, Memᴰ}
use native.Mathlib.Omega.{arith}
use borrow.Author.Tests.{eq-eqb, lt-ltb}
use lib.ListN.{length, get_or}
use Rattle.array.specs.Place.{position, row, column, processor}
use Rattle.array.specs.Buffer.{long, all_long, written}
use Rattle.array.specs.Map.{healthy}
use Rattle.array.specs.Tests.{Verdict}
use Rattle.array.proofs.Bools.{and_true, and_both}
use Rattle.array.proofs.Verdicts.{accept_both, false_accepted}
use Rattle.array.proofs.Fills.{tabulate_length}
use Rattle.array.proofs.Formed.{grid_and}
use Rattle.plans.specs.Check.{check_plan, plan_test, HoldsPlan}
use Rattle.plans.proofs.Accepts.{accepts_plans, plan_lent}
use Rattle.track.specs.Placement.{placement}
use Rattle.track.specs.Letters.{across_letters, down_letters}
use Rattle.track.specs.Ports.{Wafer, ◌at◌}
use Rattle.track.specs.declared.ports.Compass.{Compass}
use Rattle.track.specs.declared.ports.Node.TheVariants.{Processor}
use Rattle.track.specs.Link.{Link}
use Rattle.track.specs.Pieces.{Piece, pieces, Same}
use Rattle.track.specs.Follower.{processor_of, out_of, followed, cell_test}
use Rattle.track.specs.Theorems.{Routed, Cell, Neighbour, right, lower, holder}
use Rattle.track.proofs.Theorem.{reaches, no_shared_piece, avoids_dead}
use Rattle.track.proofs.Seats.{sits, alone, neighbour_cell}
use Rattle.track.proofs.Accepted.{inner_cell, followed_neighbour, switches_pass, placement_holds}
use Rattle.repair.specs.Operations.{place_cells, places_after, route_switches, across_after, down_after}
use Rattle.repair.specs.Operations.{link_tests, follow_link, followed_after}
use Rattle.repair.specs.InUse.{Use, placing, places_held, routing, routed, following, held}
use Rattle.repair.specs.InUse.{Reached, NeighbourLink, pieces_of, InUse, PlansServe}
use Rattle.track.specs.Theorems as track

module _ (u : Use) (checked : check_plan u.n u.m u.grid u.directions ≡ Ok tt)
    (lent : all_long (u.places ∷ u.across ∷ u.down ∷ []) ≡ true) where
  abbrev n : ℕ
  n = u.n

  abbrev m : ℕ
  m = u.m

  abbrev grid : List ℕ
  grid = u.grid

  abbrev dirs : List ℕ
  dirs = u.directions

  abbrev w : Wafer
  w = routed u

  lengths : (long u.places ≡ true) × (all_long (u.across ∷ u.down ∷ []) ≡ true)
  lengths = and_true (long u.places) _ lent

  -- the directions hold a plan
  holds : HoldsPlan n m grid dirs
  holds = (accepts_plans n m grid dirs).0 checked

  -- 1 to 7 pass, whichever other buffers of their length are lent
  passes : (others : List (List ℕ)) → all_long others ≡ true → plan_test n m (grid ∷ dirs ∷ others) grid dirs ≡ Ok tt
  passes others h =
      plan_lent n m grid dirs (long grid && (long dirs && all_long others)) checked
      (grid_and n m grid (long dirs && all_long others) holds.map (rw (eq-eqb (length dirs) 1024 holds.length_right, h)))

  placed : placing u ≡ Ok tt
  unfolding place_cells
  placed = passes (u.places ∷ []) (rw lengths.0)

  routed_right : routing u ≡ Ok tt
  unfolding route_switches
  routed_right = passes (u.across ∷ u.down ∷ []) lengths.1

  places_are : places_held u ≡ placement n m grid dirs
  unfolding places_after
  places_are = ap (λ (v : Verdict). written v (placement n m grid dirs) u.places) placed

  across_are : w.across ≡ across_letters n m grid dirs
  unfolding across_after
  across_are = ap (λ (v : Verdict). written v (across_letters n m grid dirs) u.across) routed_right

  down_are : w.down ≡ down_letters n m grid dirs
  unfolding down_after
  down_are = ap (λ (v : Verdict). written v (down_letters n m grid dirs) u.down) routed_right

  wafer_routed : Routed w
  wafer_routed =
      record {
        map = holds.map;
        plan = holds.plan;
        across_set = across_are;
        down_set = down_are;
        broken_are = λ v. refl;
      }

  -- the placement holds the seats
  held_is : (i j : ℕ) → Cell w i j → held u i j ≡ holder w i j
  held_is i j c = ap (λ (b : List ℕ). get_or b (position i j) 0) places_are ∙ placement_holds w wafer_routed i j c

  all_sit : (i j : ℕ) → Cell w i j → (processor n m (held u i j) ≡ true) × (healthy grid (held u i j) ≡ true)
  all_sit i j c = rw (held_is i j c) (sits w wafer_routed i j c)

  all_alone : (i j k l : ℕ) → Cell w i j → Cell w k l → held u i j ≡ held u k l → (i ≡ k) × (j ≡ l)
  all_alone i j k l c d e = alone w wafer_routed i j k l c d (sym (held_is i j c) ∙ e ∙ held_is k l d)

  -- the cell that a link to a neighbour leaves, and its side
  leaves : (i j side k l : ℕ) (port : Compass) → Neighbour w i j side k l port → Cell w i j × (side < 2)
  leaves i j side k l port (right c h) = (c, omega arith)
  leaves i j side k l port (lower c h) = (c, omega arith)

  -- 15 and 16 pass
  cell_passes : (i j side : ℕ) → Cell w i j → side < 2 → cell_test w (position i j) side ≡ Ok tt
  cell_passes i j side c h =
      false_accepted 15 0 0 (ap not (and_both _ _ (inner_cell w wafer_routed i j c) (lt-ltb side 2 h)))

  switches_long : all_long (w.across ∷ w.down ∷ []) ≡ true
  unfolding across_letters down_letters
  switches_long =
      let a : length w.across ≡ 1024 = ap length across_are ∙ tabulate_length _ 1024 in
      let d : length w.down ≡ 1024 = ap length down_are ∙ tabulate_length _ 1024 in
      rw (eq-eqb (length w.across) 1024 a, eq-eqb (length w.down) 1024 d)

  follow_accepted : (i j side : ℕ) → Cell w i j → side < 2 → following u i j side ≡ followed w (position i j) side
  unfolding follow_link link_tests
  follow_accepted i j side c h =
      ap (λ (v : Verdict). followed_after v (followed w (position i j) side))
      (accept_both (passes (w.across ∷ w.down ∷ []) switches_long)
      (accept_both (cell_passes i j side c h) (switches_pass w across_are down_are)))

  all_reach : (i j side k l : ℕ) (port : Compass) → Neighbour w i j side k l port → Reached u i j side k l port
  all_reach i j side k l port to =
      let c = leaves i j side k l port to in
      let r = reaches w wafer_routed i j side k l port to in
      let z : position (row (holder w k l)) (column (holder w k l)) ≡ holder w k l = omega arith in
      record {
        link = r.link;
        is_link = rw (held_is i j c.0) r.is_link;
        end = processor_of (holder w k l) at port;
        ends = r.ends;
        own = follow_accepted i j side c.0 c.1 ∙ followed_neighbour w wafer_routed i j side k l port to r;
        at_neighbour = z ∙ sym (held_is k l (neighbour_cell w i j side k l port to));
        by_port = refl;
        few = r.few;
      }

  -- a link to a neighbour as a link of the wafer
  held_at : (x : NeighbourLink u) → held u x.i x.j ≡ holder w x.i x.j
  held_at x = held_is x.i x.j (leaves x.i x.j x.side x.k x.l x.port x.to).0

  abbrev wafer_link : NeighbourLink u → track.NeighbourLink w
  wafer_link x =
      record {
        i = x.i;
        j = x.j;
        side = x.side;
        k = x.k;
        l = x.l;
        port = x.port;
        to = x.to;
        link = x.link;
        is_link = subst (λ (p : ℕ). Link w (out_of p x.side) x.link) (held_at x) x.is_link;
      }

  same_pieces : (x : NeighbourLink u) → pieces_of u x ≡ track.pieces_of w (wafer_link x)
  same_pieces x = ap (λ (p : ℕ). pieces (out_of p x.side) x.link) (held_at x)

  none_shared : (x y : NeighbourLink u) (a b : Piece) → Memᴰ a (pieces_of u x) → Memᴰ b (pieces_of u y)
      → Same a b → (x.i ≡ y.i) × (x.j ≡ y.j) × (x.side ≡ y.side)
  none_shared x y a b p q s =
      no_shared_piece w wafer_routed (wafer_link x) (wafer_link y) a b
      (subst (λ (l : List Piece). Memᴰ a l) (same_pieces x) p)
      (subst (λ (l : List Piece). Memᴰ b l) (same_pieces y) q)
      s

  serves : InUse u
  serves =
      record {
        placing_accepted = placed;
        placement_defined = places_are;
        routing_accepted = routed_right;
        across_defined = across_are;
        down_defined = down_are;
        sits = all_sit;
        alone = all_alone;
        reaches = all_reach;
        no_shared_piece = none_shared;
        avoids_dead = λ x i j h. avoids_dead w wafer_routed (wafer_link x) (Processor i j) h;
      }

pub plans_serve : PlansServe
plans_serve u checked lent = serves u checked lent
