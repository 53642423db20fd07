-- Laws of a link that is followed only where the cell has a neighbour, from where the placement holds the cell.
-- Assumes nothing.
use Rattle.std.specs.Prelude.{Ok}
use mathlib.Core.Path.{◌≡◌, refl, sym, ap, ◌∙◌}
use mathlib.Core.Bool.{Bool, true, false, not, ◌&&◌}
use mathlib.Core.List.{List, [], ◌∷◌}
use Prim.Native.Nat.{ℕ, ◌≤◌, ◌<◌}
use native.Mathlib.Omega.{arith}
use borrow.Author.Tests.{not-true, not-false, ne_eqb, eq-eqb, lt-ltb}
use lib.Dec.{ltb}
use lib.ListN.{length, get_or}
use Rattle.array.specs.Place.{inner}
use Rattle.array.specs.Buffer.{all_long}
use Rattle.array.proofs.Bools.{and_true, by_eq}
use Rattle.array.proofs.Places.{inner_holds}
use Rattle.array.proofs.Verdicts.{accept_both, false_accepted}
use Rattle.plans.specs.Check.{plan_tests}
use Rattle.track.specs.Ports.{Wafer}
use Rattle.track.specs.Link.{run}
use Rattle.track.specs.Follower.{by_side, seat_of, out_of, judged, followed}
use Rattle.track.specs.Follower.{Followed}
use Rattle.repair.specs.Operations.{link_tests, follow_test, follow_link}
use Rattle.repair.proofs.Calls.{follow_accepted}
use Rattle.repair.proofs.Cells.{cell_low, placement_long, placement_at, seat_low}
use Rattle.runs.specs.Run.{has_neighbour, neighbour_of, arrives_at}
use Rattle.runs.specs.Inner.{Laid}

-- The first of two tests, b, is answered as r.
module _ {b r : Bool} (e : r ≡ b) (later : Bool) where
  pub and_stops : not r ≡ true → false ≡ (b && later)
  and_stops h = ap (λ (z : Bool). z && later) (sym (not-true r h) ∙ e)

  pub and_passes : {v : Bool} → not r ≡ false → v ≡ later → v ≡ (b && later)
  and_passes h q = q ∙ ap (λ (z : Bool). z && later) (sym (not-false r h) ∙ e)

by_side_low : (side : ℕ) → by_side side 1 32 ≤ 32
by_side_low side = by_eq side 0 (λ e. rw e (omega arith)) (λ e. rw (ne_eqb side 0 e) (omega arith))

-- the follower's answer from a position
abbrev from_position : Wafer → ℕ → ℕ → Followed
from_position w side q = judged w.grid q 0 (run w 7 (out_of q side))

module _ {w : Wafer} {places : List ℕ} (l : Laid w places) where
  pub held_long : length places ≡ 1024
  held_long = ap length l.placed ∙ placement_long w.rows w.columns w.grid w.directions

  right : all_long (w.grid ∷ w.directions ∷ w.across ∷ w.down ∷ []) ≡ true
  right =
      let r = l.ready in
      rw (eq-eqb _ 1024 r.grid_long, eq-eqb _ 1024 r.directions_long, eq-eqb _ 1024 r.across_long, eq-eqb _ 1024 r.down_long)

  -- The cell at p has a neighbour on a side.
  module _ (side p : ℕ) (low : side < 2) (has : has_neighbour w.rows w.columns side p ≡ true) where
    cell : inner w.rows w.columns p ≡ true
    cell = (and_true (inner w.rows w.columns p) _ has).0

    place : p ≤ 990
    place = cell_low w.rows w.columns p l.ready.rows l.ready.columns cell

    -- the neighbour's number is a place of the buffers
    pub neighbour_low : neighbour_of side p < 1024
    neighbour_low =
        let i = inner_holds w.rows w.columns p cell in
        let r = l.ready in
        omega (arith, i.row_high, i.column_high, r.rows, r.columns, by_side_low side)

    held_at : get_or places p 0 ≡ seat_of w p
    held_at = ap (λ (b : List ℕ). get_or b p 0) l.placed ∙ placement_at w.rows w.columns w.grid w.directions p (omega (arith, place)) cell

    -- and so is the position that holds the cell
    pub held_low : get_or places p 0 < 1024
    held_low = omega (arith, held_at, seat_low w.rows w.columns w.grid w.directions p place)

    accepted : follow_test w p side ≡ Ok tt
    unfolding link_tests
    accepted =
        let e : not (inner w.rows w.columns p && ltb side 2) ≡ false = rw (cell, lt-ltb side 2 low) in
        accept_both (ap (λ (b : Bool). plan_tests w.rows w.columns b w.grid w.directions) right ∙ l.plan)
        (accept_both (false_accepted 15 0 0 e) l.switches)

    -- the link followed from there is the one that the follower answers of
    followed_held : from_position w side (get_or places p 0) ≡ follow_link w p side
    unfolding followed follow_link
    followed_held = ap (from_position w side) held_at ∙ follow_accepted refl (followed w p side) accepted refl

    -- r says whether that link arrives at `to`, where the neighbour sits
    pub arrives_held : {r : Bool} {from to : ℕ} {f : Followed} → from ≡ get_or places p 0 → to ≡ get_or places (neighbour_of side p) 0
        → f ≡ from_position w side from → r ≡ arrives_at to side f
        → r ≡ arrives_at (get_or places (neighbour_of side p) 0) side (follow_link w p side)
    arrives_held from to f r = r ∙ rw (f, from, to, followed_held)
