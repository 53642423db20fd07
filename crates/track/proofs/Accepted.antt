-- On a routed wafer the placement holds the cells' positions, the switch bytes pass 16 and the follower arrives at every neighbour.
-- Assumes nothing.
use Rattle.std.specs.Prelude.{Ok}
use mathlib.Core.Path.{◌≡◌, refl, ap, ◌∙◌}
use mathlib.Core.Bool.{Bool, true, false, cond, not, ◌&&◌}
use mathlib.Core.List.{List}
use Prim.Native.Nat.{ℕ, ◌+◌}
use native.Mathlib.Omega.{arith}
use lib.Dec.{T, leb}
use lib.ListN.{length, get_or}
use Rattle.array.specs.Place.{position, row, column, inner}
use Rattle.array.specs.Map.{mark_at, faulty}
use Rattle.array.proofs.Bools.{and_both}
use Rattle.array.proofs.Places.{inner_between, position_read}
use Rattle.array.proofs.Fills.{tabulate_at, tabulate_length}
use Rattle.array.proofs.Marks.{healthy_not_faulty}
use Rattle.array.proofs.Scans.{scan_all, buffer_scan}
use Rattle.array.proofs.Verdicts.{false_accepted}
use Rattle.track.specs.Placement.{placed_at, placement}
use Rattle.track.specs.Letters.{letter, across_exists, down_exists, across_at, down_at, across_letters, down_letters, switch_byte}
use Rattle.track.specs.Ports.{Wafer, ◌at◌}
use Rattle.track.specs.declared.ports.Compass.{Compass}
use Rattle.track.specs.Follower.{processor_of, switch_test, landing, followed}
use Rattle.track.specs.Theorems.{Routed, Cell, holder, Neighbour, Reaches, FollowerArrives, PlacementHolds, SwitchesPass}
use Rattle.track.proofs.View.{tr}
use Rattle.track.proofs.Walks.{State, state, state_number}
use Rattle.track.proofs.Cross.{all, pairs_at}
use Rattle.track.proofs.Paths.{true_if}
use Rattle.track.proofs.OnPath.{heading}
use Rattle.track.proofs.Held.{fault_list, through_at, vertical_is, horizontal_is, formed_of}
use Rattle.track.proofs.Seats.{sits, neighbour_cell}
use Rattle.track.proofs.Theorem.{reaches}
use Rattle.track.proofs.Follows.{follower_own}
use Rattle.track.specs.Letters as letters
use Rattle.track.specs.Link as link

-- a cell is inner
pub inner_cell : (w : Wafer) → Routed w → (i j : ℕ) → Cell w i j → inner w.rows w.columns (position i j) ≡ true
inner_cell w r i j c =
    let s = (formed_of w r).sizes in
    let e = position_read i j (omega (arith, s, c)) in
    rw (e.0, e.1) (inner_between w.rows w.columns i j c.row_low c.row_high c.column_low c.column_high)

pub placement_holds : PlacementHolds
unfolding placement
placement_holds w r i j c =
    let s = (formed_of w r).sizes in
    tabulate_at (placed_at w.rows w.columns (fault_list w)) 1024 (position i j) 0 (omega (arith, s, c)) ∙ rw (inner_cell w r i j c)

-- every letter of the table is one of a to d
abbrev lettered : ℕ → Bool
lettered l = leb 97 l && leb l 100

letters_range : T (all (λ s. all (λ t. lettered (letter (state_number s) (state_number t)))))
unfolding letter letters.entry letters.letters
letters_range = tt

in_range : (s t : State) → lettered (letter (state_number s) (state_number t)) ≡ true
in_range s t = true_if _ (pairs_at (λ s t. lettered (letter (state_number s) (state_number t))) letters_range s t)

byte_fits : (e : Bool) (l : ℕ) → lettered l ≡ true → switch_byte e (cond e l 0) ≡ true
byte_fits true l h = h
byte_fits false l h = refl

module _ (w : Wafer) (p : ℕ) where
  across_fits : switch_byte (across_exists w.rows w.columns (row p) (column p)) (across_at w.rows w.columns w.grid (fault_list w) p) ≡ true
  across_fits =
      byte_fits (across_exists w.rows w.columns (row p) (column p)) _
      (rw (vertical_is (through_at w p) (faulty w.grid p), vertical_is (through_at w (p + 1)) (faulty w.grid (p + 1)))
      (in_range (state (heading (through_at w p)) (faulty w.grid p)) (state (heading (through_at w (p + 1))) (faulty w.grid (p + 1)))))

  down_fits : switch_byte (down_exists w.rows w.columns (row p) (column p)) (down_at w.rows w.columns w.grid (fault_list w) p) ≡ true
  down_fits =
      byte_fits (down_exists w.rows w.columns (row p) (column p)) _
      (rw (horizontal_is (through_at w p) (faulty w.grid p), horizontal_is (through_at w (p + 32)) (faulty w.grid (p + 32)))
      (in_range (state (tr (heading (through_at w p))) (faulty w.grid p)) (state (tr (heading (through_at w (p + 32)))) (faulty w.grid (p + 32)))))

pub switches_pass : SwitchesPass
unfolding across_letters down_letters
switches_pass w a d =
    scan_all (buffer_scan (switch_test w) w.across)
    (λ p h.
    let l : length w.across ≡ 1024 = ap length a ∙ tabulate_length (across_at w.rows w.columns w.grid (fault_list w)) 1024 in
    let x : get_or w.across p 0 ≡ across_at w.rows w.columns w.grid (fault_list w) p =
    ap (λ (z : List ℕ). get_or z p 0) a ∙ tabulate_at (across_at w.rows w.columns w.grid (fault_list w)) 1024 p 0 (omega arith) in
    let y : get_or w.down p 0 ≡ down_at w.rows w.columns w.grid (fault_list w) p =
    ap (λ (z : List ℕ). get_or z p 0) d ∙ tabulate_at (down_at w.rows w.columns w.grid (fault_list w)) 1024 p 0 (omega arith) in
    false_accepted 16 p 0 (ap not (and_both _ _ (ap (switch_byte (across_exists w.rows w.columns (row p) (column p))) x ∙ across_fits w p)
    (ap (switch_byte (down_exists w.rows w.columns (row p) (column p))) y ∙ down_fits w p))))

-- the follower tells of a link that reaches a neighbour
pub followed_neighbour : (w : Wafer) → Routed w → (i j side k l : ℕ) (port : Compass) → Neighbour w i j side k l port
    → (g : Reaches w i j side k l port) → followed w (position i j) side ≡ Ok (landing g.link (processor_of (holder w k l) at port))
followed_neighbour w r i j side k l port h g =
    let q = holder w k l in
    let e : position (row q) (column q) ≡ q = omega arith in
    follower_own.answers w (position i j) side (landing g.link (processor_of q at port))
    (record {
      link = g.link;
      is_link = g.is_link;
      end = processor_of q at port;
      ends = g.ends;
      healthy_end = rw e (healthy_not_faulty (mark_at w.grid q) (sits w r k l (neighbour_cell w i j side k l port h)).1);
      few = g.few;
      is = refl;
    })

pub follower_arrives : FollowerArrives
follower_arrives w r i j side k l port h =
    let g = reaches w r i j side k l port h in
    let e : position (row (holder w k l)) (column (holder w k l)) ≡ holder w k l = omega arith in
    record { passed = link.switches g.link; few = g.few; answer = followed_neighbour w r i j side k l port h g ∙ rw e }
