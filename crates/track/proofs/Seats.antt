-- Where the cells of a routed wafer sit: each on a healthy processor, no two on the same one.
-- Assumes nothing.
use mathlib.Core.Path.{◌≡◌, refl, sym, ap, subst, ◌∙◌}
use mathlib.Core.Bool.{true, false}
use mathlib.Core.Logic.{inl, inr}
use Prim.Native.Nat.{ℕ, zero, suc, ◌≤◌}
use native.Mathlib.Omega.{arith}
use borrow.Author.Tests.{le-leb}
use lib.Dec.{leb}
use Rattle.array.specs.Place.{position, row, column, processor_at, processor}
use Rattle.array.specs.Map.{mark_at, faulty, healthy}
use Rattle.array.proofs.Places.{stands_between, inner_between, processor_within, position_read}
use Rattle.array.proofs.Marks.{healthy_else}
use Rattle.paths.specs.Path.{ahead}
use Rattle.paths.proofs.Directions.{by_number}
use Rattle.track.specs.Ports.{Wafer}
use Rattle.track.specs.declared.ports.Compass.{Compass}
use Rattle.track.specs.declared.ports.Node.TheVariants.{Processor}
use Rattle.track.specs.Follower.{processor_of}
use Rattle.track.specs.Theorems.{Routed, Cell, holder, Neighbour, right, lower, CellsSit, CellsAlone}
use Rattle.track.proofs.View.{Dir, still, south, north, east, west, tr, View, transposed, Planned}
use Rattle.track.proofs.Walks.{Place, moved, placed}
use Rattle.track.proofs.Paths.{false_if, south_down, north_up, covered}
use Rattle.track.proofs.FromPlan.{transposed_plan, untr}
use Rattle.track.proofs.OnPath.{heading}
use Rattle.track.proofs.Held.{view_of, through_at, formed_of, planned_of}

-- where a cell moves to, by its path's direction
moved_ahead : (d k l : ℕ) → ahead (position (suc k) (suc l)) d 1
    ≡ position (moved (heading d) (suc k) (suc l)).row (moved (heading d) (suc k) (suc l)).col
moved_ahead d k l =
    by_number
    (λ z. ahead (position (suc k) (suc l)) z 1 ≡ position (moved (heading z) (suc k) (suc l)).row (moved (heading z) (suc k) (suc l)).col) d
    (omega arith) (omega arith) (omega arith) (omega arith) (λ a b c e. rw (a, b, c, e))

moved_stands : (n m k l : ℕ) → suc k ≤ n → suc l ≤ m → (d : Dir)
    → processor_at n m (moved d (suc k) (suc l)).row (moved d (suc k) (suc l)).col ≡ true
moved_stands n m k l a b still = stands_between n m (suc k) (suc l) (omega arith) (omega arith) (inl (omega arith, a))
moved_stands n m k l a b south = stands_between n m (suc (suc k)) (suc l) (omega arith) (omega arith) (inr (omega arith, b))
moved_stands n m k l a b north = stands_between n m k (suc l) (omega arith) (omega arith) (inr (omega arith, b))
moved_stands n m k l a b east = stands_between n m (suc k) (suc (suc l)) (omega arith) (omega arith) (inl (omega arith, a))
moved_stands n m k l a b west = stands_between n m (suc k) l (omega arith) (omega arith) (inl (omega arith, a))

moved_apart : (d : Dir) (k l k' l' : ℕ) → (moved d (suc k) (suc l)).row ≡ (moved d (suc k') (suc l')).row
    → (moved d (suc k) (suc l)).col ≡ (moved d (suc k') (suc l')).col → (suc k ≡ suc k') × (suc l ≡ suc l')
moved_apart still k l k' l' e f = (e, f)
moved_apart south k l k' l' e f = (omega arith, f)
moved_apart north k l k' l' e f = (omega arith, f)
moved_apart east k l k' l' e f = (e, omega arith)
moved_apart west k l k' l' e f = (e, omega arith)

-- the processor that a cell moves to is healthy, and on the same path as the cell's own
record Rests (v : View) (c : Place) (d : Dir) : Type 0 where
  pub path_is : v.path c.row c.col ≡ d
  pub healthy_is : v.faulty c.row c.col ≡ false

rests : (v : View) → Planned v → (k l : ℕ) → suc k ≤ v.rows → suc l ≤ v.cols → (d : Dir) → v.path (suc k) (suc l) ≡ d
    → Rests v (moved d (suc k) (suc l)) d
rests v p k l a b still e =
    record {
      path_is = e;
      healthy_is = false_if _ (λ t. covered v p (suc k) (suc l) (rw (inner_between v.rows v.cols (suc k) (suc l) (omega arith) a (omega arith) b) tt) t e);
    }
rests v p k l a b south e = let q = south_down v p (suc k) (suc l) a e in record { path_is = q.0; healthy_is = q.1 }
rests v p k l a b north e = let q = north_up v p k (suc l) e in record { path_is = q.0; healthy_is = q.1 }
rests v p k l a b east e =
    let q = south_down (transposed v) (transposed_plan v p) (suc l) (suc k) b (ap tr e) in
    record { path_is = untr _ south q.0; healthy_is = q.1 }
rests v p k l a b west e =
    let q = north_up (transposed v) (transposed_plan v p) l (suc k) (ap tr e) in
    record { path_is = untr _ north q.0; healthy_is = q.1 }

module _ (w : Wafer) (r : Routed w) (k l : ℕ) (hi : suc k ≤ w.rows) (hj : suc l ≤ w.columns) where
  -- where [k + 1, l + 1] sits
  abbrev place : Place
  place = placed (view_of w) (suc k) (suc l)

  stands_there : processor_at w.rows w.columns place.row place.col ≡ true
  stands_there = moved_stands w.rows w.columns k l hi hj ((view_of w).path (suc k) (suc l))

  low_place : (place.row ≤ 31) × (place.col ≤ 31)
  low_place =
      let b = processor_within w.rows w.columns place.row place.col stands_there in
      (omega (arith, b, (formed_of w r).sizes), omega (arith, b, (formed_of w r).sizes))

  pub holder_is : holder w (suc k) (suc l) ≡ position place.row place.col
  holder_is =
      let s = (formed_of w r).sizes in
      let h : leb (suc l) 31 ≡ true = le-leb (suc l) 31 (omega arith) in
      rw h (moved_ahead (through_at w (position (suc k) (suc l))) k l)

  pub row_is : row (holder w (suc k) (suc l)) ≡ place.row
  row_is = ap row holder_is ∙ (position_read place.row place.col low_place.1).0

  pub column_is : column (holder w (suc k) (suc l)) ≡ place.col
  column_is = ap column holder_is ∙ (position_read place.row place.col low_place.1).1

  pub processor_is : processor_of (holder w (suc k) (suc l)) ≡ Processor place.row place.col
  processor_is = rw (row_is, column_is)

  rests_there : Rests (view_of w) place ((view_of w).path (suc k) (suc l))
  rests_there = rests (view_of w) (planned_of w r) k l hi hj ((view_of w).path (suc k) (suc l)) refl

  sits_there : (processor w.rows w.columns (holder w (suc k) (suc l)) ≡ true) × (healthy w.grid (holder w (suc k) (suc l)) ≡ true)
  sits_there =
      let a : processor w.rows w.columns (holder w (suc k) (suc l)) ≡ true = rw (row_is, column_is) stands_there in
      let f : faulty w.grid (holder w (suc k) (suc l)) ≡ false = rw holder_is rests_there.healthy_is in
      let b = (formed_of w r).marks (holder w (suc k) (suc l)) (omega (arith, holder_is, low_place)) in
      let q = holder w (suc k) (suc l) in
      (a, healthy_else w.rows w.columns (row q) (column q) (mark_at w.grid q) a b f)

pub sits : CellsSit
sits w r zero j c = absurd (omega (arith, c.row_low))
sits w r (suc k) zero c = absurd (omega (arith, c.column_low))
sits w r (suc k) (suc l) c = sits_there w r k l c.row_high c.column_high

alone_there : (w : Wafer) (r : Routed w) (k l k' l' : ℕ) → suc k ≤ w.rows → suc l ≤ w.columns → suc k' ≤ w.rows → suc l' ≤ w.columns
    → holder w (suc k) (suc l) ≡ holder w (suc k') (suc l') → (suc k ≡ suc k') × (suc l ≡ suc l')
alone_there w r k l k' l' a b a' b' e =
    let v = view_of w in
    let x : (placed v (suc k) (suc l)).row ≡ (placed v (suc k') (suc l')).row = sym (row_is w r k l a b) ∙ ap row e ∙ row_is w r k' l' a' b' in
    let y : (placed v (suc k) (suc l)).col ≡ (placed v (suc k') (suc l')).col = sym (column_is w r k l a b) ∙ ap column e ∙ column_is w r k' l' a' b' in
    let d : v.path (suc k) (suc l) ≡ v.path (suc k') (suc l') =
    sym (rests_there w r k l a b).path_is
    ∙ ap (λ (z : ℕ). v.path z (placed v (suc k) (suc l)).col) x
    ∙ ap (λ (z : ℕ). v.path (placed v (suc k') (suc l')).row z) y
    ∙ (rests_there w r k' l' a' b').path_is in
    moved_apart (v.path (suc k) (suc l)) k l k' l'
    (subst (λ (z : Dir). (placed v (suc k) (suc l)).row ≡ (moved z (suc k') (suc l')).row) (sym d) x)
    (subst (λ (z : Dir). (placed v (suc k) (suc l)).col ≡ (moved z (suc k') (suc l')).col) (sym d) y)

pub alone : CellsAlone
alone w r zero j k l c c' e = absurd (omega (arith, c.row_low))
alone w r (suc i) zero k l c c' e = absurd (omega (arith, c.column_low))
alone w r (suc i) (suc j) zero l c c' e = absurd (omega (arith, c'.row_low))
alone w r (suc i) (suc j) (suc k) zero c c' e = absurd (omega (arith, c'.column_low))
alone w r (suc i) (suc j) (suc k) (suc l) c c' e =
    alone_there w r i j k l c.row_high c.column_high c'.row_high c'.column_high e

-- a neighbour is a cell
pub neighbour_cell : (w : Wafer) (i j side k l : ℕ) (port : Compass) → Neighbour w i j side k l port → Cell w k l
neighbour_cell w i j side k l port (right c h) =
    record { row_low = c.row_low; row_high = c.row_high; column_low = omega arith; column_high = omega arith }
neighbour_cell w i j side k l port (lower c h) =
    record { row_low = omega arith; row_high = omega arith; column_low = c.column_low; column_high = c.column_high }
