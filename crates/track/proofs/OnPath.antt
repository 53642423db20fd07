-- A position is a member of a path's list exactly when its row and column lie on the path in the view.
-- Assumes nothing.
use mathlib.Core.Path.{◌≡◌}
use mathlib.Core.Bool.{true}
use Prim.Native.Nat.{ℕ, suc, ◌≤◌}
use native.Mathlib.Omega.{arith}
use borrow.Author.Tests.{eq-eqb, le-leb}
use lib.Dec.{T}
use Rattle.array.specs.Place.{position, row, column}
use Rattle.array.proofs.Places.{Inner}
use Rattle.paths.specs.Path.{by_direction, path, member}
use Rattle.paths.proofs.Ways.{Way}
use Rattle.paths.proofs.Meeting.{Box, on_path_box, box_on_path}
use Rattle.track.proofs.View.{Dir, still, south, north, east, west, View, transposed, on}
use Rattle.track.proofs.Paths.{on_south, on_north}
use Rattle.paths.proofs.Ways as way

-- a direction by its number
abbrev pub heading : ℕ → Dir
heading d = by_direction d south north east west still

module _ (v : View) (hn : v.rows ≤ 30) (hm : v.cols ≤ 30) (p : ℕ) (i : Inner v.rows v.cols p) where
  abbrev On : ℕ → ℕ → ℕ → Type 0
  On d x y = T (on v (heading d) (row p) (column p) x y)

  abbrev Member : ℕ → ℕ → ℕ → Type 0
  Member d x y = member (position x y) (path v.rows v.cols p d) ≡ true

  -- the row and the column are among those of the path
  abbrev Boxed : ℕ → ℕ → ℕ → Type 0
  Boxed d x y = Box v.rows v.cols p d (position x y)

  box_on : (d x y : ℕ) → Way d → y ≤ 31 → Boxed d x y → On d x y
  box_on d x y way.south h b =
      rw (eq-eqb y (column p) (omega arith), le-leb (row p) x (omega arith), le-leb x (suc v.rows) (omega arith)) tt
  box_on d x y way.north h b = rw (eq-eqb y (column p) (omega arith), le-leb x (row p) (omega arith)) tt
  box_on d x y way.east h b =
      rw (eq-eqb x (row p) (omega arith), le-leb (column p) y (omega arith), le-leb y (suc v.cols) (omega arith)) tt
  box_on d x y way.west h b = rw (eq-eqb x (row p) (omega arith), le-leb y (column p) (omega arith)) tt

  on_box : (d x y : ℕ) → Way d → On d x y → Boxed d x y
  on_box d x y way.south t =
      let o = on_south v (row p) (column p) x y t in
      record { from_top = omega (arith, o); to_bottom = omega (arith, o); from_west = omega (arith, o); to_east = omega (arith, o) }
  on_box d x y way.north t =
      let o = on_north v (row p) (column p) x y t in
      record { from_top = omega (arith, o); to_bottom = omega (arith, o); from_west = omega (arith, o); to_east = omega (arith, o) }
  on_box d x y way.east t =
      let o = on_south (transposed v) (column p) (row p) y x t in
      record { from_top = omega (arith, o); to_bottom = omega (arith, o); from_west = omega (arith, o); to_east = omega (arith, o) }
  on_box d x y way.west t =
      let o = on_north (transposed v) (column p) (row p) y x t in
      record { from_top = omega (arith, o); to_bottom = omega (arith, o); from_west = omega (arith, o); to_east = omega (arith, o) }

  pub member_on : (d x y : ℕ) → Way d → y ≤ 31 → Member d x y → On d x y
  member_on d x y w h t = box_on d x y w h (on_path_box v.rows v.cols hn hm p d (position x y) w i t)

  pub on_member : (d x y : ℕ) → Way d → On d x y → Member d x y
  on_member d x y w t = box_on_path v.rows v.cols hn hm p d (position x y) w i (on_box d x y w t)
