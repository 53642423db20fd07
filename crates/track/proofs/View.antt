-- A wafer seen by row and column: its size, faults, directions, and the path through each processor; and what a plan is in that view.
-- It may be seen with rows and columns exchanged, which is how south links follow from east links. Definitions for the proofs.
-- Assumes nothing.
use Prim.Native.Nat.{ℕ, suc, ◌<◌}
use mathlib.Core.Path.{◌≡◌}
use mathlib.Core.Bool.{Bool, true, false, ◌&&◌}
use lib.Dec.{T, leb, eqb}
use Rattle.array.specs.Place.{inner_at}
use Rattle.paths.specs.Path.{difference}

pub data Dir : Type 0 where
  still south north east west : Dir

-- the direction seen with rows and columns exchanged
abbrev pub tr : Dir → Dir
tr still = still
tr south = east
tr north = west
tr east = south
tr west = north

abbrev pub moving : Dir → Bool
moving still = false
moving south = true
moving north = true
moving east = true
moving west = true

-- N, M, the faults, the directions at the faults, and the direction of the path through each processor
pub record View : Type 0 where
  pub rows : ℕ
  pub cols : ℕ
  pub faulty : ℕ → ℕ → Bool
  pub dir : ℕ → ℕ → Dir
  pub path : ℕ → ℕ → Dir

-- rows and columns exchanged
abbrev pub transposed : View → View
transposed w =
    record {
      rows = w.cols;
      cols = w.rows;
      faulty = λ x y. w.faulty y x;
      dir = λ x y. tr (w.dir y x);
      path = λ x y. tr (w.path y x);
    }

abbrev pub inner : View → ℕ → ℕ → Bool
inner w x y = inner_at w.rows w.cols x y

-- (x, y) is on the path that starts at (fx, fy) and runs straight in direction d to the spare on that side, both ends included
abbrev pub on : View → Dir → ℕ → ℕ → ℕ → ℕ → Bool
on w still fx fy x y = false
on w south fx fy x y = eqb y fy && (leb fx x && leb x (suc w.rows))
on w north fx fy x y = eqb y fy && leb x fx
on w east fx fy x y = eqb x fx && (leb fy y && leb y (suc w.cols))
on w west fx fy x y = eqb x fx && leb y fy

-- (x, y) is on the path of the fault at (fx, fy)
abbrev pub covers : View → ℕ → ℕ → ℕ → ℕ → Bool
covers w fx fy x y = on w (w.dir fx fy) fx fy x y

-- a fault whose path, of direction d, runs through (x, y)
pub record Source (w : View) (d : Dir) (x y : ℕ) : Type 0 where
  pub row : ℕ
  pub col : ℕ
  pub is : w.dir row col ≡ d
  pub on_it : T (on w d row col x y)

-- Every inner fault has one open straight path, no two meet, none nearly miss. That no two meet is said by `path_of`: all paths through a
-- processor have the direction of the one path there.
pub record Planned (w : View) : Type 0 where
  pub only : (x y : ℕ) → (w.dir x y ≡ still → ⊥) → T (inner w x y) × T (w.faulty x y)
  pub each : (x y : ℕ) → T (inner w x y) → T (w.faulty x y) → w.dir x y ≡ still → ⊥
  pub open_path : (fx fy x y : ℕ) → T (covers w fx fy x y) → T (w.faulty x y) → (x ≡ fx) × (y ≡ fy)
  pub source : (d : Dir) (x y : ℕ) → T (moving d) → w.path x y ≡ d → Source w d x y
  pub path_of : (d : Dir) (x y : ℕ) → Source w d x y → w.path x y ≡ d
  pub no_near_miss : (fx fy gx gy : ℕ) → w.dir fx fy ≡ south → w.dir gx gy ≡ north → difference fy gy ≡ 1 → fx < gx → ⊥
  pub no_near_miss_across : (fx fy gx gy : ℕ) → w.dir fx fy ≡ east → w.dir gx gy ≡ west → difference fx gx ≡ 1 → fy < gy → ⊥
