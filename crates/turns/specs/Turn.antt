-- The eight turnings and mirrorings of an array: what each does to sizes, rows and columns, positions and directions.
-- Assumes nothing.
use Rattle.std.specs.Prelude.{ℕ, ◌+◌, ◌-◌, Bool, false, cond, ◌&&◌, leb}
use Rattle.array.specs.Place.{position, row, column}
use Rattle.paths.specs.Path.{by_direction}

-- one of the eight, by three choices: rows and columns exchanged or not, then the rows counted from the other end or not,
-- then the columns
pub record Turn : Type 0 where
  pub exchange : Bool
  pub upend : Bool
  pub mirror : Bool

abbrev pub turn : Bool → Bool → Bool → Turn
turn a b c = record { exchange = a; upend = b; mirror = c }

-- the turning that changes nothing
abbrev pub same : Turn
same = turn false false false

-- N and M afterwards
abbrev pub rows_of : Turn → ℕ → ℕ → ℕ
rows_of t n m = cond t.exchange m n

abbrev pub columns_of : Turn → ℕ → ℕ → ℕ
columns_of t n m = cond t.exchange n m

-- x, of 0 to k + 1, counted from the other end or not
abbrev pub counted : Bool → ℕ → ℕ → ℕ
counted b k x = cond b (k + 1 - x) x

-- the row and the column where (x, y) comes to stand
abbrev pub row_of : Turn → ℕ → ℕ → ℕ → ℕ → ℕ
row_of t n m x y = counted t.upend (rows_of t n m) (cond t.exchange y x)

abbrev pub column_of : Turn → ℕ → ℕ → ℕ → ℕ → ℕ
column_of t n m x y = counted t.mirror (columns_of t n m) (cond t.exchange x y)

-- the position where p comes to stand
abbrev pub place_of : Turn → ℕ → ℕ → ℕ → ℕ
place_of t n m p = position (row_of t n m (row p) (column p)) (column_of t n m (row p) (column p))

-- the direction that d becomes; what is no direction stays
abbrev pub exchanged : Bool → ℕ → ℕ
exchanged b d = cond b (by_direction d 3 4 1 2 d) d

abbrev pub upended : Bool → ℕ → ℕ
upended b d = cond b (by_direction d 2 1 3 4 d) d

abbrev pub mirrored : Bool → ℕ → ℕ
mirrored b d = cond b (by_direction d 1 2 4 3 d) d

abbrev pub way_of : Turn → ℕ → ℕ
way_of t d = mirrored t.mirror (upended t.upend (exchanged t.exchange d))

-- the rows 0 to N + 1 and the columns 0 to M + 1: the processors and the four corners
abbrev pub within : ℕ → ℕ → ℕ → Bool
within n m p = leb (row p) (n + 1) && leb (column p) (m + 1)
