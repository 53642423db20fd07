-- Document 01, "The array": positions, sizes, processors and corners. n and m are document 01's N and M.
-- Assumes nothing.
use Rattle.std.specs.Prelude.{ℕ, ◌+◌, ◌*◌, ◌/◌, ◌%◌, Bool, not, ◌&&◌, ◌||◌, leb, eqb}

-- A position is one number, from which row and column are read back. Its rows count downward.
abbrev pub position : ℕ → ℕ → ℕ
position x y = 32 * x + y

abbrev pub row : ℕ → ℕ
row p = p / 32

abbrev pub column : ℕ → ℕ
column p = p % 32

-- N and M are each from 1 to 30
abbrev pub size : ℕ → Bool
size k = leb 1 k && leb k 30

-- By row and column, which may be any numbers (a file's reach 2,097,151):
-- the inner processors, one for each logical cell
abbrev pub inner_at : ℕ → ℕ → ℕ → ℕ → Bool
inner_at n m x y = (leb 1 x && leb x n) && (leb 1 y && leb y m)

abbrev pub corner_at : ℕ → ℕ → ℕ → ℕ → Bool
corner_at n m x y = (eqb x 0 || eqb x (n + 1)) && (eqb y 0 || eqb y (m + 1))

-- processors stand in rows 0 to N+1 and columns 0 to M+1, but not at the four corners; those that aren't inner are the spares
abbrev pub processor_at : ℕ → ℕ → ℕ → ℕ → Bool
processor_at n m x y = (leb x (n + 1) && leb y (m + 1)) && not (corner_at n m x y)

-- By position:
abbrev pub inner : ℕ → ℕ → ℕ → Bool
inner n m p = inner_at n m (row p) (column p)

abbrev pub processor : ℕ → ℕ → ℕ → Bool
processor n m p = processor_at n m (row p) (column p)
