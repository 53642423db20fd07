-- What the inner parts that read the clash table ask and answer.
-- Assumes nothing.
use Rattle.std.specs.Prelude.{ℕ, ◌≤◌, cond, eqb}
use Rattle.paths.specs.Path.{Clash, Clear, Meet, NearMiss}

-- a byte of the table as the entry that it stands for
abbrev pub clash_of : ℕ → Clash
clash_of byte = cond (eqb byte 0) Clear (cond (eqb byte 1) Meet NearMiss)

-- a path as the code takes it: the row and the column of its start, and its direction
pub record PathAt (x y d : ℕ) : Type 0 where
  pub row_high : x ≤ 31
  pub column_high : y ≤ 31
  pub low : 1 ≤ d
  pub high : d ≤ 4
