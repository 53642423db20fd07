-- What a turned array keeps: paths, whether two meet or nearly miss, and where a path starts at the rim. The statement.
-- Assumes nothing.
use Rattle.std.specs.Prelude.{ℕ, ◌≡◌, true}
use Rattle.paths.specs.Path.{member, path, meet, near_miss, from_rim, Start}
use Rattle.turns.specs.Turn.{Turn, rows_of, columns_of, place_of, way_of, within}

module _ (t : Turn) (n m : ℕ) where
  abbrev N' : ℕ
  N' = rows_of t n m

  abbrev M' : ℕ
  M' = columns_of t n m

  -- where p comes to stand
  abbrev at : ℕ → ℕ
  at p = place_of t n m p

  pub record TurnedPaths : Type 0 where
    pub start : (p d : ℕ) → Start n m p d → Start N' M' (at p) (way_of t d)
    pub on_path : (p d q : ℕ) → Start n m p d → within n m q ≡ true
        → member (at q) (path N' M' (at p) (way_of t d)) ≡ member q (path n m p d)
    pub meeting : (p d q e : ℕ) → Start n m p d → Start n m q e
        → meet N' M' (at p) (way_of t d) (at q) (way_of t e) ≡ meet n m p d q e
    pub nearness : (p d q e : ℕ) → Start n m p d → Start n m q e
        → near_miss (at p) (way_of t d) (at q) (way_of t e) ≡ near_miss p d q e
    pub rim : (p d : ℕ) → Start n m p d → from_rim N' M' (at p) (way_of t d) ≡ from_rim n m p d

-- for each of the eight
abbrev pub PathsTurn : Type 0
PathsTurn = (t : Turn) (n m : ℕ) → TurnedPaths t n m
