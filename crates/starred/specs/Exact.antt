-- The exact planner, computed: what it decides and writes, and the directions that a pair of faults leaves, as the tables
-- of docs/EXACT.md have them.
-- Assumes nothing.
use Rattle.std.specs.Prelude.{ℕ, ◌≡◌, Bool, true, false, cond, List, [], ◌∷◌, ◌++◌}
use Rattle.array.specs.Place.{position}
use Rattle.array.specs.Buffer.{zeros}
use Rattle.plans.specs.Faults.{faults, directions_at}
use Rattle.trials.specs.Search.{planned}
use Rattle.exact.specs.Exact.{decided, directions_found}
use Rattle.exact.specs.Masks.{leaves, tried}
use Rattle.exact.specs.declared.Decision.TheVariants.{Repaired, Beyond}
use Rattle.starred.specs.Grids.{grid_of}

-- the directions that the exact planner writes at the faults
abbrev pub decided_at : ℕ → ℕ → List ℕ → List ℕ
decided_at n m grid = directions_at (directions_found (faults n m grid) (planned n m grid)) (faults n m grid)

-- the directions that the pair (a, b) leaves the fault at p
abbrev pub left_to : Bool → ℕ → ℕ → ℕ → List ℕ
left_to columns a b p =
    cond (leaves columns a b p 1) (1 ∷ []) []
    ++ (cond (leaves columns a b p 2) (2 ∷ []) []
    ++ (cond (leaves columns a b p 3) (3 ∷ []) [] ++ cond (leaves columns a b p 4) (4 ∷ []) []))

-- 2 x 2: two faults side by side; and (1, 1), (2, 2) with all their spares but two faulty, which no two paths pass
abbrev pub beside : List ℕ
beside = grid_of 2 2 (position 1 1 ∷ position 1 2 ∷ position 3 2 ∷ [])

abbrev pub closed_in : List ℕ
closed_in =
    grid_of 2 2
    (position 1 1 ∷ position 2 2 ∷ position 0 1 ∷ position 1 0 ∷ position 1 3 ∷ position 2 0 ∷ position 2 3 ∷ position 3 2 ∷ [])

-- a at (2, 3), b at (5, 4): a above b
abbrev pub above : ℕ → List ℕ
above p = left_to false (position 2 3) (position 5 4) p

-- a at (4, 2), b at (2, 4): a below b, in another column
abbrev pub pinwheel : ℕ → List ℕ
pinwheel p = left_to false (position 4 2) (position 2 4) p

-- w at (3, 2), e at (4, 5): w left of e
abbrev pub by_columns : ℕ → List ℕ
by_columns p = left_to true (position 3 2) (position 4 5) p

pub record ExactExamples : Type 0 where
  -- starred maps of document 01: no fault; S N; beyond repair
  pub no_fault : decided (planned 2 2 (grid_of 2 2 [])) ≡ Repaired
  pub beside_decided : decided (planned 2 2 beside) ≡ Repaired
  pub beside_written : decided_at 2 2 beside ≡ 1 ∷ 2 ∷ []
  pub closed_decided : decided (planned 2 2 closed_in) ≡ Beyond
  pub closed_written : directions_found (faults 2 2 closed_in) (planned 2 2 closed_in) ≡ zeros
  -- the first table: left of a, in its column and right of it; between the rows; left of b, in its column and right of it
  pub a_left : above (position 1 1) ≡ 2 ∷ 4 ∷ []
  pub a_column : above (position 1 3) ≡ 2 ∷ []
  pub a_itself : above (position 2 3) ≡ 2 ∷ []
  pub a_right : above (position 2 6) ≡ 2 ∷ 3 ∷ []
  pub between : above (position 3 3) ≡ 3 ∷ 4 ∷ []
  pub b_left : above (position 6 1) ≡ 1 ∷ 4 ∷ []
  pub b_itself : above (position 5 4) ≡ 1 ∷ []
  pub b_right : above (position 5 5) ≡ 1 ∷ 3 ∷ []
  -- no fault goes north, none goes south: every fault is below a, or above b
  pub none_north : left_to false 0 (position 5 4) (position 2 2) ≡ 3 ∷ 4 ∷ []
  pub none_at_all : left_to false 0 1023 (position 9 9) ≡ 3 ∷ 4 ∷ []
  -- the second table, in the rows from b's to a's
  pub wheel_left : pinwheel (position 3 1) ≡ 2 ∷ 4 ∷ []
  pub wheel_a : pinwheel (position 3 2) ≡ 2 ∷ []
  pub wheel_middle : pinwheel (position 3 3) ≡ 1 ∷ 2 ∷ []
  pub wheel_b : pinwheel (position 3 4) ≡ 1 ∷ []
  pub wheel_right : pinwheel (position 3 5) ≡ 1 ∷ 3 ∷ []
  -- by columns
  pub w_above : by_columns (position 2 1) ≡ 2 ∷ 4 ∷ []
  pub w_itself : by_columns (position 3 2) ≡ 4 ∷ []
  pub w_below : by_columns (position 4 2) ≡ 1 ∷ 4 ∷ []
  pub columns_between : by_columns (position 1 3) ≡ 1 ∷ 2 ∷ []
  pub e_above : by_columns (position 1 6) ≡ 2 ∷ 3 ∷ []
  -- which pairs are tried: not a below b in one column, and by columns not w right of e
  pub tried_above : tried false (position 2 3) (position 5 3) ≡ true
  pub tried_beside : tried false (position 4 2) (position 2 4) ≡ true
  pub not_below : tried false (position 4 2) (position 2 2) ≡ false
  pub not_right : tried true (position 3 5) (position 4 2) ≡ false
