-- What the inner parts of the plan check ask of their arguments.
-- Assumes nothing.
use Rattle.std.specs.Prelude.{ℕ, ◌≤◌, ◌<◌, ◌≡◌, true, List, length, get_or, take, drop, Ok}
use Rattle.array.specs.Buffer.{Ascending}
use Rattle.array.specs.Tests.{Verdict}
use Rattle.array.specs.Place.{row, column}
use Rattle.array.specs.Map.{faulty}
use Rattle.paths.specs.Path.{Start, is_open}
use Rattle.paths.specs.Inner.{PathAt}
use Rattle.plans.specs.Faults.{faults, fault_at, paired}
use Rattle.plans.specs.Check.{directions_test, clash_test, pairs_test}

-- each of these ascending positions is a start with the direction beside it
pub record Starts (n m : ℕ) (starts ds : List ℕ) : Type 0 where
  pub same : length ds ≡ length starts
  pub each : (k : ℕ) → k < length starts → Start n m (get_or starts k 0) (get_or ds k 0)
  pub ascend : Ascending starts

-- each of these positions with the direction beside it is a path as the clash table takes it
pub record PathsAt (starts ds : List ℕ) : Type 0 where
  pub same : length ds ≡ length starts
  pub each : (k : ℕ) → k < length starts → PathAt (row (get_or starts k 0)) (column (get_or starts k 0)) (get_or ds k 0)

-- the row and the column of each start stand beside it
pub record Beside (starts rows columns : List ℕ) : Type 0 where
  pub rows_long : length starts ≤ length rows
  pub columns_long : length starts ≤ length columns
  pub row_at : (i : ℕ) → i < length starts → get_or rows i 0 ≡ row (get_or starts i 0)
  pub column_at : (i : ℕ) → i < length starts → get_or columns i 0 ≡ column (get_or starts i 0)

-- these starts are faulty, and their paths open
pub record OpenFaults (n m : ℕ) (grid starts ds : List ℕ) : Type 0 where
  pub each : (k : ℕ) → k < length starts → faulty grid (get_or starts k 0) ≡ true
  pub opens : (k : ℕ) → k < length starts → is_open n m grid (get_or starts k 0) (get_or ds k 0) ≡ true

-- tests 6 and 7 of the i-th path and the j-th, and of all pairs, on every array in which these are starts of open paths
abbrev pub PairTested : List ℕ → List ℕ → ℕ → ℕ → Verdict → Type 0
PairTested starts ds i j r =
    (n m : ℕ) (grid : List ℕ) → Starts n m starts ds → OpenFaults n m grid starts ds
    → r ≡ clash_test n m (fault_at starts ds i) (fault_at starts ds j)

abbrev pub PairsTested : List ℕ → List ℕ → Verdict → Type 0
PairsTested starts ds r =
    (n m : ℕ) (grid : List ℕ) → Starts n m starts ds → OpenFaults n m grid starts ds → r ≡ pairs_test n m (paired starts ds)

-- the first `count` elements of a buffer are the inner faults in row order, and the others are as they were
pub record Listed (n m : ℕ) (grid old new : List ℕ) (count : ℕ) : Type 0 where
  pub front : take count new ≡ faults n m grid
  pub rest : drop count new ≡ drop count old
  pub size : count ≡ length (take count new)
  pub fits : count ≤ length new
  pub short : count ≤ 1024

-- sizes and buffers as after tests 1 and 2
pub record Sound (n m : ℕ) (grid directions : List ℕ) : Type 0 where
  pub rows : n ≤ 30
  pub columns : m ≤ 30
  pub grid_long : length grid ≡ 1024
  pub directions_long : length directions ≡ 1024

-- and as after test 4
pub record Directed (n m : ℕ) (grid directions : List ℕ) : Type 0 where
  pub sound : Sound n m grid directions
  pub right : directions_test n m grid directions ≡ Ok tt
