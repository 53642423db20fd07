-- What the inner parts of the planner promise each other: the starts of the faults, and working buffers with what is known of each.
-- Assumes nothing.
use Rattle.std.specs.Prelude.{ℕ, zero, suc, ◌+◌, ◌-◌, ◌*◌, ◌≤◌, ◌<◌, ◌≡◌, Bool, true, cond, ◌&&◌, List, [], ◌∷◌, length, get_or}
use Rattle.array.specs.Map.{inner_fault}
use Rattle.array.specs.Buffer.{Ascending, buffer, zeros}
use Rattle.paths.specs.Path.{is_open, is_clear, clear}
use Rattle.paths.specs.Table.{class, entry}
use Rattle.paths.specs.Inner.{PathAt}
use Rattle.plans.specs.Faults.{fault, paired}
use Rattle.plans.specs.declared.Fault.{Fault}
use Rattle.trials.specs.Trials.{Search, found, exhausted, keeps}
use Rattle.trials.specs.Search.{direction_of}
use Rattle.trials.specs.declared.Outcome.{Outcome}
use Rattle.trials.specs.declared.Outcome.TheVariants.{Repaired, Beyond, Spent}

-- the first k faults with their directions, latest first
unfoldable pub kept_in : List ℕ → List ℕ → ℕ → List Fault
kept_in starts chosen zero = []
kept_in starts chosen (suc k) = fault (get_or starts k 0) (get_or chosen k 0) ∷ kept_in starts chosen k

-- the test of a trial on a grid
abbrev pub keeps_on : ℕ → ℕ → List ℕ → List Fault → ℕ → ℕ → Bool
keeps_on n m grid = keeps (is_open n m grid) (clear n m)

-- the first k faults have each one of the four directions, whose path is open
abbrev pub KeptFront : (ℕ → ℕ → Bool) → List ℕ → List ℕ → ℕ → Type 0
KeptFront opens starts chosen k =
    (i : ℕ) → i < k → (1 ≤ get_or chosen i 0) × (get_or chosen i 0 ≤ 4) × (opens (get_or starts i 0) (get_or chosen i 0) ≡ true)

-- what the search works over: an array of at most 30 by 30, its grid, and ascending inner faults
pub record Searchable (n m : ℕ) (grid starts : List ℕ) : Type 0 where
  pub rows : n ≤ 30
  pub columns : m ≤ 30
  pub marks : length grid ≡ 1024
  pub each : (i : ℕ) → i < length starts → inner_fault n m grid (get_or starts i 0) ≡ true
  pub ascend : Ascending starts

-- the rows, columns and directions of the first k faults, and direction d of fault k, are such as the clash table takes
pub record KeptAt (rows columns chosen : List ℕ) (k d : ℕ) : Type 0 where
  pub rows_long : k < length rows
  pub columns_long : k < length columns
  pub room : k ≤ length chosen
  pub each : (i : ℕ) → i < k → PathAt (get_or rows i 0) (get_or columns i 0) (get_or chosen i 0)
  pub last : PathAt (get_or rows k 0) (get_or columns k 0) d

-- the entries of fault k's path in direction d with the paths kept for the first j faults are clear
unfoldable pub entries_clear : List ℕ → List ℕ → List ℕ → ℕ → ℕ → ℕ → Bool
entries_clear rows columns chosen k d zero = true
entries_clear rows columns chosen k d (suc j) =
    is_clear (entry (get_or chosen j 0) d (class (get_or rows j 0) (get_or rows k 0)) (class (get_or columns j 0) (get_or columns k 0)))
    && entries_clear rows columns chosen k d j

-- what is noted of a path: 0 where it has not been asked for, else 1 where it is closed and 2 where it is open
abbrev pub Notes : ℕ → Bool → Type 0
Notes note opens = (note ≡ 0 → ⊥) → note ≡ cond opens 2 1

-- a note for each direction of each fault
pub record Noted (n m : ℕ) (grid starts notes : List ℕ) : Type 0 where
  pub room : 4 * length starts ≤ length notes
  pub right : (k d : ℕ) → k < length starts → 1 ≤ d → d ≤ 4
      → Notes (get_or notes (4 * k + d - 1) 0) (is_open n m grid (get_or starts k 0) d)

-- these directions are the plan found, where one is found within the limit
abbrev pub Holds : ℕ → Search → List ℕ → Type 0
Holds limit (found k xs) front = k ≤ limit → front ≡ xs
Holds limit (exhausted k) front = Unit {0}

-- the direction buffer by the outcome, where these are the directions chosen
unfoldable pub finished : List ℕ → List ℕ → Outcome → List ℕ
finished starts chosen (Repaired k) = buffer (direction_of (paired starts chosen))
finished starts chosen (Beyond k) = zeros
finished starts chosen (Spent k) = zeros
