-- Document 01, "Paths and plans": choices and plans, said of the inner faults and of a direction for each, in fault order.
-- Assumes nothing.
use Rattle.std.specs.Prelude.{ℕ, ◌+◌, ◌*◌, ◌≤◌, ◌<◌, ◌≡◌, true, false, ◌⊎◌, List, [], ◌∷◌, length, get_or}
use Rattle.paths.specs.Path.{is_open, meet, near_miss}
use Rattle.plans.specs.Faults.{faults}

-- the position of fault k. Below, xs has a direction for each inner fault.
abbrev pub start_of : ℕ → ℕ → List ℕ → ℕ → ℕ
start_of n m grid k = get_or (faults n m grid) k 0

-- one direction, so one straight path, for each of the faults at ps
pub record Chosen (ps xs : List ℕ) : Type 0 where
  pub one_each : length xs ≡ length ps
  pub straight : (k : ℕ) → k < length xs → (1 ≤ get_or xs k 0) × (get_or xs k 0 ≤ 4)

-- a choice: for each inner fault
abbrev pub Choice : ℕ → ℕ → List ℕ → List ℕ → Type 0
Choice n m grid xs = Chosen (faults n m grid) xs

-- a plan: one open path for every inner fault, with no meeting and no near-miss
pub record Plan (n m : ℕ) (grid xs : List ℕ) : Type 0 where
  pub one_path : Choice n m grid xs
  pub open_path : (k : ℕ) → k < length xs → is_open n m grid (start_of n m grid k) (get_or xs k 0) ≡ true
  pub no_meeting : (i j : ℕ) → i < j → j < length xs
      → meet n m (start_of n m grid i) (get_or xs i 0) (start_of n m grid j) (get_or xs j 0) ≡ false
  pub no_near_miss : (i j : ℕ) → i < j → j < length xs
      → near_miss (start_of n m grid i) (get_or xs i 0) (start_of n m grid j) (get_or xs j 0) ≡ false

-- what rules a choice out (demand 3): a path that is not open, or two that meet or nearly miss
pub data Blocked (n m : ℕ) (grid xs : List ℕ) : Type 0 where
  not_open : (k : ℕ) → k < length xs → is_open n m grid (start_of n m grid k) (get_or xs k 0) ≡ false → Blocked n m grid xs
  meeting : (i j : ℕ) → i < j → j < length xs
      → meet n m (start_of n m grid i) (get_or xs i 0) (start_of n m grid j) (get_or xs j 0) ≡ true → Blocked n m grid xs
  near : (i j : ℕ) → i < j → j < length xs
      → near_miss (start_of n m grid i) (get_or xs i 0) (start_of n m grid j) (get_or xs j 0) ≡ true → Blocked n m grid xs

-- all choices are ruled out
abbrev pub EveryChoiceBlocked : ℕ → ℕ → List ℕ → Type 0
EveryChoiceBlocked n m grid = (xs : List ℕ) → Choice n m grid xs → Blocked n m grid xs

-- xs is ys or comes before it, by directions in fault order
abbrev pub NotAfter : List ℕ → List ℕ → Type 0
NotAfter [] ys = Unit {0}
NotAfter (x ∷ xs) [] = ⊥
NotAfter (x ∷ xs) (y ∷ ys) = (x < y) ⊎ ((x ≡ y) × NotAfter xs ys)

-- a plan before which there is none
pub record FirstPlan (n m : ℕ) (grid xs : List ℕ) : Type 0 where
  pub is_plan : Plan n m grid xs
  pub none_before : (ys : List ℕ) → Plan n m grid ys → NotAfter xs ys

-- a plan has no more paths than the array has spares: each ends on a spare of its own
abbrev pub SpareEach : Type 0
SpareEach = (n m : ℕ) (grid xs : List ℕ) → n ≤ 30 → m ≤ 30 → Plan n m grid xs → length xs ≤ 2 * (n + m)
