-- Document 01, "Paths and plans": a plan said by positions, with a direction for each position, of which those at the inner faults count.
-- Assumes nothing.
use Rattle.std.specs.Prelude.{ℕ, ◌≤◌, ◌<◌, ◌≡◌, Bool, true, false, ◌↔◌, List, length, get_or, Ok}
use Rattle.array.specs.Buffer.{Lists}
use Rattle.array.specs.Map.{well_formed, inner_fault}
use Rattle.paths.specs.Path.{is_open, clear}
use Rattle.plans.specs.Faults.{faults, directions_at}
use Rattle.plans.specs.Plan.{Chosen, Plan}
use Rattle.plans.specs.Check.{HoldsPlan}

-- For any tests of a fault, of a path and of two paths: every fault has one of the four directions and a path that passes, and the paths
-- of any two faults pass together, whichever is named first.
pub record PlanAt (fault : ℕ → Bool) (opens : ℕ → ℕ → Bool) (clears : ℕ → ℕ → ℕ → ℕ → Bool) (dir : ℕ → ℕ) : Type 0 where
  pub straight : (p : ℕ) → fault p ≡ true → (1 ≤ dir p) × (dir p ≤ 4)
  pub open_path : (p : ℕ) → fault p ≡ true → opens p (dir p) ≡ true
  pub clear_pair : (p q : ℕ) → fault p ≡ true → fault q ≡ true → (p ≡ q → ⊥) → clears p (dir p) q (dir q) ≡ true

-- the same of the faults at ps, with their directions in the same order
pub record PlanAlong (opens : ℕ → ℕ → Bool) (clears : ℕ → ℕ → ℕ → ℕ → Bool) (ps xs : List ℕ) : Type 0 where
  pub chosen : Chosen ps xs
  pub open_path : (k : ℕ) → k < length xs → opens (get_or ps k 0) (get_or xs k 0) ≡ true
  pub clear_pair : (i j : ℕ) → i < j → j < length xs
      → clears (get_or ps i 0) (get_or xs i 0) (get_or ps j 0) (get_or xs j 0) ≡ true

-- which of two paths is named first does not matter
abbrev pub EitherFirst : (ℕ → ℕ → ℕ → ℕ → Bool) → Type 0
EitherFirst clears = (p d q e : ℕ) → clears p d q e ≡ true → clears q e p d ≡ true

-- a plan of a map, by positions
abbrev pub PlanOn : ℕ → ℕ → List ℕ → (ℕ → ℕ) → Type 0
PlanOn n m grid dir = PlanAt (inner_fault n m grid) (is_open n m grid) (clear n m) dir

-- the directions of a buffer, by position
abbrev pub read_at : List ℕ → ℕ → ℕ
read_at directions p = get_or directions p 0

-- A plan by positions is a plan by the list of the faults.
pub record ByPosition : Type 0 where
  pub lists : (fault : ℕ → Bool) (opens : ℕ → ℕ → Bool) (clears : ℕ → ℕ → ℕ → ℕ → Bool) (ps xs : List ℕ) (dir : ℕ → ℕ)
      → EitherFirst clears → Lists fault ps → length xs ≡ length ps
      → ((k : ℕ) → k < length ps → get_or xs k 0 ≡ dir (get_or ps k 0))
      → PlanAlong opens clears ps xs ↔ PlanAt fault opens clears dir
  -- of a map's inner faults,
  pub plans : (n m : ℕ) (grid xs : List ℕ)
      → Plan n m grid xs ↔ PlanAlong (is_open n m grid) (clear n m) (faults n m grid) xs
  -- of a direction buffer read at them,
  pub buffers : (n m : ℕ) (grid directions : List ℕ)
      → Plan n m grid (directions_at directions (faults n m grid)) ↔ PlanOn n m grid (read_at directions)
  -- and of a whole direction buffer
  pub holds : (n m : ℕ) (grid directions : List ℕ) → well_formed n m grid ≡ Ok tt → length directions ≡ 1024
      → ((p : ℕ) → p < 1024 → inner_fault n m grid p ≡ false → get_or directions p 0 ≡ 0)
      → HoldsPlan n m grid directions ↔ PlanOn n m grid (read_at directions)
