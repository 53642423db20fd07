-- Settlings in any order, for any tests of a fault and of a path: a fault is settled that no unsettled one lies beyond on
-- the side of its direction. `part` holds the direction of each settled fault, 0 elsewhere. Assumes nothing.
use Rattle.std.specs.Prelude.{ℕ, ◌≤◌, ◌≡◌, Bool, true, cond, List, [], ◌∷◌, eqb}
use Rattle.array.specs.Place.{row, column}
use Rattle.paths.specs.Path.{by_direction}
use Rattle.plans.specs.Faults.{fault as fault-with}
use Rattle.plans.specs.declared.Fault.{Fault}

-- the row or column of one of two positions, p on the north and west sides, q on the south and east sides
abbrev pub side : ℕ → ℕ → ℕ → ℕ
side d p q = by_direction d (row q) (row p) (column q) (column p) 0

-- p lies at least as far out on the side d as q
abbrev pub Outer : ℕ → ℕ → ℕ → Type 0
Outer d p q = side d p q ≤ side d q p

-- f given the direction d, the others as they were
abbrev pub settle : (ℕ → ℕ) → ℕ → ℕ → ℕ → ℕ
settle part f d p = cond (eqb p f) d (part p)

-- nothing settled
abbrev pub unsettled : ℕ → ℕ
unsettled p = 0

module _ (fault : ℕ → Bool) (opens : ℕ → ℕ → Bool) where
  -- what may be settled next
  pub record Outward (part : ℕ → ℕ) (f d : ℕ) : Type 0 where
    pub is_fault : fault f ≡ true
    pub free : part f ≡ 0
    pub low : 1 ≤ d
    pub high : d ≤ 4
    pub outermost : (q : ℕ) → fault q ≡ true → part q ≡ 0 → Outer d f q
    pub open_path : opens f d ≡ true

  -- reached by any number of settlings
  pub data Peeled : (ℕ → ℕ) → Type 0 where
    none : Peeled unsettled
    more : {part : ℕ → ℕ} (f d : ℕ) → Peeled part → Outward part f d → Peeled (settle part f d)

-- the settled faults with their directions, latest first
abbrev pub settled_faults : {fault : ℕ → Bool} {opens : ℕ → ℕ → Bool} {part : ℕ → ℕ} → Peeled fault opens part → List Fault
settled_faults none = []
settled_faults (more f d s o) = fault-with f d ∷ settled_faults s
