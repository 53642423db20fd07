-- What the inner parts of the quick planner promise each other.
-- Assumes nothing.
use Rattle.std.specs.Prelude.{ℕ, suc, ◌-◌, ◌≤◌, ◌<◌, ◌≡◌, Bool, cond, List, [], ◌∷◌, ◌++◌, map, ltb, eqb, length, get_or, take, drop}
use Rattle.array.specs.Place.{row, column}
use Rattle.array.specs.Buffer.{buffer}
use Rattle.paths.specs.Path.{by_direction}
use Rattle.plans.specs.declared.Fault.{Fault}
use Rattle.trials.specs.Inner.{kept_in}
use Rattle.trials.specs.declared.Outcome.{Outcome}
use Rattle.trials.specs.declared.Outcome.TheVariants.{Repaired, Beyond, Spent}
use Rattle.peeling.specs.declared.Settled.{Settled}
use Rattle.peeling.specs.Peel.{Pick, settles, pick_along, peeled_on, unpeeled_on}

-- each is a position of a buffer of 1,024
abbrev pub Positions : List ℕ → Type 0
Positions ps = (i : ℕ) → i < length ps → get_or ps i 0 < 1024

-- how far in p lies on the side d: of two positions the one further out has the smaller number
abbrev pub depth : ℕ → ℕ → ℕ
depth d p = by_direction d (31 - row p) (row p) (31 - column p) (column p) 0

-- the least depth on the side d of the first k of these positions, and 31 where there is none
pub record Least (d : ℕ) (ps : List ℕ) (k least : ℕ) : Type 0 where
  pub low : (i : ℕ) → i < k → least ≤ depth d (get_or ps i 0)
  pub greatest : (b : ℕ) → b ≤ 31 → ((i : ℕ) → i < k → b ≤ depth d (get_or ps i 0)) → b ≤ least

-- what the side d says: the fault with this number in the list, or what the others say where the number is past its end
abbrev pub or_others : List ℕ → ℕ → ℕ → Pick → Pick
or_others left d at others = cond (ltb at (length left)) (settles (get_or left at 0) d) others

abbrev pub SideSays : (ℕ → ℕ → Bool) → List ℕ → ℕ → ℕ → Type 0
SideSays opens left d at = (others : Pick) → pick_along opens left d left others ≡ or_others left d at others

-- a list without its k-th element
abbrev pub without : ℕ → List ℕ → List ℕ
without k l = take k l ++ drop (suc k) l

-- the faults of a map after all settlings: so many settled, with their directions, and the others in front of `left`
pub record Split (n m : ℕ) (grid left held ways : List ℕ) (settled : ℕ) : Type 0 where
  pub within : settled ≤ length left
  pub below : (i : ℕ) → i < settled → get_or held i 0 < 1024
  pub kept : kept_in held ways settled ≡ peeled_on n m grid
  pub rest : take (length left - settled) left ≡ unpeeled_on n m grid

-- all of these faults with their directions, the last first
abbrev pub held_with : List ℕ → List ℕ → List Fault
held_with held ways = kept_in held ways (length held)

-- the positions of settled faults, their directions, and the faults themselves
abbrev pub positions : List Settled → List ℕ
positions fs = map (λ (f : Settled). f.position) fs

abbrev pub directions : List Settled → List ℕ
directions fs = map (λ (f : Settled). f.direction) fs

abbrev pub held_faults : List Settled → List Fault
held_faults fs = held_with (positions fs) (directions fs)

-- the direction at p: that of the first of these faults which stands there, else what the buffer holds
unfoldable pub direction_over : List Fault → List ℕ → ℕ → ℕ
direction_over [] old p = get_or old p 0
direction_over (f ∷ fs) old p = cond (eqb p f.position) f.direction (direction_over fs old p)

-- the direction buffer with the directions of these faults written, where a plan was found
unfoldable pub completed_by : List Fault → List ℕ → Outcome → List ℕ
completed_by fs old (Repaired k) = buffer (direction_over fs old)
completed_by fs old (Beyond k) = old
completed_by fs old (Spent k) = old
