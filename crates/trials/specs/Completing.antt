-- The trial rule that starts with kept paths: `part` holds the direction of each fault whose path is settled beforehand, 0 elsewhere. For
-- any tests of a fault, of a path and of two paths. Assumes nothing.
use Rattle.std.specs.Prelude.{ℕ, ◌≡◌, Bool, true, cond, not, ◌&&◌, ◌⊎◌, List, [], ◌∷◌, eqb, length, get_or}
use Rattle.array.specs.Buffer.{tabulate, Lists}
use Rattle.plans.specs.Faults.{paired}
use Rattle.plans.specs.Plan.{NotAfter}
use Rattle.plans.specs.PlanAt.{PlanAt, EitherFirst}
use Rattle.plans.specs.declared.Fault.{Fault}
use Rattle.trials.specs.Trials.{found, exhausted, trials, keeps, count}
use Rattle.trials.specs.Search.{direction_of}

-- a settled fault, and one that is still to be searched
abbrev pub settled_in : (ℕ → Bool) → (ℕ → ℕ) → ℕ → Bool
settled_in fault part p = fault p && not (eqb (part p) 0)

abbrev pub left_in : (ℕ → Bool) → (ℕ → ℕ) → ℕ → Bool
left_in fault part p = fault p && eqb (part p) 0

-- a list of faults has p with d
abbrev pub Has : List Fault → ℕ → ℕ → Type 0
Has [] p d = ⊥
Has (f ∷ fs) p d = ((f.position ≡ p) × (f.direction ≡ d)) ⊎ Has fs p d

-- the kept list holds the settled faults with their directions, and nothing else
pub record KeepsSettled (fault : ℕ → Bool) (part : ℕ → ℕ) (kept : List Fault) : Type 0 where
  pub held : (p d : ℕ) → Has kept p d → (settled_in fault part p ≡ true) × (d ≡ part p)
  pub holds : (p : ℕ) → settled_in fault part p ≡ true → Has kept p (part p)

-- the directions of the settled faults, with those of the faults at ps
abbrev pub joined : (ℕ → ℕ) → List ℕ → List ℕ → ℕ → ℕ
joined part ps xs p = cond (eqb (part p) 0) (direction_of (paired ps xs) p) (part p)

-- directions that leave the settled ones as they are
abbrev pub Agrees : (ℕ → Bool) → (ℕ → ℕ) → (ℕ → ℕ) → Type 0
Agrees fault part dir = (p : ℕ) → fault p ≡ true → (part p ≡ 0 → ⊥) → dir p ≡ part p

module _ (fault : ℕ → Bool) (opens : ℕ → ℕ → Bool) (clears : ℕ → ℕ → ℕ → ℕ → Bool) (part : ℕ → ℕ) where
  -- a plan that agrees with what is settled
  pub record Agreeing : Type 0 where
    pub dir : ℕ → ℕ
    pub plan : PlanAt fault opens clears dir
    pub agrees : Agrees fault part dir

  -- What the trials over the faults at ps give, where `kept` has the settled ones.
  pub record Completes (kept : List Fault) (ps : List ℕ) : Type 0 where
    -- what is found completes the kept paths to a plan, and no other completion comes before it
    pub completed : (k : ℕ) (xs : List ℕ) → trials (keeps opens clears) kept ps ≡ found k xs
        → PlanAt fault opens clears (joined part ps xs)
    pub first : (k : ℕ) (xs : List ℕ) → trials (keeps opens clears) kept ps ≡ found k xs
        → (a : Agreeing) → NotAfter xs (tabulate (λ k. a.dir (get_or ps k 0)) (length ps))
    -- where they are exhausted no plan agrees with the kept paths, and they are exhausted where none does
    pub none_agrees : (k : ℕ) → trials (keeps opens clears) kept ps ≡ exhausted k → Agreeing → ⊥
    pub none_there : (Agreeing → ⊥) → trials (keeps opens clears) kept ps ≡ exhausted (count (trials (keeps opens clears) kept ps))

-- so it is wherever the settled paths are a plan of their faults, and ps lists the others
abbrev pub KeptCompleted : Type 0
KeptCompleted =
    (fault : ℕ → Bool) (opens : ℕ → ℕ → Bool) (clears : ℕ → ℕ → ℕ → ℕ → Bool) (part : ℕ → ℕ) (kept : List Fault) (ps : List ℕ)
    → EitherFirst clears → PlanAt (settled_in fault part) opens clears part → KeepsSettled fault part kept
    → Lists (left_in fault part) ps → Completes fault opens clears part kept ps
