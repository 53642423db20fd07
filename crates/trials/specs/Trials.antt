-- Document 01, "Choosing": the trial rule, over any test of a trial. `keeps kept p d` says whether the fault at p keeps direction d, where
-- the faults before it have kept theirs, latest first. Assumes nothing.
use Rattle.std.specs.Prelude.{ℕ, ◌+◌, Bool, true, false, ◌&&◌, List, [], ◌∷◌}
use Rattle.plans.specs.Faults.{fault}
use Rattle.plans.specs.declared.Fault.{Fault}

-- how the trials end, with their count: at the first full plan, a direction for each fault in fault order, or in exhaustion
pub data Search : Type 0 where
  found : ℕ → List ℕ → Search
  exhausted : ℕ → Search

-- t trials more
abbrev pub more : ℕ → Search → Search
more t (found k xs) = found (t + k) xs
more t (exhausted k) = exhausted (t + k)

-- south, north, east, west
abbrev pub in_order : List ℕ
in_order = 1 ∷ 2 ∷ 3 ∷ 4 ∷ []

-- One fault, which has these directions left. A trial offers it one of them. `go d` is how the later faults end
-- once d is kept; when nothing is left to offer, the fault before goes on to its next direction.
unfoldable pub offer : (ℕ → Bool) → (ℕ → Search) → List ℕ → Search
offer keeps go [] = exhausted 0
offer keeps go (d ∷ left) =
    elim (keeps d) [
      | true ↦ elim (go d) [ found k xs ↦ found (1 + k) (d ∷ xs) | exhausted k ↦ more (1 + k) (offer keeps go left) ]
      | false ↦ more 1 (offer keeps go left)
    ]

-- the trials for the faults at these positions, after those that have kept their directions
unfoldable pub trials : (List Fault → ℕ → ℕ → Bool) → List Fault → List ℕ → Search
trials keeps kept [] = found 0 []
trials keeps kept (p ∷ ps) = offer (keeps kept p) (λ d. trials keeps (fault p d ∷ kept) ps) in_order

-- T, whichever way the trials end
abbrev pub count : Search → ℕ
count (found k xs) = k
count (exhausted k) = k

-- the path of direction d from p is clear of those kept for earlier faults
unfoldable pub clear_of : (ℕ → ℕ → ℕ → ℕ → Bool) → List Fault → ℕ → ℕ → Bool
clear_of clear [] p d = true
clear_of clear (f ∷ fs) p d = clear f.position f.direction p d && clear_of clear fs p d

-- what decides whether a trial is kept: openness, and being clear of all that earlier faults kept
unfoldable pub keeps : (ℕ → ℕ → Bool) → (ℕ → ℕ → ℕ → ℕ → Bool) → List Fault → ℕ → ℕ → Bool
keeps opens clear kept p d = opens p d && clear_of clear kept p d
