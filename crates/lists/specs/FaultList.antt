-- Document 01, "Language forms by place": the plan check of a list of faults, which stands for the direction buffer.
-- Assumes nothing.
use Rattle.std.specs.Prelude.{ℕ, ◌≡◌, Bool, cond, not, ◌||◌, ◌↔◌, List, [], ◌∷◌, ltb, eqb, length, Ok}
use Rattle.array.specs.Tests.{or_else, refuse, refuse_if}
use Rattle.array.specs.Map.{well_formed}
use Rattle.array.specs.Tests.{Verdict}
use Rattle.plans.specs.Faults.{faults, directed_faults}
use Rattle.plans.specs.Plan.{Plan}
use Rattle.plans.specs.Check.{directions_test, paths_test, check_plan}
use Rattle.plans.specs.declared.Fault.{Fault}

-- the lower of two positions
abbrev pub lower : ℕ → ℕ → ℕ
lower p q = cond (ltb p q) p q

-- 4 of a listed fault, where p is the inner fault whose turn it is: another position, or a direction that is not 1 to 4; the lower of the two
abbrev pub wrong_entry : ℕ → ℕ → ℕ → Bool
wrong_entry p q d = not (eqb q p) || (eqb d 0 || ltb 4 d)

abbrev pub entry_test : ℕ → Fault → Verdict
entry_test p f = refuse_if (wrong_entry p f.position f.direction) 4 (lower p f.position) 0

-- 4 of a list: it is to be the inner faults in row order, each with a direction. At a fault that is missing or too many, its position.
unfoldable pub listed_test : List ℕ → List Fault → Verdict
listed_test [] [] = Ok tt
listed_test [] (f ∷ fs) = refuse 4 f.position 0
listed_test (p ∷ ps) [] = refuse 4 p 0
listed_test (p ∷ ps) (f ∷ fs) = or_else (entry_test p f) (listed_test ps fs)

-- 4 to 7
abbrev pub list_tests : ℕ → ℕ → List ℕ → List Fault → Verdict
list_tests n m grid fs = or_else (listed_test (faults n m grid) fs) (paths_test n m grid fs)

-- 1 to 7: what check_fault_list answers
unfoldable pub check_fault_list : ℕ → ℕ → List ℕ → List Fault → Verdict
check_fault_list n m grid fs = or_else (well_formed n m grid) (list_tests n m grid fs)

-- where 1 to 4 accept a direction buffer, both checks of its plan give one answer
abbrev pub ListCheckAgrees : Type 0
ListCheckAgrees =
    (n m : ℕ) (grid directions : List ℕ) → well_formed n m grid ≡ Ok tt → length directions ≡ 1024
    → directions_test n m grid directions ≡ Ok tt
    → check_fault_list n m grid (directed_faults n m grid directions) ≡ check_plan n m grid directions

-- the positions and the directions of a list of faults
abbrev pub positions_of : List Fault → List ℕ
positions_of [] = []
positions_of (f ∷ fs) = f.position ∷ positions_of fs

abbrev pub directions_of : List Fault → List ℕ
directions_of [] = []
directions_of (f ∷ fs) = f.direction ∷ directions_of fs

-- a list is a plan: on a well-formed map it has the inner faults in row order, and its directions are one
pub record ListsPlan (n m : ℕ) (grid : List ℕ) (fs : List Fault) : Type 0 where
  pub map : well_formed n m grid ≡ Ok tt
  pub in_order : positions_of fs ≡ faults n m grid
  pub plan : Plan n m grid (directions_of fs)

-- the check accepts these and nothing else
abbrev pub AcceptsLists : Type 0
AcceptsLists = (n m : ℕ) (grid : List ℕ) (fs : List Fault) → (check_fault_list n m grid fs ≡ Ok tt) ↔ ListsPlan n m grid fs

-- these are the inner faults in row order
abbrev pub FaultStarts : ℕ → ℕ → List ℕ → List ℕ → Type 0
FaultStarts n m grid starts = starts ≡ faults n m grid
