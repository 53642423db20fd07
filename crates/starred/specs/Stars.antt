-- Document 01, "Maps to try": the starred maps, one table with a joint result.
-- Assumes nothing.
use Rattle.std.specs.Prelude.{ℕ, ◌≡◌, List, [], ◌∷◌, Ok}
use Rattle.array.specs.Place.{position}
use Rattle.array.specs.Map.{well_formed}
use Rattle.plans.specs.Faults.{faults, fault}
use Rattle.plans.specs.declared.Fault.{Fault}
use Rattle.trials.specs.Search.{planned, outcome, directions_written}
use Rattle.trials.specs.declared.Outcome.{Outcome}
use Rattle.trials.specs.declared.Outcome.TheVariants.{Repaired, Beyond, Spent}
use Rattle.track.specs.Letters.{a, b, c, d, across_letters}
use Rattle.starred.specs.Grids.{grid_of, directions_of, shown}

-- a map and a limit; the outcome, the paths, and the across letters where document 01 states them
pub record Star : Type 0 where
  pub rows : ℕ
  pub columns : ℕ
  pub limit : ℕ
  pub faulty : List ℕ
  pub result : Outcome
  pub paths : List Fault
  pub across : List ℕ

abbrev pub grid : Star → List ℕ
grid s = grid_of s.rows s.columns s.faulty

-- the direction buffer that the planner writes
abbrev pub written : Star → List ℕ
written s =
    let n = s.rows in
    let m = s.columns in
    directions_written s.limit [] (faults n m (grid s)) (planned n m (grid s))

-- letters that are stated are those computed
abbrev pub Stated : List ℕ → List ℕ → Type 0
Stated [] computed = Unit {0}
Stated (l ∷ ls) computed = computed ≡ (l ∷ ls)

-- one row of the table is right: the map is well-formed, the outcome with its count, the whole direction buffer, and the letters for it
pub record Right (s : Star) : Type 0 where
  pub formed : well_formed s.rows s.columns (grid s) ≡ Ok tt
  pub outcome_is : outcome s.limit (planned s.rows s.columns (grid s)) ≡ s.result
  pub paths_are : written s ≡ directions_of s.paths
  pub letters_are : Stated s.across (shown (across_letters s.rows s.columns (grid s) (written s)))

abbrev pub Every : List Star → Type 0
Every [] = Unit {0}
Every (s ∷ ss) = Right s × Every ss

abbrev two : List ℕ → Outcome → List Fault → List ℕ → Star
two f o ps ls = record { rows = 2; columns = 2; limit = 1000000; faulty = f; result = o; paths = ps; across = ls }

abbrev one : ℕ → List ℕ → Outcome → List Fault → Star
one l f o ps = record { rows = 1; columns = 1; limit = l; faulty = f; result = o; paths = ps; across = [] }

abbrev p : ℕ → ℕ → ℕ
p = position

-- paths from (x, y)
abbrev S : ℕ → ℕ → Fault
S x y = fault (p x y) 1

abbrev N : ℕ → ℕ → Fault
N x y = fault (p x y) 2

abbrev E : ℕ → ℕ → Fault
E x y = fault (p x y) 3

abbrev W : ℕ → ℕ → Fault
W x y = fault (p x y) 4

abbrev pub stars : List Star
stars =
    two [] (Repaired 0) [] []
    ∷ two (p 1 1 ∷ []) (Repaired 1) (S 1 1 ∷ []) []
    ∷ two (p 1 1 ∷ p 2 1 ∷ []) (Repaired 3) (N 1 1 ∷ S 2 1 ∷ []) []
    ∷ two (p 1 1 ∷ p 1 2 ∷ p 2 1 ∷ p 2 2 ∷ []) (Repaired 6) (N 1 1 ∷ N 1 2 ∷ S 2 1 ∷ S 2 2 ∷ []) []
    ∷ two (p 1 1 ∷ p 2 2 ∷ p 3 2 ∷ []) (Repaired 4) (S 1 1 ∷ E 2 2 ∷ []) []
    ∷ two (p 1 1 ∷ p 1 2 ∷ p 3 2 ∷ []) (Repaired 3) (S 1 1 ∷ N 1 2 ∷ []) (d ∷ c ∷ a ∷ c ∷ c ∷ d ∷ b ∷ d ∷ [])
    ∷ two (p 1 1 ∷ p 2 2 ∷ p 0 1 ∷ p 1 0 ∷ p 1 3 ∷ p 2 0 ∷ p 2 3 ∷ p 3 2 ∷ []) (Beyond 8) [] []
    ∷ one 1000000 (p 1 1 ∷ p 2 1 ∷ p 0 1 ∷ p 1 2 ∷ []) (Repaired 4) (W 1 1 ∷ [])
    ∷ one 3 (p 1 1 ∷ p 2 1 ∷ p 0 1 ∷ p 1 2 ∷ []) (Spent 3) []
    ∷ one 1000000 (p 1 1 ∷ p 2 1 ∷ p 0 1 ∷ p 1 2 ∷ p 1 0 ∷ []) (Beyond 4) []
    ∷ []

-- where T is the limit, the map is decided
abbrev pub at_the_limit : List Star
at_the_limit =
    one 4 (p 1 1 ∷ p 2 1 ∷ p 0 1 ∷ p 1 2 ∷ []) (Repaired 4) (W 1 1 ∷ [])
    ∷ one 4 (p 1 1 ∷ p 2 1 ∷ p 0 1 ∷ p 1 2 ∷ p 1 0 ∷ []) (Beyond 4) []
    ∷ []
