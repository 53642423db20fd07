-- Document 02, T-05, computed: what is settled first, in which order and by which side, and the trials of the rest.
-- Assumes nothing.
use Rattle.std.specs.Prelude.{ℕ, ◌≡◌, List, [], ◌∷◌, set}
use Rattle.array.specs.Place.{position}
use Rattle.plans.specs.Faults.{faults, fault, directions_at}
use Rattle.trials.specs.Trials.{found, exhausted}
use Rattle.trials.specs.Search.{directions_written}
use Rattle.peeling.specs.Peel.{peeled_on, unpeeled_on, quick_planned}
use Rattle.starred.specs.Grids.{grid_of}

-- 1 x 1 with its fault and these spares faulty
abbrev pub single : List ℕ → List ℕ
single spares = grid_of 1 1 (position 1 1 ∷ spares)

-- all inner processors of 2 x 2
abbrev pub all_four : List ℕ
all_four = grid_of 2 2 (position 1 1 ∷ position 1 2 ∷ position 2 1 ∷ position 2 2 ∷ [])

-- 2 x 3: (1, 1), (1, 3) and (2, 2), with the spares beside row 1 faulty
abbrev pub row_first : List ℕ
row_first = grid_of 2 3 (position 1 1 ∷ position 1 3 ∷ position 2 2 ∷ position 1 0 ∷ position 1 4 ∷ [])

-- 3 x 3: (1, 1) and (3, 3), with their outward spares faulty; and the same with (2, 1)
abbrev pub core_faults : List ℕ
core_faults = position 1 1 ∷ position 3 3 ∷ position 1 0 ∷ position 0 1 ∷ position 3 4 ∷ position 4 3 ∷ []

abbrev pub core : List ℕ
core = grid_of 3 3 core_faults

abbrev pub core_and_one : List ℕ
core_and_one = grid_of 3 3 (position 2 1 ∷ core_faults)

-- the directions that the quick planner writes at the faults
abbrev pub written : ℕ → ℕ → List ℕ → ℕ → List ℕ
written n m grid limit =
    directions_at
    (directions_written limit (peeled_on n m grid) (unpeeled_on n m grid) (quick_planned n m grid)) (faults n m grid)

pub record QuickExamples : Type 0 where
  -- the order of the sides: west, then east, north and south as spares are faulty; then nothing is settled, and four
  -- trials fail
  pub first_west : peeled_on 1 1 (single []) ≡ fault (position 1 1) 4 ∷ []
  pub then_east : peeled_on 1 1 (single (position 1 0 ∷ [])) ≡ fault (position 1 1) 3 ∷ []
  pub then_north : peeled_on 1 1 (single (position 1 0 ∷ position 1 2 ∷ [])) ≡ fault (position 1 1) 2 ∷ []
  pub then_south : peeled_on 1 1 (single (position 1 0 ∷ position 1 2 ∷ position 0 1 ∷ [])) ≡ fault (position 1 1) 1 ∷ []
  pub closed : quick_planned 1 1 (single (position 1 0 ∷ position 1 2 ∷ position 0 1 ∷ position 2 1 ∷ [])) ≡ exhausted 4
  -- a settled fault still blocks: the second column goes east; latest first
  pub four_settled : peeled_on 2 2 all_four
      ≡ fault (position 2 2) 3 ∷ fault (position 1 2) 3 ∷ fault (position 2 1) 4 ∷ fault (position 1 1) 4 ∷ []
  pub four_found : quick_planned 2 2 all_four ≡ found 0 []
  pub four_written : written 2 2 all_four 0 ≡ 4 ∷ 3 ∷ 4 ∷ 3 ∷ []
  -- the lowest position of row 1 goes north; starting over, (2, 2) then lies in the first column and goes west
  pub starts_over : peeled_on 2 3 row_first ≡ fault (position 1 3) 2 ∷ fault (position 2 2) 4 ∷ fault (position 1 1) 2 ∷ []
  -- nothing can be settled: (1, 1) S and (3, 3) N after three trials; under a limit of two, spent with nothing written
  pub core_settled : peeled_on 3 3 core ≡ []
  pub core_found : quick_planned 3 3 core ≡ found 3 (1 ∷ 2 ∷ [])
  pub core_written : written 3 3 core 3 ≡ 1 ∷ 2 ∷ []
  pub core_spent : written 3 3 core 2 ≡ 0 ∷ 0 ∷ []
  -- (2, 1) goes west, and the two others take E and W after seven trials
  pub one_settled : peeled_on 3 3 core_and_one ≡ fault (position 2 1) 4 ∷ []
  pub others_found : quick_planned 3 3 core_and_one ≡ found 7 (3 ∷ 4 ∷ [])
  pub all_written : written 3 3 core_and_one 7 ≡ 3 ∷ 4 ∷ 4 ∷ []
  -- a dead (1, 1) of 2 x 2 is closed to the west and goes east
  pub dead_east : peeled_on 2 2 (set (grid_of 2 2 []) (position 1 1) 3) ≡ fault (position 1 1) 3 ∷ []
