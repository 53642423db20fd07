-- Document 02, T-04, computed: where a path from a dead processor is open, what the planner finds, and a link that enters one.
-- Assumes nothing.
use Rattle.std.specs.Prelude.{ℕ, ◌≡◌, Bool, true, false, List, [], ◌∷◌, set, Ok, Err}
use Rattle.array.specs.Buffer.{zeros}
use Rattle.array.specs.Map.{well_formed}
use Rattle.array.specs.Tests.{refusal, refuse}
use Rattle.paths.specs.Path.{is_open}
use Rattle.plans.specs.Faults.{faults, fault, directions_at}
use Rattle.trials.specs.Search.{planned, outcome, directions_written}
use Rattle.trials.specs.declared.Outcome.TheVariants.{Repaired, Beyond}
use Rattle.track.specs.Letters.{c, d, across_letters, down_letters}
use Rattle.track.specs.Ports.{Wafer}
use Rattle.track.specs.Follower.{refused, followed}
use Rattle.readers.specs.Reading.{read_map}
use Rattle.writers.specs.Writing.{write_map}
use Rattle.starred.specs.Grids.{grid_of, directions_of}
use Rattle.track.specs.Ports as ports

-- the grid of an array with one dead processor
abbrev pub one_dead : ℕ → ℕ → ℕ → List ℕ
one_dead n m p = set (grid_of n m []) p 3

-- which paths are open from it: south, north, east, west
abbrev pub open_paths : ℕ → ℕ → ℕ → List Bool
open_paths n m p =
    is_open n m (one_dead n m p) p 1 ∷ is_open n m (one_dead n m p) p 2 ∷ is_open n m (one_dead n m p) p 3 ∷ is_open n m (one_dead n m p) p 4 ∷ []

-- the directions that the planner writes
abbrev pub written : ℕ → ℕ → ℕ → List ℕ
written n m p =
    let grid = one_dead n m p in
    directions_at (directions_written 1000000 [] (faults n m grid) (planned n m grid)) (faults n m grid)

-- 2 x 2 with a fault of this mark at (1, 1), its path south, and d and c at the down switches (1, 2) and (1, 1): from (1, 2) down, left, up
abbrev pub upward : ℕ → Wafer
upward mark =
    let grid = set (grid_of 2 2 []) 33 mark in
    let directions = directions_of (fault 33 1 ∷ []) in
    ports.wafer 2 2 grid directions (across_letters 2 2 grid directions) (set (set (down_letters 2 2 grid directions) 34 d) 33 c)

pub record DeadExamples : Type 0 where
  -- 3 x 3: from (1, 2) south alone, from (3, 2) north, from (2, 1) east, from (2, 3) west, from (1, 1) south and east, from (2, 2) none
  pub top : open_paths 3 3 34 ≡ true ∷ false ∷ false ∷ false ∷ []
  pub bottom : open_paths 3 3 98 ≡ false ∷ true ∷ false ∷ false ∷ []
  pub left : open_paths 3 3 65 ≡ false ∷ false ∷ true ∷ false ∷ []
  pub right : open_paths 3 3 67 ≡ false ∷ false ∷ false ∷ true ∷ []
  pub corner : open_paths 3 3 33 ≡ true ∷ false ∷ true ∷ false ∷ []
  pub middle : open_paths 3 3 66 ≡ false ∷ false ∷ false ∷ false ∷ []
  -- mark 3 is allowed at (1, 1) of 2 x 2 and refused at the spare (0, 1)
  pub inner_allowed : well_formed 2 2 (one_dead 2 2 33) ≡ Ok tt
  pub spare_refused : well_formed 2 2 (one_dead 2 2 1) ≡ refuse 3 1 0
  -- 2 x 2: (1, 1) takes south at the first trial, (2, 2) north at the second; (2, 2) of 3 x 3 is beyond repair after four
  pub first_south : outcome 1000000 (planned 2 2 (one_dead 2 2 33)) ≡ Repaired 1
  pub path_south : written 2 2 33 ≡ 1 ∷ []
  pub then_north : outcome 1000000 (planned 2 2 (one_dead 2 2 66)) ≡ Repaired 2
  pub path_north : written 2 2 66 ≡ 2 ∷ []
  pub middle_beyond : outcome 1000000 (planned 3 3 (one_dead 3 3 66)) ≡ Beyond 4
  -- a link into a dead processor ends with 17 at the last switch, where one into a fault goes on to the spare (0, 1)
  pub enters_dead : followed (upward 3) 34 1 ≡ refused 17 33
  pub enters_fault : followed (upward 1) 34 1 ≡ Ok (record { position = 1; port = 3; switches = 3 })
  -- map files: one dead processor, read and written; a count of 0; a spare; a place that both lists have
  pub one_read : read_map (2 ∷ 2 ∷ 0 ∷ 1 ∷ 1 ∷ 1 ∷ []) zeros ≡ (Ok (record { rows = 2; columns = 2; count = 1 }), one_dead 2 2 33)
  pub one_written : write_map 2 2 (one_dead 2 2 33) (9 ∷ 9 ∷ 9 ∷ 9 ∷ 9 ∷ 9 ∷ 9 ∷ []) ≡ (Ok 6, 2 ∷ 2 ∷ 0 ∷ 1 ∷ 1 ∷ 1 ∷ 9 ∷ [])
  pub none_listed : read_map (2 ∷ 2 ∷ 0 ∷ 0 ∷ []) zeros ≡ (Err (refusal 12 3 0), zeros)
  pub spare_listed : read_map (2 ∷ 2 ∷ 0 ∷ 1 ∷ 0 ∷ 1 ∷ []) zeros ≡ (Err (refusal 20 4 0), zeros)
  pub listed_twice : read_map (2 ∷ 2 ∷ 1 ∷ 1 ∷ 1 ∷ 1 ∷ 1 ∷ 1 ∷ []) zeros ≡ (Err (refusal 11 6 0), zeros)
