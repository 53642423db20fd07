-- Document 01, "The bench program": what its example shows of the bytes 02 02 01 01 01.
-- Assumes nothing.
use Rattle.std.specs.Prelude.{ℕ, ◌≡◌, List, [], ◌∷◌, take, Ok}
use Rattle.array.specs.Buffer.{zeros}
use Rattle.plans.specs.Faults.{faults, fault, directions_at}
use Rattle.trials.specs.Search.{planned, outcome, directions_written}
use Rattle.trials.specs.declared.Outcome.TheVariants.{Repaired}
use Rattle.track.specs.Placement.{placement}
use Rattle.track.specs.Letters.{b, c, d, across_letters, down_letters}
use Rattle.readers.specs.Reading.{read_map}
use Rattle.writers.specs.Writing.{write_map}
use Rattle.starred.specs.Grids.{grid_of, directions_of, shown}

abbrev pub grid : List ℕ
grid = grid_of 2 2 (33 ∷ [])

-- the directions that the planner writes
abbrev pub written : List ℕ
written = directions_written 1000000 [] (faults 2 2 grid) (planned 2 2 grid)

pub record Example : Type 0 where
  -- map 2 2 1
  pub map_read : read_map (2 ∷ 2 ∷ 1 ∷ 1 ∷ 1 ∷ []) zeros ≡ (Ok (record { rows = 2; columns = 2; count = 1 }), grid)
  -- written over six other bytes, of which the last is kept, and read again
  pub map_written : write_map 2 2 grid (9 ∷ 9 ∷ 9 ∷ 9 ∷ 9 ∷ 9 ∷ []) ≡ (Ok 5, 2 ∷ 2 ∷ 1 ∷ 1 ∷ 1 ∷ 9 ∷ [])
  pub map_again : read_map (take 5 (write_map 2 2 grid (9 ∷ 9 ∷ 9 ∷ 9 ∷ 9 ∷ 9 ∷ [])).1) zeros
      ≡ (Ok (record { rows = 2; columns = 2; count = 1 }), grid)
  -- repaired 1; path 1 1 S
  pub repaired : outcome 1000000 (planned 2 2 grid) ≡ Repaired 1
  pub path_south : directions_at written (faults 2 2 grid) ≡ 1 ∷ []
  -- cell 1 1 2 1, cell 1 2 1 2, cell 2 1 3 1, cell 2 2 2 2, and nothing elsewhere
  pub cells : placement 2 2 grid written ≡ directions_of (fault 33 65 ∷ fault 34 34 ∷ fault 65 97 ∷ fault 66 66 ∷ [])
  -- across bcdbcdbd, down bbbbbbbb
  pub across_is : shown (across_letters 2 2 grid written) ≡ b ∷ c ∷ d ∷ b ∷ c ∷ d ∷ b ∷ d ∷ []
  pub down_is : shown (down_letters 2 2 grid written) ≡ b ∷ b ∷ b ∷ b ∷ b ∷ b ∷ b ∷ b ∷ []
