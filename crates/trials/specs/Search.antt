-- Document 01, "Choosing": the trials of a fault map, T, the outcome under a limit, and the direction buffer. Document 02,
-- T-05: the same where some faults have kept their paths beforehand.
-- Assumes nothing.
use Rattle.std.specs.Prelude.{ℕ, cond, List, [], ◌∷◌, ◌++◌, leb, eqb}
use Rattle.array.specs.Buffer.{buffer, zeros}
use Rattle.paths.specs.Path.{is_open, clear}
use Rattle.plans.specs.Faults.{faults, paired}
use Rattle.plans.specs.declared.Fault.{Fault}
use Rattle.trials.specs.Trials.{Search, found, exhausted, trials, keeps, count}
use Rattle.trials.specs.declared.Outcome.{Outcome}
use Rattle.trials.specs.declared.Outcome.TheVariants.{Repaired, Beyond, Spent}

-- the trials over faults at these positions, after those that have kept their directions
unfoldable pub searched : ℕ → ℕ → List ℕ → List Fault → List ℕ → Search
searched n m grid kept starts = trials (keeps (is_open n m grid) (clear n m)) kept starts

-- the trials of a fault map: its inner faults in row order
unfoldable pub planned : ℕ → ℕ → List ℕ → Search
planned n m grid = searched n m grid [] (faults n m grid)

unfoldable pub T : ℕ → ℕ → List ℕ → ℕ
T n m grid = count (planned n m grid)

-- spent, with the limit, exactly where T > limit; the others carry T
unfoldable pub outcome : ℕ → Search → Outcome
outcome limit (found k xs) = cond (leb k limit) (Repaired k) (Spent limit)
outcome limit (exhausted k) = cond (leb k limit) (Beyond k) (Spent limit)

-- the direction of the fault at p, 0 where none of these faults is
unfoldable pub direction_of : List Fault → ℕ → ℕ
direction_of [] p = 0
direction_of (f ∷ fs) p = cond (eqb p f.position) f.direction (direction_of fs p)

-- the direction buffer of a plan: the direction of each fault at its position, of those kept beforehand and of those at
-- these positions
abbrev pub plan_buffer : List Fault → List ℕ → List ℕ → List ℕ
plan_buffer kept starts xs = buffer (direction_of (kept ++ paired starts xs))

-- the direction buffer afterwards: the plan found; 0 in the whole buffer where the outcome is beyond repair or spent
unfoldable pub directions_written : ℕ → List Fault → List ℕ → Search → List ℕ
directions_written limit kept starts (found k xs) = cond (leb k limit) (plan_buffer kept starts xs) zeros
directions_written limit kept starts (exhausted k) = zeros
