-- Document 02, T-07: which kept paths a counter counts, and how a report alters it. A kept path is given by its start q and
-- the direction e that the direction buffer has there; 0 is no path.
-- Assumes nothing.
use Rattle.std.specs.Prelude.{ℕ, ◌+◌, ◌-◌, Bool, cond, not, ◌&&◌, List, ltb, eqb, length, get_or}
use Rattle.array.specs.Place.{inner}
use Rattle.array.specs.Buffer.{buffer, positions_in}
use Rattle.paths.specs.Path.{clear}

-- whether the kept path from q, of another processor than p, meets or nearly misses a path from p in direction d
unfoldable pub counts : ℕ → ℕ → ℕ → ℕ → ℕ → ℕ → Bool
counts n m d p q e = not (eqb e 0) && (not (eqb q p) && not (clear n m p d q e))

-- how many kept paths do; 0 off the inner positions
unfoldable pub count_afresh : ℕ → ℕ → List ℕ → ℕ → ℕ → ℕ
count_afresh n m directions d p = cond (inner n m p) (length (positions_in (counts n m d p) directions)) 0

-- the counter buffer of direction d, made afresh
abbrev pub counters_afresh : ℕ → ℕ → List ℕ → ℕ → List ℕ
counters_afresh n m directions d = buffer (count_afresh n m directions d)

-- up or down by 1, and not beyond 255 or 0
abbrev pub altered_by : Bool → ℕ → ℕ
altered_by up x = cond up (cond (ltb x 255) (x + 1) x) (x - 1)

-- the counter of direction d at p, where the path from q in direction e comes (up) or goes: altered where that path counts
abbrev pub altered_at : ℕ → ℕ → Bool → ℕ → ℕ → ℕ → List ℕ → ℕ → ℕ
altered_at n m up q e d old p =
    cond (inner n m p && counts n m d p q e) (altered_by up (get_or old p 0)) (get_or old p 0)

-- and the whole buffer
unfoldable pub counters_after : ℕ → ℕ → Bool → ℕ → ℕ → ℕ → List ℕ → List ℕ
counters_after n m up q e d old = buffer (altered_at n m up q e d old)
