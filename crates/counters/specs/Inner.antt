-- What the inner parts ask of their arguments.
-- Assumes nothing.
use Rattle.std.specs.Prelude.{ℕ, ◌≤◌, ◌<◌, ◌≡◌, Bool, true, false, cond, List, length, get_or, set}
use Rattle.array.specs.Buffer.{positions_in}
use Rattle.paths.specs.Path.{Start}
use Rattle.counters.specs.Count.{counts, altered_by}
use Rattle.counters.specs.declared.Change.{Change}
use Rattle.counters.specs.declared.Change.TheVariants.{Comes, Goes}

-- whether a kept path comes, as the definitions of counters have it
abbrev pub is_coming : Change → Bool
is_coming Comes = true
is_coming Goes = false

-- the counter of direction d at p altered, where the path from q in direction e counts there
abbrev pub altered_here : ℕ → ℕ → Bool → ℕ → ℕ → ℕ → ℕ → List ℕ → List ℕ
altered_here n m up q e d p old = cond (counts n m d p q e) (set old p (altered_by up (get_or old p 0))) old

-- every direction that is not 0 starts a path, and no counter has more than 255 of them to count
pub record Kept (n m : ℕ) (directions : List ℕ) : Type 0 where
  pub long : length directions ≡ 1024
  pub each : (q : ℕ) → q < 1024 → (get_or directions q 0 ≡ 0 → ⊥) → Start n m q (get_or directions q 0)
  pub few : (d p : ℕ) → length (positions_in (counts n m d p) directions) ≤ 255
