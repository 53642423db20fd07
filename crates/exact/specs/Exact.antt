-- The exact planner: what it decides, and the direction buffer afterwards. It is said with the trials of document 01's
-- "Choosing", to which no limit is set: it writes the very plan that they find. (Not one of document 02's requests.)
-- Assumes nothing.
use Rattle.std.specs.Prelude.{ℕ, ◌≡◌, Bool, true, false, List, []}
use Rattle.array.specs.Buffer.{zeros}
use Rattle.trials.specs.Trials.{Search, found, exhausted}
use Rattle.trials.specs.Search.{plan_buffer}
use Rattle.exact.specs.declared.Decision.{Decision}
use Rattle.exact.specs.declared.Decision.TheVariants.{Repaired, Beyond}

-- repaired where the trials end with a plan, beyond repair where they are exhausted
unfoldable pub decided : Search → Decision
decided (found k xs) = Repaired
decided (exhausted k) = Beyond

-- the direction buffer: the plan found, or 0 in the whole buffer
unfoldable pub directions_found : List ℕ → Search → List ℕ
directions_found starts (found k xs) = plan_buffer [] starts xs
directions_found starts (exhausted k) = zeros

-- Inner parts: whether the trials end with a plan, and that these directions are it
abbrev pub is_found : Search → Bool
is_found (found k xs) = true
is_found (exhausted k) = false

abbrev pub HoldsFound : Search → List ℕ → Type 0
HoldsFound (found k xs) front = front ≡ xs
HoldsFound (exhausted k) front = Unit {0}
