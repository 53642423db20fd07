-- What the parts of the listing are written under.
-- Assumes nothing.
use Rattle.std.specs.Prelude.{◌≡◌, ℕ, ◌+◌, ◌≤◌, List, length, take}

-- there is room for bytes behind those of a text, which holds at most 32,768
abbrev pub HasRoom : List ℕ → List ℕ → Type 0
HasRoom text bytes = length text + length bytes ≤ 32768

-- bytes stand at the front of `out`, and r counts them. The second part follows from the first, and is said so that the
-- proof that Rattle makes of `&out[..r]` finds it.
abbrev pub Fronts : List ℕ → ℕ → List ℕ → Type 0
Fronts bytes r out = (r ≤ length out) × (r ≡ length (take r out)) × (take r out ≡ bytes)
