-- What the parts that write bytes into a buffer ask and answer.
-- Assumes nothing.
use Rattle.std.specs.Prelude.{◌≡◌, ℕ, ◌+◌, ◌≤◌, List, length}
use Rattle.std.proofs.lemmas.List.Edits.{sets}

-- there is room for bytes at an offset
abbrev pub Room : List ℕ → ℕ → List ℕ → Type 0
Room out at bytes = at + length bytes ≤ length out

-- bytes were written at an offset: the offset after them, and the buffer afterwards
abbrev pub Wrote : List ℕ → ℕ → List ℕ → ℕ → List ℕ → Type 0
Wrote old at bytes next new = (next ≡ at + length bytes) × (new ≡ sets old at bytes)
