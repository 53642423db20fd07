-- Texts of worked examples, as ASCII bytes.
-- Assumes nothing.
use Rattle.std.specs.Prelude.{ℕ, List, [], ◌∷◌, ◌++◌}
use Prim.Native.Char.{code}
use Prim.Native.String.{String, [] as []ᵗ, ◌∷◌ as ◌∷ᵗ◌}

-- the code of each character
abbrev pub ascii : String → List ℕ
ascii []ᵗ = []
ascii (c ∷ᵗ s) = code c ∷ ascii s

-- lines, each with a line feed behind
abbrev pub ascii_lines : List String → List ℕ
ascii_lines [] = []
ascii_lines (l ∷ ls) = ascii l ++ (10 ∷ ascii_lines ls)
