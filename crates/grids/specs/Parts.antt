-- What the parts of the reader of texts are called under, and what they give.
-- Assumes nothing.
use Rattle.std.specs.Prelude.{ℕ, ◌≤◌, List, eqb, get_or, ⊤, Result, Ok, Err}
use Rattle.std.specs.List.{position_or_len}
use Rattle.grids.specs.declared.rows.Rows.{Rows}
use Rattle.grids.specs.declared.wrong.Wrong.{Wrong}

-- no more than 32 rows were taken up, and the second has no more than 32 characters
abbrev pub Small : Rows → Type 0
Small r = (r.count ≤ 32) × (get_or r.lengths 1 0 ≤ 32)

-- how many characters come before the first line feed
abbrev pub line_length : List ℕ → ℕ
line_length s = position_or_len (λ c. eqb c 10) s

-- what a step answers, with the rows afterwards
abbrev pub taken : Result ⊤ Wrong → Rows → Result Rows Wrong
taken (Ok x) r = Ok r
taken (Err w) r = Err w
