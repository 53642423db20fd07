use Rattle.std.proofs.Common.{◌≡◌, ◌+◌, ◌≤◌, length}
use Rattle.grids.specs.Reading.{lines_of, take_lines}
use Rattle.grids.proofs.rows.Rows.take_lines.Given as goal

-- the lines that are left, after as many as were counted, end as all of them do
abbrev pub invariant-loop-rest : goal.invariant-loop-rest
invariant-loop-rest l =
    (take_lines l.line (lines_of l.rest) l.self ≡ take_lines 0 (lines_of l.s) l.fn.self) × (l.line + length l.rest ≤ length l.s)

abbrev pub decreases-loop-rest : goal.decreases-loop-rest
decreases-loop-rest l = length l.rest
