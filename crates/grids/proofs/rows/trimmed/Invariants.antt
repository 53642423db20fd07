use Rattle.std.proofs.Common.{◌≡◌, length}
use Rattle.grids.specs.Reading.{trim}
use Rattle.grids.proofs.rows.trimmed.Given as goal

-- what was left out does not count
abbrev pub invariant-loop-last : goal.invariant-loop-last
invariant-loop-last l = trim l.row ≡ trim l.line

abbrev pub decreases-loop-last : goal.decreases-loop-last
decreases-loop-last l = length l.row
