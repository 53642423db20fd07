use Rattle.std.proofs.Common.{ℕ, List, length, ◌+◌, ◌*◌, ◌≤◌}
use Rattle.array.specs.Map.{mark_test, marks_test}
use Rattle.array.proofs.Scans.{Seeking, element_test, from_position}
use Rattle.array.proofs.check_marks.Given as goal

-- the positions before p have no refusal
abbrev pub Passed : ℕ → ℕ → List ℕ → ℕ → Type 0
Passed n m grid p =
    Seeking (element_test (mark_test n m) grid) (from_position (mark_test n m) grid) (length grid) p (marks_test n m grid)

abbrev pub invariant-loop-y : goal.invariant-loop-y
invariant-loop-y l = (l.y ≤ 32) × Passed l.map.shape.rows l.map.shape.columns l.map.grid.now (32 * l.x + l.y)

abbrev pub invariant-loop-x : goal.invariant-loop-x
invariant-loop-x l = Passed l.map.shape.rows l.map.shape.columns l.map.grid.now (32 * l.x)
