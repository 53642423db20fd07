use Rattle.std.proofs.Common.{◌+◌, ◌*◌, ◌≤◌}
use Rattle.array.proofs.Fills.{Filling}
use Rattle.readers.specs.Parts.{blank_mark}
use Rattle.readers.proofs.blank_buffer.Given as goal

-- the positions up to the row and column are filled
abbrev pub invariant-loop-y : goal.invariant-loop-y
invariant-loop-y l = (l.y ≤ 32) × Filling (blank_mark l.fn.kind l.fn.n l.fn.m) 1024 (32 * l.x + l.y) l.b

abbrev pub invariant-loop-x : goal.invariant-loop-x
invariant-loop-x l = Filling (blank_mark l.fn.kind l.fn.n l.fn.m) 1024 (32 * l.x) l.b
