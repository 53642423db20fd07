use Rattle.std.proofs.Common.{◌+◌, ◌*◌}
use Rattle.counters.specs.Inner.{is_coming}
use Rattle.counters.proofs.Altering.{Altering}
use Rattle.counters.proofs.alter_all.Given as goal

-- the rows before x are altered
abbrev pub invariant-loop-x : goal.invariant-loop-x
invariant-loop-x l =
    Altering l.path.shape.rows l.path.shape.columns (is_coming l.change) l.path.start l.path.direction 1 (32 * l.x) l.fn.south l.south
    × Altering l.path.shape.rows l.path.shape.columns (is_coming l.change) l.path.start l.path.direction 2 (32 * l.x) l.fn.north l.north
    × Altering l.path.shape.rows l.path.shape.columns (is_coming l.change) l.path.start l.path.direction 3 (32 * l.x) l.fn.east l.east
    × Altering l.path.shape.rows l.path.shape.columns (is_coming l.change) l.path.start l.path.direction 4 (32 * l.x) l.fn.west l.west

-- and those of row x before y
abbrev pub invariant-loop-y : goal.invariant-loop-y
invariant-loop-y l =
    Altering l.path.shape.rows l.path.shape.columns (is_coming l.change) l.path.start l.path.direction 1 (32 * l.x + l.y) l.fn.south l.south
    × Altering l.path.shape.rows l.path.shape.columns (is_coming l.change) l.path.start l.path.direction 2 (32 * l.x + l.y) l.fn.north l.north
    × Altering l.path.shape.rows l.path.shape.columns (is_coming l.change) l.path.start l.path.direction 3 (32 * l.x + l.y) l.fn.east l.east
    × Altering l.path.shape.rows l.path.shape.columns (is_coming l.change) l.path.start l.path.direction 4 (32 * l.x + l.y) l.fn.west l.west
