use Rattle.std.proofs.Common.{◌+◌, ◌*◌}
use Rattle.counters.specs.Inner.{is_coming}
use Rattle.counters.proofs.Altering.{Altering}
use Rattle.counters.proofs.alter_counters.Given as goal

-- the rows before x are altered
abbrev pub invariant-loop-x : goal.invariant-loop-x
invariant-loop-x l =
    Altering l.path.shape.rows l.path.shape.columns (is_coming l.change) l.path.start l.path.direction l.d (32 * l.x)
    l.fn.counters l.counters

-- and those of row x before y
abbrev pub invariant-loop-y : goal.invariant-loop-y
invariant-loop-y l =
    Altering l.path.shape.rows l.path.shape.columns (is_coming l.change) l.path.start l.path.direction l.d (32 * l.x + l.y)
    l.fn.counters l.counters
