use Rattle.std.proofs.Common.{◌≡◌, length, ◌-◌, ◌+◌, ◌*◌}
use Rattle.peeling.specs.Inner.{positions, directions}
use Rattle.peeling.proofs.Looping.{Settling}
use Rattle.peeling.proofs.peel.Given as goal

-- a side is asked with each turn, and after a settling the sides from west on
abbrev pub invariant-loop-d : goal.invariant-loop-d
invariant-loop-d l = record {
  settling : Settling l.map.shape.rows l.map.shape.columns l.map.grid.now l.count l.left (positions l.held) (directions l.held) l.settled l.d;
  held_long : length l.held ≡ length l.fn.held;
}

-- it falls with each settling and with each side that has none
abbrev pub decreases-loop-d : goal.decreases-loop-d
decreases-loop-d l = 5 * (l.count - l.settled) + l.d
