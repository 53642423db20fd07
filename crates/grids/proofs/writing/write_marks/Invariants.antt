use Rattle.std.proofs.Common.{◌≤◌, ◌-◌}
use Rattle.array.specs.Buffer.{span}
use Rattle.formats.proofs.Runs.{Run}
use Rattle.grids.specs.Text.{text_byte, text}
use Rattle.grids.proofs.writing.write_marks.Given as goal

-- the bytes at the indices not yet passed are left to write
abbrev pub invariant-loop-i : goal.invariant-loop-i
invariant-loop-i l =
    (l.i ≤ l.needed) × Run l.fn.out 0 (text l.n l.m l.grid) l.out l.i (span (text_byte l.n l.m l.grid) l.i (l.needed - l.i))
