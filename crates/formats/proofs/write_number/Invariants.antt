use Rattle.std.proofs.Common.{◌<◌}
use Rattle.formats.specs.Number.{bytes_of}
use Rattle.formats.proofs.Runs.{Run}
use Rattle.formats.proofs.write_number.Given as goal

-- the bytes of the rest are left
abbrev pub invariant-loop-rest : goal.invariant-loop-rest
invariant-loop-rest l = (l.rest < 2097152) × Run l.fn.out l.fn.start (bytes_of l.fn.v) l.out l.at (bytes_of l.rest)

abbrev pub decreases-loop-rest : goal.decreases-loop-rest
decreases-loop-rest l = l.rest
