use Rattle.std.proofs.Common.{◌≤◌}
use Rattle.formats.proofs.Runs.{Run}
use Rattle.writers.specs.Parts.{records_of}
use Rattle.writers.proofs.Records.{records_from}
use Rattle.writers.proofs.write_records.Given as goal

-- the records from the position on are left
abbrev pub invariant-loop-p : goal.invariant-loop-p
invariant-loop-p l = (l.p ≤ 1024) × Run l.fn.out l.fn.start (records_of l.fn.kind l.fn.b) l.out l.at (records_from l.fn.kind l.fn.b l.p)
