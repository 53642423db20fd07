use Rattle.array.proofs.Counts.{Counting}
use Rattle.formats.specs.Records.{recorded}
use Rattle.writers.proofs.count_records.Given as goal

-- the records before p are counted
abbrev pub invariant-loop-p : goal.invariant-loop-p
invariant-loop-p l = Counting (recorded l.kind) l.b l.p l.count
