use Rattle.std.proofs.Common.{arith}
use Rattle.array.proofs.Scans.{buffer_scan, seek_start}
use Rattle.writers.proofs.check_paths.Goals as goal

pub loop-p-init : goal.loop-p-init
loop-p-init c = seek_start (buffer_scan _ _) 0 (omega arith)
