use Rattle.std.proofs.Common.{◌≡◌, length}
use Rattle.lists.specs.FaultList.{listed_test}
use Rattle.lists.proofs.Lists.{listed_from}
use Rattle.lists.proofs.check_entries.Given as goal

-- the listed faults before this one are right
abbrev pub invariant-loop-start : goal.invariant-loop-start
invariant-loop-start l = listed_test l.starts l.faults ≡ listed_from l.starts l.faults (length l.yielded)
