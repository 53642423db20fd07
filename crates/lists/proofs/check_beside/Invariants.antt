use Rattle.std.proofs.Common.{◌≡◌, length, take}
use Rattle.lists.specs.FaultList.{directions_of}
use Rattle.lists.proofs.check_beside.Given as goal

-- the first k directions are written
abbrev pub invariant-loop-k : goal.invariant-loop-k
invariant-loop-k l = record {
  long : length l.directions ≡ 1024;
  front : take l.k l.directions ≡ take l.k (directions_of l.faults);
}
