use Rattle.std.proofs.Common.{length}
use Rattle.array.proofs.Fills.{Filling}
use Rattle.plans.proofs.Pairing.{taken_at}
use Rattle.plans.proofs.take_directions.Given as goal

abbrev pub invariant-loop-k : goal.invariant-loop-k
invariant-loop-k l = Filling (taken_at l.directions l.starts) (length l.starts) l.k l.out
