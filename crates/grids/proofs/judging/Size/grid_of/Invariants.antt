use Rattle.std.proofs.Common.{get_or}
use Rattle.array.proofs.Fills.{Filling}
use Rattle.grids.specs.Reading.{mark_of}
use Rattle.grids.proofs.judging.Size.grid_of.Given as goal

-- the positions before p have their marks
abbrev pub invariant-loop-p : goal.invariant-loop-p
invariant-loop-p l = Filling (λ q. mark_of l.self.n l.self.m q (get_or l.cells q 0)) 1024 l.p l.grid
