use Rattle.std.proofs.Common.{◌≡◌}
use Rattle.grids.specs.Reading.{rows_test, position_test}
use Rattle.grids.proofs.Judgements.{wrong_from}
use Rattle.grids.proofs.judging.Size.judge.Given as goal

-- what is judged is still to be found from position p on
abbrev pub invariant-loop-p : goal.invariant-loop-p
invariant-loop-p l = rows_test l.self.n l.self.m l.rows ≡ wrong_from (position_test l.self.n l.self.m l.rows) 1024 l.p
