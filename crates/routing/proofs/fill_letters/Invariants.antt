use Rattle.array.proofs.Fills.{Filling}
use Rattle.routing.specs.Inner.{letter_by}
use Rattle.routing.proofs.fill_letters.Given as goal

abbrev pub invariant-loop-p : goal.invariant-loop-p
invariant-loop-p l =
    Filling (letter_by l.switch l.map.shape.rows l.map.shape.columns l.map.grid.now l.traced) 1024 l.p l.out
