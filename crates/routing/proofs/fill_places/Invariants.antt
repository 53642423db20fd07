use Rattle.array.proofs.Fills.{Filling}
use Rattle.routing.specs.Inner.{placed_by}
use Rattle.routing.proofs.fill_places.Given as goal

abbrev pub invariant-loop-p : goal.invariant-loop-p
invariant-loop-p l = Filling (placed_by l.shape.rows l.shape.columns l.traced) 1024 l.p l.places
