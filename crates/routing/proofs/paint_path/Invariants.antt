use Rattle.routing.proofs.Painting.{Painting}
use Rattle.routing.proofs.paint_path.Given as goal

-- what is left of the path, painted, gives the whole path painted
abbrev pub invariant-loop-k : goal.invariant-loop-k
invariant-loop-k l =
    let s = l.path in
    Painting s.shape.rows s.shape.columns s.start s.direction l.k l.initial.out l.out
