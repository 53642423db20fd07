use Rattle.std.proofs.Common.{arith}
use Rattle.std.proofs.lemmas.List.{length-take}
use Rattle.exact.proofs.Comparing.{compared}
use Rattle.exact.proofs.search.is_before.Goals as goal

pub returns-in-Some : goal.returns-in-Some
returns-in-Some c =
    rw c.in-Some.is (compared c.args.count c.args.directions.now c.in-Some.best (omega arith)
    (omega (arith, length-take c.args.count c.in-Some.best)) _ c.lt.ensures)
