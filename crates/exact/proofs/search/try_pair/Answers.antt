use Rattle.exact.proofs.Pairs.{better_takes}
use Rattle.exact.proofs.search.try_pair.Goals as goal

pub returns-in-Some : goal.returns-in-Some
returns-in-Some c =
    let a = c.args in
    let faults = a.problem.now.faults in
    better_takes faults.starts.now faults.open.now a.pair.columns a.pair.a a.pair.b _ _ c.in-Some.ensures.0 c.try_options.ensures
