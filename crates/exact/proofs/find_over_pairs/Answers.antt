use Rattle.exact.proofs.Pairs.{better_more}
use Rattle.exact.proofs.find_over_pairs.Goals as goal

pub returns : goal.returns
returns c =
    let faults = c.args.faults.now in
    better_more faults.starts.now faults.open.now (λ q x. x) c.try_pairs.ensures c.try_pairs-2.ensures
