use Rattle.exact.proofs.Pairs.{better_more, next_below}
use Rattle.exact.proofs.search.try_pairs.Goals as goal

pub loop-a-preserved : goal.loop-a-preserved
loop-a-preserved c = better_more _ _ (next_below _ _) c.loop-a.invariant c.try_row.ensures
