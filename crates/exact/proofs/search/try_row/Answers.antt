use Rattle.exact.proofs.Pairs.{better_more, next_below}
use Rattle.exact.proofs.search.try_row.Goals as goal

pub loop-b-preserved : goal.loop-b-preserved
loop-b-preserved c = better_more _ _ (next_below _ _) c.loop-b.invariant c.try_ends.ensures
