use Rattle.exact.proofs.Listing.{rows_next}
use Rattle.exact.proofs.faults.Lists.of.Goals as goal

pub loop-f-preserved : goal.loop-f-preserved
loop-f-preserved c = rows_next _ _ _ c.loop-f.invariant c.add_row.ensures
