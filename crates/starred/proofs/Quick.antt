-- The quick planner on small maps, computed.
-- Assumes nothing.
use mathlib.Core.Path.{refl}
use Rattle.peeling.specs.Peel.{pick_along, peel, left_on, peeled_on, quick_planned}
use Rattle.starred.specs.Quick.{QuickExamples}
use Rattle.starred.proofs.Computing.{computing}

pub quick_examples : QuickExamples
unfolding computing pick_along peel left_on peeled_on quick_planned
quick_examples =
    record {
      first_west = refl;
      then_east = refl;
      then_north = refl;
      then_south = refl;
      closed = refl;
      four_settled = refl;
      four_found = refl;
      four_written = refl;
      starts_over = refl;
      core_settled = refl;
      core_found = refl;
      core_written = refl;
      core_spent = refl;
      one_settled = refl;
      others_found = refl;
      all_written = refl;
      dead_east = refl;
    }
