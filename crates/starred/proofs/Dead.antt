-- Maps with a dead processor, computed.
-- Assumes nothing.
use mathlib.Core.Path.{refl}
use Rattle.starred.specs.Dead.{DeadExamples}
use Rattle.starred.proofs.Computing.{computing}

pub dead_examples : DeadExamples
unfolding computing
dead_examples =
    record {
      top = refl;
      bottom = refl;
      left = refl;
      right = refl;
      corner = refl;
      middle = refl;
      inner_allowed = refl;
      spare_refused = refl;
      first_south = refl;
      path_south = refl;
      then_north = refl;
      path_north = refl;
      middle_beyond = refl;
      enters_dead = refl;
      enters_fault = refl;
      one_read = refl;
      one_written = refl;
      none_listed = refl;
      spare_listed = refl;
      listed_twice = refl;
    }
