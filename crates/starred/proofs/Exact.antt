-- The exact planner on small maps, and what pairs leave, computed.
-- Assumes nothing.
use mathlib.Core.Path.{refl}
use Rattle.exact.specs.Exact.{decided, directions_found}
use Rattle.exact.specs.Masks.{fits, leaves, tried}
use Rattle.starred.specs.Exact.{ExactExamples}
use Rattle.starred.proofs.Computing.{computing}

pub exact_examples : ExactExamples
unfolding computing decided directions_found fits leaves tried
exact_examples =
    record {
      no_fault = refl;
      beside_decided = refl;
      beside_written = refl;
      closed_decided = refl;
      closed_written = refl;
      a_left = refl;
      a_column = refl;
      a_itself = refl;
      a_right = refl;
      between = refl;
      b_left = refl;
      b_itself = refl;
      b_right = refl;
      none_north = refl;
      none_at_all = refl;
      wheel_left = refl;
      wheel_a = refl;
      wheel_middle = refl;
      wheel_b = refl;
      wheel_right = refl;
      w_above = refl;
      w_itself = refl;
      w_below = refl;
      columns_between = refl;
      e_above = refl;
      tried_above = refl;
      tried_beside = refl;
      not_below = refl;
      not_right = refl;
    }
