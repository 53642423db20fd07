-- Refusals, computed.
-- Assumes nothing.
use mathlib.Core.Path.{refl}
use Rattle.starred.specs.Refusals.{FileRefusals, PlanRefusals}
use Rattle.starred.proofs.Computing.{computing}

pub file_refusals : FileRefusals
unfolding computing
file_refusals =
    record {
      not_shortest = refl;
      empty_file = refl;
      third_top_bit = refl;
      first_alone = refl;
      two_alone = refl;
      size_31 = refl;
      cut_record = refl;
      no_alias = refl;
      no_long_alias = refl;
      repeated = refl;
      byte_after = refl;
      byte_after_dead = refl;
      second_cut = refl;
      lower = refl;
      lower_path = refl;
      lower_third = refl;
      lower_cut = refl;
      lower_outside = refl;
      lower_repeated = refl;
      lower_directed = refl;
      spare_start = refl;
      path_repeated = refl;
      direction_5 = refl;
      direction_0 = refl;
      buffer_first = refl;
      no_trials = refl;
      trials_cut = refl;
      trials_not_shortest = refl;
      byte_after_trials = refl;
      path_before_trials = refl;
      two_bytes = refl;
      two_written = refl;
      lowest_three = refl;
      lowest_written = refl;
      highest_three = refl;
      highest_written = refl;
      cut_number = refl;
      long_number = refl;
      unended_number = refl;
      spare_read = refl;
      spare_written = refl;
      direction_5_written = refl;
      spare_directed = refl;
      size_before_trials = refl;
      buffer_before_trials = refl;
      direction_before_trials = refl;
      trials_before_room = refl;
      mark_before_room = refl;
      plan_written = refl;
      plan_again = refl;
      trials_too_long = refl;
      too_short = refl;
    }

pub plan_refusals : PlanRefusals
unfolding computing
plan_refusals =
    record {
      size_30 = refl;
      rows_31 = refl;
      columns_0 = refl;
      short_buffer = refl;
      corner_marked = refl;
      inner_unmarked = refl;
      mark_first = refl;
      no_direction = refl;
      direction_above = refl;
      healthy_directed = refl;
      south_east = refl;
      south_north = refl;
      east_west = refl;
      west_east = refl;
      north_south = refl;
      east_above_west = refl;
      east_north = refl;
      closed_first = refl;
      near_miss_earlier = refl;
      far_pair = refl;
    }
