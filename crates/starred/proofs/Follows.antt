-- Letters and links followed, computed.
-- Assumes nothing.
use mathlib.Core.Path.{refl}
use Rattle.starred.specs.Follows.{LetterExamples, FollowedExamples}
use Rattle.starred.proofs.Computing.{computing}

pub letter_examples : LetterExamples
unfolding computing
letter_examples =
    record {
      level_down = refl;
      level_placed = refl;
      north_beside_south = refl;
    }

pub followed_examples : FollowedExamples
unfolding computing
followed_examples =
    record {
      right = refl;
      lower = refl;
      three = refl;
      right_pieces = refl;
      beside_pieces = refl;
      three_down = refl;
      right_beside = refl;
      wrong_cell = refl;
      no_switch = refl;
      faulty_spare = refl;
      unjoined_switch = refl;
      unjoined_fault = refl;
      missing_switch = refl;
      fourth_switch = refl;
      fourth_joined = refl;
      no_side = refl;
      no_cell = refl;
      no_down_switch = refl;
    }
