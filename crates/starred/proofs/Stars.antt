-- The starred maps, computed.
-- Assumes nothing.
use mathlib.Core.Path.{refl}
use Rattle.starred.specs.Stars.{at_the_limit, Every, stars}
use Rattle.starred.proofs.Computing.{computing}

pub starred : Every stars
unfolding computing
starred = (
  record { formed = refl; outcome_is = refl; paths_are = refl; letters_are = tt },
  (
    record { formed = refl; outcome_is = refl; paths_are = refl; letters_are = tt },
    (
      record { formed = refl; outcome_is = refl; paths_are = refl; letters_are = tt },
      (
        record { formed = refl; outcome_is = refl; paths_are = refl; letters_are = tt },
        (
          record { formed = refl; outcome_is = refl; paths_are = refl; letters_are = tt },
          (
            record { formed = refl; outcome_is = refl; paths_are = refl; letters_are = refl },
            (
              record { formed = refl; outcome_is = refl; paths_are = refl; letters_are = tt },
              (
                record { formed = refl; outcome_is = refl; paths_are = refl; letters_are = tt },
                (
                  record { formed = refl; outcome_is = refl; paths_are = refl; letters_are = tt },
                  (
                    record { formed = refl; outcome_is = refl; paths_are = refl; letters_are = tt },
                    tt,
                  ),
                ),
              ),
            ),
          ),
        ),
      ),
    ),
  ),
)

pub decided : Every at_the_limit
unfolding computing
decided = (
  record { formed = refl; outcome_is = refl; paths_are = refl; letters_are = tt },
  (
    record { formed = refl; outcome_is = refl; paths_are = refl; letters_are = tt },
    tt,
  ),
)
