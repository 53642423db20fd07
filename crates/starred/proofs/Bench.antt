-- The bench program's example, computed.
-- Assumes nothing.
use mathlib.Core.Path.{refl}
use Rattle.starred.specs.Bench.{Example}
use Rattle.starred.proofs.Computing.{computing}

pub example : Example
unfolding computing
example =
    record {
      map_read = refl;
      map_written = refl;
      map_again = refl;
      repaired = refl;
      path_south = refl;
      cells = refl;
      across_is = refl;
      down_is = refl;
    }
