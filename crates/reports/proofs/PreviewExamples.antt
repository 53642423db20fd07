-- Previews on a small session, computed.
-- Assumes nothing.
use mathlib.Core.Path.{refl}
use Rattle.reports.specs.PreviewExamples.{PreviewExamples}
use Rattle.reports.proofs.Computing.{computing}

pub preview_examples : PreviewExamples
unfolding computing
preview_examples =
    record {
      taken_south = refl;
      recovered = refl;
      recovered_below = refl;
      spare_fails = refl;
      spare_recovers = refl;
      no_direction = refl;
      spare_on_path = refl;
      corner = refl;
      south_first = refl;
      north_second = refl;
      east_third = refl;
      west_last = refl;
      two_differ = refl;
      none_differs = refl;
      four_change = refl;
      stops_at_255 = refl;
    }
