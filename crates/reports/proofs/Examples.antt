-- Reports on a small session, computed.
-- Assumes nothing.
use mathlib.Core.Path.{refl}
use Rattle.reports.specs.Examples.{ReportExamples}
use Rattle.reports.proofs.Computing.{computing}

pub report_examples : ReportExamples
unfolding computing
report_examples =
    record {
      starts = refl;
      beside_three = refl;
      near_miss = refl;
      own_start = refl;
      spare = refl;
      corner = refl;
      beyond = refl;
      already_faulty = refl;
      already_dead = refl;
      already_healthy = refl;
      on_path = refl;
      spare_on_path = refl;
      dead_stays = refl;
      no_direction = refl;
      taken = refl;
      taken_south = refl;
      spare_fails = refl;
      spare_takes_none = refl;
      recovered = refl;
      given_back = refl;
      before = refl;
      after = refl;
      itself = refl;
      again = refl;
      south_first = refl;
      north_second = refl;
      east_third = refl;
      west_last = refl;
      stops_at_255 = refl;
      stops_at_0 = refl;
      down_by_1 = refl;
      off_inner = refl;
      no_session_refused = refl;
    }
