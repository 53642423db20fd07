-- Document 01's listings, computed.
-- Assumes nothing.
use mathlib.Core.Path.{refl}
use Rattle.array.specs.Tests.{first_of, first_along}
use Rattle.array.specs.Buffer.{span, positions_along}
use Rattle.array.specs.Map.{faulty_mark, map_tests}
use Rattle.paths.specs.Path.{path, none_faulty, is_free, is_open, member, share, meet, near_miss, clash, clear}
use Rattle.plans.specs.Faults.{faults, directions_at, paired}
use Rattle.plans.specs.Check.{pairs_test, paths_test, plan_tests}
use Rattle.trials.specs.Trials.{offer, trials, clear_of, keeps}
use Rattle.trials.specs.Search.{searched, planned, outcome, direction_of, directions_written}
use Rattle.peeling.specs.Peel.{pick_along, peel, left_on, peeled_on, quick_planned}
use Rattle.exact.specs.Exact.{decided, directions_found}
use Rattle.track.specs.Placement.{through, placement}
use Rattle.track.specs.Letters.{letters, entry, letter, across_letters, down_letters}
use Rattle.repair.specs.Operations.{plan_by, directions_by}
use Rattle.repair.specs.Operations.{place_cells, places_after, route_switches, across_after, down_after}
use Rattle.formats.specs.Number.{groups_at, size_at}
use Rattle.formats.specs.Records.{healthy_grid}
use Rattle.readers.specs.Reading.{record_at, records_at, read_file}
use Rattle.listing.specs.Listing.{along, digits, line, path_line, cell_line, switch_line, plan_lines, repair_lines, outcome_lines, decision_lines, refusal_line, head_line, map_lines, file_lines, listing}
use Rattle.listing.specs.Examples.{Examples}

pub examples : Examples
unfolding
    along digits line path_line cell_line switch_line plan_lines repair_lines outcome_lines
    decision_lines decided directions_found refusal_line
    head_line map_lines file_lines listing
    plan_by directions_by place_cells places_after route_switches across_after down_after
    first_of first_along span positions_along faulty_mark map_tests
    path none_faulty is_free is_open member share meet near_miss clash clear
    faults directions_at paired pairs_test paths_test plan_tests
    offer trials clear_of keeps searched planned outcome direction_of directions_written
    pick_along peel left_on peeled_on quick_planned
    through placement letters entry letter across_letters down_letters
    groups_at size_at healthy_grid record_at records_at read_file
examples =
    record {
      zero_is = refl;
      ten_is = refl;
      limit_is = refl;
      greatest_is = refl;
      repaired = refl;
      settled = refl;
      exactly_repaired = refl;
      exactly_beyond = refl;
      beyond = refl;
      dead_repaired = refl;
      dead_beyond = refl;
      dead_spare = refl;
      short_number = refl;
      empty = refl;
      large_size = refl;
      unordered = refl;
    }
