-- What the examples compute with, under one name: `unfolding computing` opens all of it.
-- Assumes nothing.
use Rattle.array.specs.Tests.{first_of, first_along}
use Rattle.array.specs.Buffer.{span, positions_along}
use Rattle.array.specs.Map.{faulty_mark, map_tests}
use Rattle.paths.specs.Path.{path, none_faulty, is_free, is_open, member, share, meet, near_miss, clash, clear, pair_test}
use Rattle.plans.specs.Faults.{faults, directions_at, paired}
use Rattle.plans.specs.Check.{pairs_test, paths_test, plan_tests}
use Rattle.trials.specs.Trials.{offer, trials, clear_of, keeps}
use Rattle.trials.specs.Search.{searched, planned, outcome, direction_of, directions_written}
use Rattle.track.specs.Placement.{through, placement}
use Rattle.track.specs.Letters.{letters, entry, letter, across_letters, down_letters}
use Rattle.track.specs.Ports.{neighbour, stands, stretch_from, ends_link, set_to, joined}
use Rattle.track.specs.Link.{inside, run}
use Rattle.track.specs.Pieces.{pieces}
use Rattle.track.specs.Follower.{judged, followed}
use Rattle.formats.specs.Number.{groups_at, groups_of, bytes_of, size_at}
use Rattle.formats.specs.Records.{healthy_grid, records_along, record_count, file_bytes}
use Rattle.readers.specs.Reading.{record_at, records_at, read_file}
use Rattle.writers.specs.Writing.{buffer_test, write_file}
use Rattle.starred.specs.Grids.{grid_of, directions_of, shown}

unfoldable pub computing : Unit {0}
unfolding
    first_of first_along span positions_along faulty_mark map_tests
    path none_faulty is_free is_open member share meet near_miss clash clear pair_test
    faults directions_at paired pairs_test paths_test plan_tests
    offer trials clear_of keeps searched planned outcome direction_of directions_written
    through placement letters entry letter across_letters down_letters
    neighbour stands stretch_from ends_link set_to joined inside run pieces judged followed
    groups_at groups_of bytes_of size_at healthy_grid records_along record_count file_bytes
    record_at records_at read_file buffer_test write_file
    grid_of directions_of shown
computing = tt
