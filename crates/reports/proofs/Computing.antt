-- What the examples compute with, under one name: `unfolding computing` opens all of it.
-- Assumes nothing.
use Rattle.array.specs.Tests.{first_of, first_along}
use Rattle.array.specs.Buffer.{span, positions_along}
use Rattle.array.specs.Map.{faulty_mark, map_tests}
use Rattle.paths.specs.Path.{path, none_faulty, is_free, is_open, member, share, meet, near_miss, clash, clear, pair_test}
use Rattle.plans.specs.Faults.{faults, directions_at, paired}
use Rattle.plans.specs.Check.{pairs_test, paths_test, plan_tests}
use Rattle.counters.specs.Count.{counts, count_afresh, counters_after}
use Rattle.sessions.specs.Session.{first_direction, fail_test, recover_test, report_test, path_of, changed, session_reported}
use Rattle.previews.specs.Preview.{foretold, differences}

unfoldable pub computing : Unit {0}
unfolding
    first_of first_along span positions_along faulty_mark map_tests
    path none_faulty is_free is_open member share meet near_miss clash clear pair_test
    faults directions_at paired pairs_test paths_test plan_tests
    counts count_afresh counters_after first_direction fail_test recover_test report_test path_of changed session_reported
    foretold differences
computing = tt
