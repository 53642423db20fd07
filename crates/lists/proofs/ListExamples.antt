-- Checks of lists of faults, computed.
-- Assumes nothing.
use mathlib.Core.Path.{refl}
use Rattle.array.specs.Tests.{first_of, first_along}
use Rattle.array.specs.Buffer.{span, positions_along}
use Rattle.array.specs.Map.{faulty_mark, map_tests}
use Rattle.paths.specs.Path.{path, none_faulty, is_free, is_open, member, share, meet, near_miss, clash, pair_test}
use Rattle.plans.specs.Faults.{faults}
use Rattle.plans.specs.Check.{pairs_test, paths_test}
use Rattle.lists.specs.FaultList.{listed_test, check_fault_list}
use Rattle.lists.specs.ListExamples.{ListExamples}

pub list_examples : ListExamples
unfolding
    first_of first_along span positions_along faulty_mark map_tests
    path none_faulty is_free is_open member share meet near_miss clash pair_test
    faults pairs_test paths_test listed_test check_fault_list
list_examples =
    record {
      south_east = refl;
      south_north = refl;
      out_of_order = refl;
      one_missing = refl;
      direction_5 = refl;
      one_too_many = refl;
      direction_first = refl;
    }
