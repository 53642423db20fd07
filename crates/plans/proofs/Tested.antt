-- What accepted tests 1 to 7 leave for the inner parts of a call.
-- Assumes nothing.
use Rattle.std.specs.Prelude.{Ok}
use mathlib.Core.Path.{◌≡◌}
use mathlib.Core.Bool.{Bool, true}
use mathlib.Core.List.{List}
use Prim.Native.Nat.{ℕ}
use lib.ListN.{length}
use Rattle.array.specs.Tests.{or_else}
use Rattle.array.specs.Map.{map_tests}
use Rattle.array.proofs.Maps.{AcceptedMap, map_accepted}
use Rattle.array.proofs.Verdicts.{both_accepted}
use Rattle.plans.specs.Faults.{directed_faults}
use Rattle.plans.specs.Check.{directions_test, paths_test, plan_tests}
use Rattle.plans.specs.Inner.{Directed}

module _ (n m : ℕ) (right : Bool) (grid directions : List ℕ) (passed : plan_tests n m right grid directions ≡ Ok tt) where
  tests : (map_tests n m right grid ≡ Ok tt) × (or_else (directions_test n m grid directions) (paths_test n m grid (directed_faults n m grid directions)) ≡ Ok tt)
  unfolding plan_tests
  tests = both_accepted _ _ passed

  pub tested_map : AcceptedMap n m right grid
  tested_map = map_accepted n m right grid tests.0

  pub tested_directions : (right ≡ true → (length grid ≡ 1024) × (length directions ≡ 1024)) → Directed n m grid directions
  tested_directions lengths =
      let l = lengths tested_map.lengths in
      record {
        sound = record { rows = tested_map.sizes.rows_high; columns = tested_map.sizes.columns_high; grid_long = l.0; directions_long = l.1 };
        right = (both_accepted _ _ tests.1).0;
      }
