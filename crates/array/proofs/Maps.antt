-- What an accepted fault map says.
-- Assumes nothing.
use mathlib.Core.Path.{◌≡◌}
use mathlib.Core.Bool.{Bool, true, ◌&&◌}
use mathlib.Core.List.{List}
use Prim.Native.Nat.{ℕ}
use Rattle.array.specs.Map.{size_test, length_test, marks_test, map_tests}
use Rattle.array.specs.Place.{size}
use Rattle.array.specs.Tests.{or_else}
use Rattle.std.specs.Prelude.{Ok}
use Rattle.array.proofs.Places.{Sized, sized}
use Rattle.array.proofs.Verdicts.{both_accepted, accepted_not}

pub record AcceptedMap (n m : ℕ) (right : Bool) (grid : List ℕ) : Type 0 where
  pub sizes : Sized n m
  pub lengths : right ≡ true
  pub marks : marks_test n m grid ≡ Ok tt

pub map_accepted : (n m : ℕ) (right : Bool) (grid : List ℕ) → map_tests n m right grid ≡ Ok tt → AcceptedMap n m right grid
unfolding map_tests
map_accepted n m right grid h =
    let a = both_accepted (size_test n m) (or_else (length_test right) (marks_test n m grid)) h in
    let b = both_accepted (length_test right) (marks_test n m grid) a.1 in
    record {
      sizes = sized n m (accepted_not (size n && size m) 1 0 0 a.0);
      lengths = accepted_not right 2 0 0 b.0;
      marks = b.1;
    }
