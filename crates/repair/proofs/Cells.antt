-- A cell's number and the position that holds it are places of a buffer, and the placement holds that position.
-- Assumes nothing.
use mathlib.Core.Path.{◌≡◌, ◌∙◌}
use mathlib.Core.Bool.{true}
use mathlib.Core.List.{List}
use Prim.Native.Nat.{ℕ, ◌+◌, ◌≤◌, ◌<◌}
use native.Mathlib.Omega.{arith}
use lib.ListN.{length, get_or}
use Rattle.array.specs.Place.{inner}
use Rattle.array.proofs.Places.{inner_holds}
use Rattle.array.proofs.Fills.{tabulate_length, tabulate_at}
use Rattle.paths.specs.Path.{ahead}
use Rattle.paths.proofs.Directions.{by_number}
use Rattle.plans.specs.Faults.{directed_faults}
use Rattle.track.specs.Placement.{through, seat, placed_at, placement}

pub cell_low : (n m p : ℕ) → n ≤ 30 → m ≤ 30 → inner n m p ≡ true → p ≤ 990
cell_low n m p h k i = let z = inner_holds n m p i in omega (arith, z.row_high, z.column_high)

-- one step from p, in any direction, is at most a row further
next_low : (p d : ℕ) → ahead p d 1 ≤ p + 32
next_low p d =
    by_number (λ z. ahead p z 1 ≤ p + 32) d (omega arith) (omega arith) (omega arith) (omega arith)
    (λ a b c e. rw (a, b, c, e) (omega arith))

module _ (n m : ℕ) (grid directions : List ℕ) where
  pub placement_long : length (placement n m grid directions) ≡ 1024
  unfolding placement
  placement_long = tabulate_length _ 1024

  pub placement_at : (p : ℕ) → p < 1024 → inner n m p ≡ true → get_or (placement n m grid directions) p 0 ≡ seat n m (directed_faults n m grid directions) p
  unfolding placement
  placement_at p h i = tabulate_at (placed_at n m (directed_faults n m grid directions)) 1024 p 0 h ∙ rw i

  pub seat_low : (p : ℕ) → p ≤ 990 → seat n m (directed_faults n m grid directions) p < 1024
  seat_low p h = omega (arith, next_low p (through n m (directed_faults n m grid directions) p))
