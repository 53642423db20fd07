-- A south path is clear of every open path from an earlier fault: what it passes lies below that fault, and the fault itself would block it.
-- Assumes nothing.
use mathlib.Core.Path.{◌≡◌, refl}
use mathlib.Core.Bool.{true, false}
use mathlib.Core.List.{List}
use Prim.Native.Nat.{ℕ, ◌<◌, ◌≤◌}
use native.Mathlib.Omega.{arith}
use borrow.Author.Tests.{le-ltb}
use lib.Dec.{eqb}
use Rattle.array.specs.Place.{row, column}
use Rattle.array.specs.Map.{faulty}
use Rattle.array.proofs.Bools.{by_bool, and_none}
use Rattle.array.proofs.Places.{Inner}
use Rattle.paths.specs.Path.{difference, path, meet, near_miss, is_open, clear, Start}
use Rattle.paths.proofs.Ways.{Way, south, north, east, west, start_way, start_inner}
use Rattle.paths.proofs.Meeting.{Box, share_elim, on_path_box, box_on_path}
use Rattle.paths.proofs.Opens.{open_alone}
use Rattle.paths.proofs.Clashes.{neither_clear}

-- where the two share z, the later start lies on the earlier path
shared_start : (n m p d q z : ℕ) → Way d → Inner n m p → Inner n m q → p < q → Box n m p d z → Box n m q 1 z → Box n m p d q
shared_start n m p d q z south i j l a b =
    record { from_top = omega arith; to_bottom = omega arith; from_west = omega arith; to_east = omega arith }
shared_start n m p d q z north i j l a b =
    record { from_top = omega arith; to_bottom = omega arith; from_west = omega arith; to_east = omega arith }
shared_start n m p d q z east i j l a b =
    record { from_top = omega arith; to_bottom = omega arith; from_west = omega arith; to_east = omega arith }
shared_start n m p d q z west i j l a b =
    record { from_top = omega arith; to_bottom = omega arith; from_west = omega arith; to_east = omega arith }

not_near : (p d q : ℕ) → Way d → row p ≤ row q → near_miss p d q 1 ≡ false
unfolding near_miss
not_near p d q south h = refl
not_near p d q north h = rw (le-ltb (row q) (row p) h, and_none (eqb (difference (column q) (column p)) 1))
not_near p d q east h = refl
not_near p d q west h = refl

pub open_clear_south : (n m p d q : ℕ) (grid : List ℕ) → Start n m p d → Start n m q 1 → is_open n m grid p d ≡ true
    → faulty grid q ≡ true → p < q → clear n m p d q 1 ≡ true
unfolding meet
open_clear_south n m p d q grid s t o f l =
    neither_clear n m p d q 1 (by_bool (meet n m p d q 1) (λ h. absurd (apart h)) (λ h. h)) (not_near p d q (start_way s) (omega arith))
  where
    apart : meet n m p d q 1 ≡ true → ⊥
    apart h =
        let z = share_elim (path n m p d) (path n m q 1) h in
        let a = on_path_box n m s.rows s.columns p d z.q (start_way s) (start_inner s) z.left in
        let b = on_path_box n m s.rows s.columns q 1 z.q south (start_inner t) z.right in
        let c = shared_start n m p d q z.q (start_way s) (start_inner s) (start_inner t) l a b in
        let e = open_alone n m p d q grid (start_way s) o (box_on_path n m s.rows s.columns p d q (start_way s) (start_inner s) c) f in
        omega (arith, e)
