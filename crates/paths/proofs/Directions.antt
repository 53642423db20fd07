-- A direction byte is one of the four directions, or none of them.
-- Assumes nothing.
use mathlib.Core.Path.{◌≡◌}
use mathlib.Core.Bool.{false}
use Prim.Native.Nat.{ℕ}
use borrow.Author.Tests.{eqb-true}
use lib.Dec.{eqb}
use Rattle.array.proofs.Bools.{by_bool}

-- what holds of each of the four, and of any other number
pub by_number : (P : ℕ → Type 0) (d : ℕ) → P 1 → P 2 → P 3 → P 4
    → (eqb d 1 ≡ false → eqb d 2 ≡ false → eqb d 3 ≡ false → eqb d 4 ≡ false → P d) → P d
by_number P d south north east west other =
    by_bool (eqb d 1) (λ h. rw (eqb-true d 1 h) south)
    (λ a. by_bool (eqb d 2) (λ h. rw (eqb-true d 2 h) north)
    (λ b. by_bool (eqb d 3) (λ h. rw (eqb-true d 3 h) east)
    (λ c. by_bool (eqb d 4) (λ h. rw (eqb-true d 4 h) west) (λ e. other a b c e))))
