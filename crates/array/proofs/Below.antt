-- A test of every number below a bound, which the checker computes, and what it says of each.
-- Assumes nothing.
use mathlib.Core.Path.{◌≡◌, subst, sym}
use mathlib.Core.Bool.{Bool, true, ◌&&◌}
use Prim.Native.Nat.{ℕ, zero, suc, ◌<◌}
use native.Mathlib.Omega.{arith}
use Rattle.array.proofs.Bools.{and_true, by_eq}

abbrev pub all_below : (ℕ → Bool) → ℕ → Bool
all_below f zero = true
all_below f (suc n) = f n && all_below f n

pub passes_below : (f : ℕ → Bool) (n k : ℕ) → all_below f n ≡ true → k < n → f k ≡ true
passes_below f zero k h l = absurd (omega arith)
passes_below f (suc n) k h l =
    let a = and_true (f n) (all_below f n) h in
    by_eq k n (λ e. subst (λ (i : ℕ). f i ≡ true) (sym e) a.0) (λ ne. passes_below f n k a.1 (omega arith))
