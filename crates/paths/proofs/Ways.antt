-- The four directions as cases, and what a start says.
-- Assumes nothing.
use mathlib.Core.Path.{◌≡◌}
use Prim.Native.Nat.{ℕ, zero, suc, ◌≤◌}
use native.Mathlib.Omega.{arith}
use Rattle.array.proofs.Places.{Inner, inner_holds}
use Rattle.paths.specs.Path.{Start}

pub data Way : ℕ → Type 0 where
  south : Way 1
  north : Way 2
  east : Way 3
  west : Way 4

pub way : (d : ℕ) → 1 ≤ d → d ≤ 4 → Way d
way zero l h = absurd (omega arith)
way (suc zero) l h = south
way (suc (suc zero)) l h = north
way (suc (suc (suc zero))) l h = east
way (suc (suc (suc (suc zero)))) l h = west
way (suc (suc (suc (suc (suc d))))) l h = absurd (omega arith)

-- the row and the column of a start
pub start_inner : {n m p d : ℕ} → Start n m p d → Inner n m p
start_inner {n} {m} {p} s = inner_holds n m p s.at

pub start_way : {n m p d : ℕ} → Start n m p d → Way d
start_way {d = d} s = way d s.low s.high

-- a direction that is none of the first three is west
pub west_left : {n m p d : ℕ} → Start n m p d → (d ≡ 1 → ⊥) → (d ≡ 2 → ⊥) → (d ≡ 3 → ⊥) → d ≡ 4
west_left s a b c = omega (arith, s.low, s.high, a, b, c)
