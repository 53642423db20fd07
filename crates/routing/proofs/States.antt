-- The laws of the routing states that both kinds of switch share.
-- Assumes nothing.
use mathlib.Core.Path.{◌≡◌, refl}
use mathlib.Core.Bool.{Bool, true, false, cond}
use Prim.Native.Nat.{ℕ, ◌≤◌}
use native.Mathlib.Omega.{arith}
use lib.Dec.{eqb}
use Rattle.paths.proofs.Directions.{by_number}
use Rattle.track.specs.Letters.{vertical, horizontal}
use Rattle.routing.specs.declared.Switch.{Switch}
use Rattle.routing.specs.declared.Switch.TheVariants.{Across, Down}
use Rattle.routing.specs.Inner.{transposed, state}

-- the horizontal state is the vertical one with the grid transposed
pub transposed_state : (d : ℕ) (fault : Bool) → vertical (transposed d) fault ≡ horizontal d fault
transposed_state d fault =
    by_number (λ z. vertical (transposed z) fault ≡ horizontal z fault) d refl refl refl refl (λ a b c e. simp (a, b, c, e))

low_choice : (a b fault : Bool) → cond a (cond fault 2 1) (cond b (cond fault 3 4) 0) ≤ 4
low_choice true b true = omega arith
low_choice true b false = omega arith
low_choice false true true = omega arith
low_choice false true false = omega arith
low_choice false false fault = omega arith

pub state_low : (switch : Switch) (d : ℕ) (fault : Bool) → state switch d fault ≤ 4
state_low Down d fault = low_choice (eqb d 3) (eqb d 4) fault
state_low Across d fault = low_choice (eqb d 1) (eqb d 2) fault
