use Rattle.std.proofs.Common.{◌≡◌, refl, ◌∙◌, ℕ, zero, suc, ◌≤◌, arith}
use Rattle.track.specs.Ports.{N–S, W–E, fault_joins}
use Rattle.track.specs.declared.ports.Compass.{Compass}
use Rattle.track.proofs.ports.Compass.by_direction.Goals as goal

vertical : (d : ℕ) (s : Compass) → 1 ≤ d → d ≤ 2 → N–S s ≡ fault_joins d s
vertical zero s a b = absurd (omega arith)
vertical (suc zero) s a b = refl
vertical (suc (suc zero)) s a b = refl
vertical (suc (suc (suc d))) s a b = absurd (omega arith)

horizontal : (d : ℕ) (s : Compass) → 3 ≤ d → d ≤ 4 → W–E s ≡ fault_joins d s
horizontal (suc (suc (suc zero))) s a b = refl
horizontal (suc (suc (suc (suc zero)))) s a b = refl
horizontal zero s a b = absurd (omega arith)
horizontal (suc zero) s a b = absurd (omega arith)
horizontal (suc (suc zero)) s a b = absurd (omega arith)
horizontal (suc (suc (suc (suc (suc d))))) s a b = absurd (omega arith)

pub returns-in-1 : goal.returns-in-1
returns-in-1 c = c.along_column.ensures ∙ vertical c.args.direction c.args.self (omega arith) (omega arith)

pub returns-in-3 : goal.returns-in-3
returns-in-3 c = c.along_row.ensures ∙ horizontal c.args.direction c.args.self (omega arith) (omega arith)
