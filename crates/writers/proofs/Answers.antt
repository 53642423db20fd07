-- `told` loses nothing of a writer's answer.
-- Assumes nothing.
use Prim.Native.Nat.{ℕ}
use mathlib.Core.Path.{◌≡◌, ap}
use native.Mathlib.Omega.{arith}
use Rattle.array.specs.Tests.{LosesNothing}
use Rattle.array.proofs.Answers.{refusal_kept}
use Rattle.writers.specs.Writing.{told}
use Rattle.std.specs.Prelude.{Ok, Err}

pub written_kept : LosesNothing told
written_kept (Ok k) (Ok j) h = ap Ok (cc)
written_kept (Ok k) (Err s) h = let z : ◌≡◌ {A = ℕ} 0 1 = cc in absurd (omega arith)
written_kept (Err r) (Ok j) h = let z : ◌≡◌ {A = ℕ} 0 1 = cc in absurd (omega arith)
written_kept (Err r) (Err s) h = ap Err (refusal_kept r s h)
