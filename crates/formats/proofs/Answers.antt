-- `told` loses nothing of a number's answer; the promise of a reader or writer, from what its call answers.
-- Assumes nothing.
use Prim.Native.Nat.{ℕ}
use mathlib.Core.Path.{◌≡◌, ap}
use mathlib.Core.List.{List}
use native.Mathlib.Omega.{arith}
use Rattle.array.specs.Tests.{Told, LosesNothing}
use Rattle.array.proofs.Answers.{refusal_kept}
use Rattle.formats.specs.Number.{Number, told}
use Rattle.std.specs.Prelude.{Result, Ok, Err}

-- the parts of two pairs that are answered alike
pub ok_parts : {A B E : Type 0} {a c : A} {b d : B} → ◌≡◌ {A = Result (A × B) E} (Ok (a, b)) (Ok (c, d)) → (a ≡ c) × (b ≡ d)
ok_parts {A} {B} {E} {a} {c} {b} {d} e =
    let z : ◌≡◌ {A = A × B} (a, b) (c, d) = cc e in (ap (λ (x : A × B). x.0) z, ap (λ (x : A × B). x.1) z)

same_read : (v w a b : ℕ) → v ≡ w → a ≡ b → ◌≡◌ {A = Number} (Ok (v, a)) (Ok (w, b))
same_read v w a b e f = rw (e, f)

pub number_kept : LosesNothing told
number_kept (Ok (v, a)) (Ok (w, b)) h = same_read _ _ _ _ (cc) (cc)
number_kept (Ok (v, a)) (Err s) h =
    let z : ◌≡◌ {A = ℕ} 0 1 = cc in absurd (omega arith)
number_kept (Err r) (Ok (w, b)) h =
    let z : ◌≡◌ {A = ℕ} 0 1 = cc in absurd (omega arith)
number_kept (Err r) (Err s) h = ap Err (refusal_kept r s h)

-- an answer and a buffer, given together, each by its own equation
pub answered :
    {A : Type 0} (tell : A → Told) {r : A} {b : List ℕ} {x : A × List ℕ} → (r, b) ≡ x → (tell r ≡ tell x.0) × (b ≡ x.1)
answered {A} tell e = (ap (λ (y : A × List ℕ). tell y.0) e, ap (λ (y : A × List ℕ). y.1) e)
