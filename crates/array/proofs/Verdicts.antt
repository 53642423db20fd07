-- Laws of tests in order: at a refusal, past it, and what an accepted call says of its tests.
-- Assumes nothing.
use mathlib.Core.Path.{◌≡◌, refl, sym, ap, ◌∙◌}
use mathlib.Core.Bool.{Bool, true, false, not, cond}
use mathlib.Core.List.{List}
use Prim.Native.Nat.{ℕ}
use native.Mathlib.Omega.{arith}
use Rattle.array.specs.Tests.{or_else, refuse_if}
use Rattle.array.specs.Buffer.{written}
use Rattle.array.specs.declared.Refusal.{Refusal}
use Rattle.array.specs.Tests.{Verdict}
use Rattle.std.specs.Prelude.{Result, Ok, Err, IsErrAnd}

-- The first of the tests is a Bool, which a callee answered as r.
module _ {b r : Bool} (e : r ≡ b) where
  pub test_refuses : {f : Refusal} (later : Verdict) → r ≡ true → Err f ≡ or_else (cond b (Err f) (Ok tt)) later
  test_refuses {f} later t = ap (λ (z : Bool). or_else (cond z (Err f) (Ok tt)) later) (sym t ∙ e)

  pub test_passes : (k p q : ℕ) {v later : Verdict} → r ≡ false → v ≡ later → v ≡ or_else (refuse_if b k p q) later
  test_passes k p q {v} {later} t h = h ∙ ap (λ (z : Bool). or_else (refuse_if z k p q) later) (sym t ∙ e)

-- The same where the test answers a verdict v, which t defines.
module _ {v t : Verdict} (e : v ≡ t) (later : Verdict) where
  pub verdict_stops : {r : Refusal} → v ≡ Err r → v ≡ or_else t later
  verdict_stops h = h ∙ ap (λ (z : Verdict). or_else z later) (sym h ∙ e)

  pub verdict_passes : {w : Verdict} → v ≡ Ok tt → w ≡ later → w ≡ or_else t later
  verdict_passes h g = g ∙ ap (λ (z : Verdict). or_else z later) (sym h ∙ e)

-- What a `?` returns is the refusal that it met.
pub passed_on : {A B : Type 0} {r : A} (v : Result B A) → IsErrAnd v (λ s. s ≡ r) → v ≡ Err r
passed_on (Ok x) h = absurd h
passed_on (Err s) h = ap Err h

-- What an accepted call says of its tests, and the other way round.
pub both_accepted : (a b : Verdict) → or_else a b ≡ Ok tt → (a ≡ Ok tt) × (b ≡ Ok tt)
both_accepted (Ok tt) b h = (refl, h)
both_accepted (Err r) b h = let z : ◌≡◌ {A = ℕ} 0 1 = cc in absurd (omega arith)

pub accept_both : {a b : Verdict} → a ≡ Ok tt → b ≡ Ok tt → or_else a b ≡ Ok tt
accept_both h g = rw (h, g)

pub accepted_false : (b : Bool) (k p q : ℕ) → refuse_if b k p q ≡ Ok tt → b ≡ false
accepted_false false k p q h = refl
accepted_false true k p q h = let z : ◌≡◌ {A = ℕ} 0 1 = cc in absurd (omega arith)

pub false_accepted : {b : Bool} (k p q : ℕ) → b ≡ false → refuse_if b k p q ≡ Ok tt
false_accepted k p q h = ap (λ (z : Bool). refuse_if z k p q) h

pub accepted_not : (b : Bool) (k p q : ℕ) → refuse_if (not b) k p q ≡ Ok tt → b ≡ true
accepted_not true k p q h = refl
accepted_not false k p q h = let z : ◌≡◌ {A = ℕ} 0 1 = cc in absurd (omega arith)

-- A buffer that a call writes only where its test v, which t defines, is accepted.
module _ {v t : Verdict} (e : v ≡ t) (new old : List ℕ) where
  pub kept_refused : {r : Refusal} → v ≡ Err r → old ≡ written t new old
  kept_refused h = ap (λ (w : Verdict). written w new old) (sym h ∙ e)

  pub written_accepted : {now : List ℕ} → v ≡ Ok tt → now ≡ new → now ≡ written t new old
  written_accepted h n = n ∙ ap (λ (w : Verdict). written w new old) (sym h ∙ e)
