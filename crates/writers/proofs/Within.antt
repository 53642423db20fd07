-- A length that a writer answers is within its buffer.
-- Assumes nothing.
use Prim.Native.Nat.{ℕ, ◌≤◌}
use mathlib.Core.Path.{◌≡◌, sym, ap, ◌∙◌}
use mathlib.Core.List.{List}
use native.Mathlib.Omega.{arith}
use lib.ListN.{length}
use Rattle.array.specs.Tests.{or_else, refusal}
use Rattle.array.specs.declared.Refusal.{Refusal}
use Rattle.array.specs.Tests.{Verdict}
use Rattle.array.proofs.Bools.{by_lt}
use Rattle.writers.specs.Writing.{told, room_test, put, FileWritten}
use Rattle.writers.proofs.Accepted.{put_short, put_stored}
use Rattle.std.specs.Prelude.{Ok, Err}

never_both : (k : ℕ) (r : Refusal) → told (Ok k) ≡ told (Err r) → ⊥
never_both k r h = let z : ◌≡◌ {A = ℕ} 0 1 = cc in omega arith

module _ (bytes out : List ℕ) (r : FileWritten) (k : ℕ) (h : r ≡ Ok k) where
  pub put_within : (v : Verdict) → told r ≡ told (put (or_else v (room_test bytes out)) bytes out).0 → k ≤ length out
  put_within (Ok tt) e =
      by_lt (length out) (length bytes)
      (λ l.
      absurd (never_both k (refusal 14 (length bytes) 0)
      (ap told (sym h) ∙ e ∙ ap (λ (x : FileWritten × List ℕ). told x.0) (put_short bytes out l))))
      (λ l.
      let f : told (Ok k) ≡ told (Ok (length bytes)) =
      ap told (sym h) ∙ e ∙ ap (λ (x : FileWritten × List ℕ). told x.0) (put_stored bytes out l) in
      let g : k ≡ length bytes = cc in
      omega arith)
  put_within (Err q) e = absurd (never_both k q (ap told (sym h) ∙ e))

  -- after two tests
  pub two_within : (v w : Verdict) → told r ≡ told (put (or_else v (or_else w (room_test bytes out))) bytes out).0 → k ≤ length out
  two_within (Ok tt) w e = put_within w e
  two_within (Err q) w e = put_within (Err q) e
