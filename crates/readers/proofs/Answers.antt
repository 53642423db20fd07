-- `told` and `told_map` lose nothing of a reader's answer.
-- Assumes nothing.
use Prim.Native.Nat.{ℕ}
use mathlib.Core.Path.{◌≡◌, refl, ap}
use native.Mathlib.Omega.{arith}
use Rattle.array.specs.Tests.{LosesNothing}
use Rattle.array.proofs.Answers.{refusal_kept}
use Rattle.readers.specs.Reading.{FileRead, told, told_map, map_of}
use Rattle.readers.specs.declared.Head.{Head}
use Rattle.std.specs.Prelude.{Ok, Err}

abbrev head_of : ℕ → ℕ → ℕ → Head
head_of n m k = record { rows = n; columns = m; count = k }

same_file :
    (n n' m m' k k' t t' : ℕ) →
    n ≡ n' →
    m ≡ m' →
    k ≡ k' →
    t ≡ t' →
    ◌≡◌ {A = FileRead} (Ok (head_of n m k, t)) (Ok (head_of n' m' k', t'))
same_file n n' m m' k k' t t' a b d e = rw (a, b, d, e)

pub read_kept : LosesNothing told
read_kept (Ok (h, t)) (Ok (g, u)) e = same_file _ _ _ _ _ _ _ _ (cc) (cc) (cc) (cc)
read_kept (Ok (h, t)) (Err s) e = let z : ◌≡◌ {A = ℕ} 0 1 = cc in absurd (omega arith)
read_kept (Err r) (Ok (g, u)) e = let z : ◌≡◌ {A = ℕ} 0 1 = cc in absurd (omega arith)
read_kept (Err r) (Err s) e = ap Err (refusal_kept r s e)

pub map_kept : LosesNothing told_map
map_kept (Ok h) (Ok g) e =
    ap map_of (same_file _ _ _ _ _ _ 0 0 (cc) (cc) (cc) refl)
map_kept (Ok h) (Err s) e = let z : ◌≡◌ {A = ℕ} 0 1 = cc in absurd (omega arith)
map_kept (Err r) (Ok g) e = let z : ◌≡◌ {A = ℕ} 0 1 = cc in absurd (omega arith)
map_kept (Err r) (Err s) e = ap Err (refusal_kept r s e)
