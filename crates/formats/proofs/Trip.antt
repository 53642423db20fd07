-- A number that is written is read back, whatever stands before and behind.
-- Assumes nothing.
use Prim.Native.Nat.{ℕ, zero, suc, ◌+◌, ◌-◌, ◌/◌, ◌%◌, ◌<◌, ◌≤◌}
use mathlib.Core.Path.{◌≡◌, ap, ◌∙◌}
use mathlib.Core.List.{List, [], ◌∷◌, ◌++◌}
use native.Mathlib.Omega.{arith}
use lib.ListN.{length, get_or, length-append}
use lib.Seq.{get_or-append_seam, append_snoc}
use Rattle.array.proofs.Bools.{by_lt}
use Rattle.formats.specs.Number.{groups_limit, groups_at, number_at, groups_of, bytes_of}
use Rattle.std.specs.Prelude.{Ok}
use Rattle.formats.proofs.Cases.{last_group, low_group, rest_read, group_one, group_more}

-- the same for the groups of a number that begins at `start`
module _ (q : List ℕ) (start : ℕ) where
  abbrev Trip : ℕ → List ℕ → ℕ → Type 0
  Trip k p v = groups_at (p ++ (groups_of k v ++ q)) start k (length p) ≡ Ok (v, length p + length (groups_of k v))

  module _ (k : ℕ) (p : List ℕ) (v : ℕ) where
    one : v < 128 → Trip (suc k) p v
    one l =
        let e : get_or (p ++ v ∷ q) (length p) 0 ≡ v = get_or-append_seam p v q 0 in
        rw (group_one k v l)
        (last_group (p ++ v ∷ q) start k (length p) (omega (arith, length-append p (v ∷ q))) (omega arith) ∙ rw e)

    abbrev low : ℕ
    low = 128 + v % 128

    abbrev rest : List ℕ
    rest = groups_of k (v / 128)

    more : 128 ≤ v → Trip k (p ++ (low ∷ [])) (v / 128) → Trip (suc k) p v
    more l h =
        let s : List ℕ = p ++ low ∷ (rest ++ q) in
        let e : get_or s (length p) 0 ≡ low = get_or-append_seam p low (rest ++ q) 0 in
        let f : length (p ++ (low ∷ [])) ≡ length p + 1 = length-append p (low ∷ []) in
        let g : groups_at s start k (length p + 1) ≡ Ok (v / 128, length p + 1 + length rest) =
        rw (append_snoc p low (rest ++ q), f) at h in
        let i : length p + 1 + length rest ≡ length p + length (low ∷ rest) = omega arith in
        rw (group_more k v l)
        (low_group s start k (length p) (omega (arith, length-append p (low ∷ (rest ++ q)))) (omega arith)
        ∙ rest_read start (get_or s (length p) 0 - 128) (v / 128) _ g (λ z. omega arith)
        ∙ ap (λ (w : ℕ). Ok (w, length p + 1 + length rest)) (omega arith)
        ∙ ap (λ (w : ℕ). Ok (v, w)) i)

  groups_read : (k : ℕ) (p : List ℕ) (v : ℕ) → v < groups_limit (suc k) → Trip (suc k) p v
  groups_read zero p v h = one 0 p v (omega arith)
  groups_read (suc k) p v h =
      by_lt v 128 (one (suc k) p v)
      (λ l. more (suc k) p v l (groups_read k (p ++ (low (suc k) p v ∷ [])) (v / 128) (omega arith)))

pub read_written :
    (p : List ℕ) (v : ℕ) (q : List ℕ) →
    v < 2097152 →
    number_at (p ++ (bytes_of v ++ q)) (length p) ≡ Ok (v, length p + length (bytes_of v))
unfolding bytes_of
read_written p v q h = groups_read q (length p) 2 p v h

-- the same, with the file and the offsets as equations: the form to cite
pub read_at :
    (s p q : List ℕ) (v at next : ℕ) →
    s ≡ p ++ (bytes_of v ++ q) →
    at ≡ length p →
    next ≡ at + length (bytes_of v) →
    v < 2097152 →
    number_at s at ≡ Ok (v, next)
read_at s p q v at next es ea en h = rw (es, en, ea) (read_written p v q h)
