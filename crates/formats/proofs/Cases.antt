-- The groups of a number and its bytes by their cases: one law for each answer, whatever number of groups is allowed.
-- Assumes nothing.
use Prim.Native.Nat.{ℕ, zero, suc, ◌+◌, ◌-◌, ◌*◌, ◌/◌, ◌%◌, ◌<◌, ◌≤◌}
use mathlib.Core.Path.{◌≡◌, refl, sym, ap, ◌∙◌}
use mathlib.Core.List.{List, [], ◌∷◌}
use native.Mathlib.Omega.{arith}
use lib.ListN.{length, get_or}
use borrow.Author.Tests.{le-leb, lt-leb, lt-ltb, le-ltb, eq-eqb, ne_eqb}
use Rattle.array.proofs.Bools.{by_lt}
use Rattle.formats.specs.Number.{refused, groups_limit, with_low, groups_at, groups_of, bytes_of}
use Rattle.formats.specs.Number.{Number}
use Rattle.std.specs.Prelude.{Ok, Err}
use Rattle.array.specs.declared.Refusal.{Refusal}

module _ (s : List ℕ) (start : ℕ) where
  pub no_group : (at : ℕ) → groups_at s start 0 at ≡ refused 9 start
  unfolding groups_at
  no_group at = refl

  module _ (k at : ℕ) where
    pub ended : length s ≤ at → groups_at s start (suc k) at ≡ refused 8 (length s)
    unfolding groups_at
    ended h = rw (le-leb _ _ h)

    pub last_group : at < length s → get_or s at 0 < 128 → groups_at s start (suc k) at ≡ Ok (get_or s at 0, at + 1)
    unfolding groups_at
    last_group h l = rw (lt-leb _ _ h, lt-ltb _ _ l)

    pub low_group :
        at < length s →
        128 ≤ get_or s at 0 →
        groups_at s start (suc k) at ≡ with_low start (get_or s at 0 - 128) (groups_at s start k (at + 1))
    unfolding groups_at
    low_group h l = rw (lt-leb _ _ h, le-ltb _ _ l)

-- what k groups may reach
pub one_group_low : (k : ℕ) → 128 ≤ groups_limit (suc k)
one_group_low zero = omega arith
one_group_low (suc k) = let h = one_group_low k in omega arith

pub two_groups_high : (k : ℕ) → k ≤ 2 → groups_limit k ≤ 16384
two_groups_high zero h = omega arith
two_groups_high (suc zero) h = omega arith
two_groups_high (suc (suc zero)) h = omega arith
two_groups_high (suc (suc (suc k))) h = absurd (omega arith)

-- a low group before what follows it
module _ (start low : ℕ) {x : Number} where
  pub rest_refused : (r : Refusal) → x ≡ Err r → with_low start low x ≡ Err r
  rest_refused r e = rw e

  module _ (v next : ℕ) (e : x ≡ Ok (v, next)) where
    pub rest_zero : v ≡ 0 → with_low start low x ≡ refused 9 start
    rest_zero z = rw (e, eq-eqb v 0 z)

    pub rest_read : (v ≡ 0 → ⊥) → with_low start low x ≡ Ok (low + 128 * v, next)
    rest_read z = rw (e, ne_eqb v 0 z)

-- the bytes of a number
module _ (k v : ℕ) where
  pub group_one : v < 128 → groups_of (suc k) v ≡ v ∷ []
  unfolding groups_of
  group_one h = rw (lt-ltb _ _ h)

  pub group_more : 128 ≤ v → groups_of (suc k) v ≡ (128 + v % 128) ∷ groups_of k (v / 128)
  unfolding groups_of
  group_more h = rw (le-ltb _ _ h)

-- more groups than a number has make no difference
pub groups_enough : (k v : ℕ) → v < groups_limit (suc k) → groups_of (suc (suc k)) v ≡ groups_of (suc k) v
groups_enough zero v h = group_one 1 v (omega arith) ∙ sym (group_one 0 v (omega arith))
groups_enough (suc k) v h =
    by_lt v 128
    (λ l. group_one (suc (suc k)) v l ∙ sym (group_one (suc k) v l))
    (λ l.
    group_more (suc (suc k)) v l
    ∙ ap (λ (r : List ℕ). (128 + v % 128) ∷ r) (groups_enough k (v / 128) (omega arith))
    ∙ sym (group_more (suc k) v l))

pub bytes_one : (v : ℕ) → v < 128 → bytes_of v ≡ v ∷ []
unfolding bytes_of
bytes_one v h = group_one 2 v h

pub bytes_more : (v : ℕ) → 128 ≤ v → v < 2097152 → bytes_of v ≡ (128 + v % 128) ∷ bytes_of (v / 128)
unfolding bytes_of
bytes_more v h l =
    group_more 2 v h ∙ ap (λ (r : List ℕ). (128 + v % 128) ∷ r) (sym (groups_enough 1 (v / 128) (omega arith)))

-- how many bytes a number takes
pub one_byte : (v : ℕ) → v < 128 → length (bytes_of v) ≡ 1
one_byte v h = ap length (bytes_one v h)

pub two_bytes : (v : ℕ) → 128 ≤ v → v < 16384 → length (bytes_of v) ≡ 2
unfolding bytes_of
two_bytes v h l = ap length (group_more 2 v h) ∙ ap (λ (r : List ℕ). suc (length r)) (group_one 1 (v / 128) (omega arith))

pub three_bytes : (v : ℕ) → 16384 ≤ v → length (bytes_of v) ≡ 3
unfolding bytes_of groups_of
three_bytes v h =
    let last : (u : ℕ) → length (groups_of 1 u) ≡ 1 =
    λ u. by_lt u 128 (λ l. ap length (group_one 0 u l)) (λ l. ap length (group_more 0 u l)) in
    ap length (group_more 2 v (omega arith))
    ∙ ap (λ (r : List ℕ). suc (length r)) (group_more 1 (v / 128) (omega arith))
    ∙ ap (λ (k : ℕ). suc (suc k)) (last (v / 128 / 128))
