-- Where a number is read, its own bytes stand, and it is below the limit of its groups.
-- Assumes nothing.
use Prim.Native.Nat.{ℕ, zero, suc, ◌+◌, ◌-◌, ◌*◌, ◌/◌, ◌%◌, ◌<◌, ◌≤◌}
use mathlib.Core.Path.{◌≡◌, refl, sym, ap, ◌∙◌}
use mathlib.Core.List.{List, ◌∷◌, ◌++◌}
use native.Mathlib.Omega.{arith}
use lib.ListN.{length, get_or, drop}
use lib.Seq.{drop-cons}
use Rattle.array.proofs.Bools.{by_eq, by_lt}
use Rattle.array.specs.declared.Refusal.{Refusal}
use Rattle.formats.specs.Number.{Number, Bytes, groups_limit, with_low, groups_at, number_at, groups_of, bytes_of}
use Rattle.std.specs.Prelude.{Ok, Err}
use Rattle.formats.proofs.Answers.{ok_parts}
use Rattle.formats.proofs.Cases.{no_group, one_group_low, ended, last_group, low_group, rest_refused, rest_zero, rest_read, group_one, group_more}

module _ (s : List ℕ) (bytes : Bytes s) (start : ℕ) where
  -- at most k groups that are read at an offset as v
  record Stood (k at v next : ℕ) : Type 0 where
    stands : drop at s ≡ groups_of k v ++ drop next s
    below : v < groups_limit k

  no : {A : Type 0} {x : Number} {r : Refusal} {v next : ℕ} → x ≡ Err r → x ≡ Ok (v, next) → A
  no e q = absurd (let z : ◌≡◌ {A = ℕ} 0 1 = cc (sym e ∙ q) in omega arith)

  module _ (k at v next : ℕ) (h : at < length s) where
    abbrev low : ℕ
    low = get_or s at 0

    here : drop at s ≡ low ∷ drop (at + 1) s
    here = let e : suc at ≡ at + 1 = omega arith in rw e at (drop-cons s at 0 h)

    last_stood : low < 128 → ◌≡◌ {A = Number} (Ok (low, at + 1)) (Ok (v, next)) → 128 ≤ groups_limit (suc k) → Stood (suc k) at v next
    last_stood l e w =
        let a : low ≡ v = (ok_parts e).0 in
        let b : at + 1 ≡ next = (ok_parts e).1 in
        record {
          stands =
              here
              ∙ ap (λ (j : ℕ). j ∷ drop (at + 1) s) a
              ∙ ap (λ (j : ℕ). v ∷ drop j s) b
              ∙ sym (ap (λ (l : List ℕ). l ++ drop next s) (group_one k v (omega arith)));
          below = omega arith;
        }

    more_stood :
        128 ≤ low →
        (u end : ℕ) →
        (u ≡ 0 → ⊥) →
        Stood k (at + 1) u end →
        ◌≡◌ {A = Number} (Ok (low - 128 + 128 * u, end)) (Ok (v, next)) →
        Stood (suc k) at v next
    more_stood l u end z t e =
        let a : low - 128 + 128 * u ≡ v = (ok_parts e).0 in
        let b : end ≡ next = (ok_parts e).1 in
        let i : low < 256 = bytes at h in
        let x : low ≡ 128 + v % 128 = omega arith in
        let y : u ≡ v / 128 = omega arith in
        let w : u < groups_limit k = t.below in
        record {
          stands =
              here
              ∙ ap (λ (r : List ℕ). low ∷ r) t.stands
              ∙ ap (λ (j : ℕ). j ∷ (groups_of k u ++ drop end s)) x
              ∙ ap (λ (j : ℕ). (128 + v % 128) ∷ (groups_of k j ++ drop end s)) y
              ∙ ap (λ (j : ℕ). (128 + v % 128) ∷ (groups_of k (v / 128) ++ drop j s)) b
              ∙ sym (ap (λ (l : List ℕ). l ++ drop next s) (group_more k v (omega arith)));
          below = omega arith;
        }

  groups_stood : (k at v next : ℕ) → groups_at s start k at ≡ Ok (v, next) → Stood k at v next
  groups_stood zero at v next q = no (no_group s start at) q
  groups_stood (suc k) at v next q =
      by_lt at (length s)
      (λ h.
      by_lt (get_or s at 0) 128
      (λ l. last_stood k at v next h l (sym (last_group s start k at h l) ∙ q) (one_group_low k))
      (λ l. by_rest (groups_stood k (at + 1)) (sym (low_group s start k at h l) ∙ q) h l (groups_at s start k (at + 1)) refl))
      (λ h. no (ended s start k at h) q)
    where
      by_rest :
          ((u end : ℕ) → groups_at s start k (at + 1) ≡ Ok (u, end) → Stood k (at + 1) u end) →
          with_low start (get_or s at 0 - 128) (groups_at s start k (at + 1)) ≡ Ok (v, next) →
          at < length s →
          128 ≤ get_or s at 0 →
          (x : Number) →
          groups_at s start k (at + 1) ≡ x →
          Stood (suc k) at v next
      by_rest on p h l (Err r) e = no (rest_refused start _ r e) p
      by_rest on p h l (Ok (u, end)) e =
          by_eq u 0
          (λ z. no (rest_zero start _ u end e z) p)
          (λ z. more_stood k at v next h l u end z (on u end e) (sym (rest_read start _ u end e z) ∙ p))

module _ (s : List ℕ) (bytes : Bytes s) (at v next : ℕ) (q : number_at s at ≡ Ok (v, next)) where
  pub number_stands : drop at s ≡ bytes_of v ++ drop next s
  unfolding bytes_of
  number_stands = (groups_stood s bytes at 3 at v next q).stands

  pub number_below : v < 2097152
  number_below = (groups_stood s bytes at 3 at v next q).below
