-- A count of passing elements where one element changes, and what that makes of the counters.
-- Assumes nothing.
use Prim.Native.Nat.{ℕ, zero, suc, ◌+◌, ◌<◌}
use mathlib.Core.Path.{◌≡◌, sym, ◌∙◌}
use mathlib.Core.Bool.{Bool, true, false, cond}
use mathlib.Core.List.{List, [], ◌∷◌}
use native.Mathlib.Omega.{arith}
use native.Mathlib.Nat.{not-suc-le-zero, le_of_suc-le-suc, add-zero, zero-add, add-suc, suc-add}
use borrow.Author.Tests.{lt-ltb}
use lib.ListN.{length, get_or, set}
use Rattle.array.specs.Place.{inner}
use Rattle.array.specs.Buffer.{positions_along, positions_in}
use Rattle.array.proofs.Bools.{by_bool}
use Rattle.array.proofs.Fills.{tabulate_at}
use Rattle.counters.specs.Count.{counts, count_afresh, counters_afresh, altered_by, altered_at, counters_after}
use Rattle.counters.proofs.Tallies.{buffer_same}

-- 1 where a test passes
abbrev pub one : Bool → ℕ
one b = cond b 1 0

one_more : (i : ℕ) (b : Bool) (r : List ℕ) → length (cond b (i ∷ r) r) ≡ one b + length r
one_more i true r = omega arith
one_more i false r = omega arith

module _ (t : ℕ → ℕ → Bool) where
  along_set : (i : ℕ) (b : List ℕ) (p v : ℕ) → p < length b
      → length (positions_along t i (set b p v)) + one (t (i + p) (get_or b p 0))
      ≡ length (positions_along t i b) + one (t (i + p) v)
  unfolding positions_along
  along_set i [] p v h = absurd (not-suc-le-zero h)
  along_set i (x ∷ xs) zero v h =
      let z : i + 0 ≡ i = add-zero i in
      let a = one_more i (t i v) (positions_along t (suc i) xs) in
      let c = one_more i (t i x) (positions_along t (suc i) xs) in
      rw z (omega (arith, a, c))
  along_set i (x ∷ xs) (suc p) v h =
      let s : suc i + p ≡ i + suc p = suc-add i p ∙ sym (add-suc i p) in
      let r = rw s at (along_set (suc i) xs p v (le_of_suc-le-suc h)) in
      let a = one_more i (t i x) (positions_along t (suc i) xs) in
      let c = one_more i (t i x) (positions_along t (suc i) (set xs p v)) in
      omega (arith, r, a, c)

  pub count_set : (b : List ℕ) (p v : ℕ) → p < length b
      → length (positions_in t (set b p v)) + one (t p (get_or b p 0)) ≡ length (positions_in t b) + one (t p v)
  count_set b p v h = rw (zero-add p) at (along_set 0 b p v h)

up_right : (c : Bool) (x y : ℕ) → x < 255 → y ≡ x + one c → cond c (altered_by true x) x ≡ y
up_right true x y l e = rw (lt-ltb x 255 l) (sym e)
up_right false x y l e = omega arith

down_right : (c : Bool) (x y : ℕ) → x ≡ y + one c → cond c (altered_by false x) x ≡ y
down_right true x y e = omega arith
down_right false x y e = omega arith

module _ (n m d : ℕ) where
  -- how many count for p
  abbrev many : List ℕ → ℕ → ℕ
  many b p = length (positions_in (counts n m d p) b)

  pub inner_count : (b : List ℕ) (p : ℕ) → inner n m p ≡ true → count_afresh n m b d p ≡ many b p
  unfolding count_afresh
  inner_count b p i = rw i

  pub other_count : (b : List ℕ) (p : ℕ) → inner n m p ≡ false → count_afresh n m b d p ≡ 0
  unfolding count_afresh
  other_count b p i = rw i

  pub held_count : (b : List ℕ) (p : ℕ) → p < 1024 → get_or (counters_afresh n m b d) p 0 ≡ count_afresh n m b d p
  held_count b p l = tabulate_at (count_afresh n m b d) 1024 p 0 l

  -- the directions old, and new where the path from q in direction e has come or gone
  module _ (old new : List ℕ) (q e : ℕ) where
    module _ (up : Bool)
        (right : (p : ℕ) → cond (counts n m d p q e) (altered_by up (many old p)) (many old p) ≡ many new p) where
      at_position : (p : ℕ) → p < 1024 → altered_at n m up q e d (counters_afresh n m old d) p ≡ count_afresh n m new d p
      at_position p l =
          by_bool (inner n m p)
          (λ i. rw (i, held_count old p l, inner_count old p i) (right p) ∙ sym (inner_count new p i))
          (λ i. rw (i, held_count old p l, other_count old p i) (sym (other_count new p i)))

      counters_right : counters_after n m up q e d (counters_afresh n m old d) ≡ counters_afresh n m new d
      unfolding counters_after
      counters_right = buffer_same _ _ at_position

    pub counters_up : ((p : ℕ) → many old p < 255) → ((p : ℕ) → many new p ≡ many old p + one (counts n m d p q e))
        → counters_after n m true q e d (counters_afresh n m old d) ≡ counters_afresh n m new d
    counters_up few more =
        counters_right true (λ p. up_right (counts n m d p q e) (many old p) (many new p) (few p) (more p))

    pub counters_down : ((p : ℕ) → many old p ≡ many new p + one (counts n m d p q e))
        → counters_after n m false q e d (counters_afresh n m old d) ≡ counters_afresh n m new d
    counters_down less =
        counters_right false (λ p. down_right (counts n m d p q e) (many old p) (many new p) (less p))
