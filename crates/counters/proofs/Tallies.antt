-- Paths that come one by one: after the last of them each counter is its count made afresh.
-- Assumes nothing.
use Prim.Native.Nat.{ℕ, ◌+◌, ◌≤◌, ◌<◌}
use mathlib.Core.Path.{◌≡◌, refl, sym, ap, ◌∙◌}
use mathlib.Core.Bool.{Bool, true, false, cond}
use mathlib.Core.List.{List}
use native.Mathlib.Omega.{arith}
use native.Mathlib.Nat.{add-zero}
use borrow.Author.Tests.{lt-ltb}
use lib.ListN.{length, get_or, replicate}
use lib.Seq.{ext_get_or}
use Rattle.array.specs.Place.{inner}
use Rattle.array.specs.Buffer.{span, buffer, zeros}
use Rattle.array.proofs.Bools.{by_bool}
use Rattle.array.proofs.Fills.{tabulate_length, tabulate_at}
use Rattle.array.proofs.Counts.{Counting, count_start, count_take, count_skip, count_end}
use Rattle.counters.specs.Count.{counts, count_afresh, counters_afresh, altered_at, counters_after}
use Rattle.counters.specs.Inner.{Kept}

-- two buffers that agree at every position
pub buffer_same : (f g : ℕ → ℕ) → ((p : ℕ) → p < 1024 → f p ≡ g p) → buffer f ≡ buffer g
buffer_same f g h =
    let l = tabulate_length f 1024 in
    ext_get_or 0 (buffer f) (buffer g) (l ∙ sym (tabulate_length g 1024))
    (λ p a.
    let b : p < 1024 = omega (arith, a, l) in
    tabulate_at f 1024 p 0 b ∙ h p b ∙ sym (tabulate_at g 1024 p 0 b))

pub no_path_counts : (n m d p q : ℕ) → counts n m d p q 0 ≡ false
unfolding counts
no_path_counts n m d p q = refl

-- a new array is all 0
pub new_zeros : replicate 1024 0 ≡ zeros
unfolding span
new_zeros = refl

-- a counter that has the paths counted so far
abbrev so_far : ℕ → ℕ → (ℕ → ℕ) → ℕ → ℕ
so_far n m k p = cond (inner n m p) (k p) 0

-- The invariant at q: of each position p the paths that start before q and count are k p.
pub record Tallying (n m : ℕ) (directions : List ℕ) (d q : ℕ) (counters : List ℕ) : Type 0 where
  pub k : ℕ → ℕ
  pub counted : (p : ℕ) → Counting (counts n m d p) directions q (k p)
  pub held : counters ≡ buffer (so_far n m k)

module _ {n m : ℕ} {directions : List ℕ} (kept : Kept n m directions) (d : ℕ) where
  pub tally_zeros : {counters : List ℕ} → counters ≡ zeros → Tallying n m directions d 0 counters
  tally_zeros h =
      record {
        k = λ p. 0;
        counted = λ p. count_start (counts n m d p) directions;
        held = h ∙ buffer_same _ _ (λ p l. by_bool (inner n m p) (λ i. rw i) (λ i. rw i));
      }

  pub tally_start : Tallying n m directions d 0 (replicate 1024 0)
  tally_start = tally_zeros new_zeros

  module _ {q : ℕ} {counters : List ℕ} (s : Tallying n m directions d q counters) (below : q < 1024) where
    long : q < length directions
    long = omega (arith, kept.long)

    -- no path starts at q
    pub tally_skip : get_or directions q 0 ≡ 0 → Tallying n m directions d (q + 1) counters
    tally_skip z =
        record {
          k = s.k;
          counted = λ p.
              count_skip (s.counted p) long refl (ap (counts n m d p q) z ∙ no_path_counts n m d p q);
          held = s.held;
        }

    abbrev there : ℕ → Bool
    there p = counts n m d p q (get_or directions q 0)

    abbrev more : ℕ → ℕ
    more p = s.k p + cond (there p) 1 0

    further : (p : ℕ) → Counting (counts n m d p) directions (q + 1) (more p)
    further p =
        by_bool (there p) (λ h. rw h (count_take (s.counted p) long refl h))
        (λ h. rw (h, add-zero (s.k p)) (count_skip (s.counted p) long refl h))

    -- below 255 before the last path
    low : (p : ℕ) → there p ≡ true → s.k p < 255
    low p h =
        let a = count_take (s.counted p) long refl h in
        let f = kept.few d p in
        omega (arith, a.all, f)

    altered : (p : ℕ) → p < 1024 → altered_at n m true q (get_or directions q 0) d counters p ≡ so_far n m more p
    altered p l =
        let at = ap (λ (b : List ℕ). get_or b p 0) s.held ∙ tabulate_at (so_far n m s.k) 1024 p 0 l in
        by_bool (inner n m p)
        (λ i.
        let here : get_or counters p 0 ≡ s.k p = at ∙ rw i in
        by_bool (there p) (λ h. rw (i, h, here, lt-ltb (s.k p) 255 (low p h)))
        (λ h. rw (i, h, here) (sym (add-zero (s.k p)))))
        (λ i.
        let here : get_or counters p 0 ≡ 0 = at ∙ rw i in
        rw (i, here))

    -- the path that starts at q comes
    pub tally_take : {new : List ℕ} → new ≡ counters_after n m true q (get_or directions q 0) d counters
        → Tallying n m directions d (q + 1) new
    unfolding counters_after
    tally_take h = record { k = more; counted = further; held = h ∙ buffer_same _ _ altered }

  pub tally_end : {q : ℕ} {counters : List ℕ} → Tallying n m directions d q counters → 1024 ≤ q
      → counters ≡ counters_afresh n m directions d
  unfolding count_afresh
  tally_end s h =
      s.held
      ∙ buffer_same _ _
      (λ p l.
      ap (λ (x : ℕ). cond (inner n m p) x 0) (count_end (s.counted p) (omega (arith, kept.long))))
