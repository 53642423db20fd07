-- Counters that are altered in place, and what the clash table says of whether a path counts.
-- Assumes nothing.
use Prim.Native.Nat.{ℕ, ◌+◌, ◌≤◌, ◌<◌}
use mathlib.Core.Path.{◌≡◌, refl, sym, ap, subst, ◌∙◌}
use mathlib.Core.Bool.{Bool, true, false, not, ◌&&◌}
use mathlib.Core.List.{List}
use native.Mathlib.Omega.{arith}
use borrow.Author.Tests.{eqb-true, eqb-false, eq-eqb, ne_eqb}
use lib.Dec.{eqb}
use lib.ListN.{length, get_or, set}
use lib.Seq.{get_or-set_other}
use Rattle.array.proofs.Places.{Inner, inner_holds, inner_at_holds, position_read}
use Rattle.array.specs.Place.{position, row, column, inner_at, inner}
use Rattle.array.proofs.Bools.{and_none, by_bool, by_lt, cond_left}
use Rattle.array.proofs.Fills.{Filling, fill_start, fill_step, fill_end}
use Rattle.paths.specs.Path.{is_clear, clear, Start}
use Rattle.paths.specs.Table.{class, entry, byte_of}
use Rattle.paths.specs.Inner.{PathAt}
use Rattle.paths.proofs.Agreement.{entry_is_clash}
use Rattle.paths.proofs.Entries.{byte_clear}
use Rattle.paths.proofs.Ways.{start_inner}
use Rattle.counters.specs.Count.{counts, altered_by, altered_at, counters_after}
use Rattle.counters.specs.Inner.{altered_here}

-- a start as the clash table takes it
pub start_path : {n m p d : ℕ} → Start n m p d → PathAt (row p) (column p) d
start_path s =
    let i = start_inner s in
    let r = s.rows in
    record { row_high = omega arith; column_high = omega arith; low = s.low; high = s.high }

module _ (n m d p q e : ℕ) where
  -- a processor's own path does not count
  pub own_uncounted : p ≡ q → counts n m d p q e ≡ false
  unfolding counts
  own_uncounted h = rw (eq-eqb q p (sym h)) (and_none (not (eqb e 0)))

  -- another's counts where the entry is not that of clear paths
  pub counts_by_entry : Start n m p d → Start n m q e → (p ≡ q → ⊥)
      → counts n m d p q e ≡ not (eqb (byte_of (entry d e (class (row p) (row q)) (class (column p) (column q)))) 0)
  unfolding counts clear
  counts_by_entry s t ne =
      let low = t.low in
      let there = entry d e (class (row p) (row q)) (class (column p) (column q)) in
      rw (ne_eqb e 0 (λ z. omega arith), ne_eqb q p (λ z. ne (sym z)))
      (ap not (sym (byte_clear there ∙ ap is_clear (entry_is_clash n m p d q e s t ne))))

-- Whether the path counts at an inner position, by what the code tests: that it is not q, and the entry.
module _ (n m d q e x y : ℕ) (i : inner_at n m x y ≡ true) (t : Start n m q e) where
  read : (row (position x y) ≡ x) × (column (position x y) ≡ y)
  read = let h = inner_at_holds n m x y i in position_read x y (omega (arith, h.column_high, t.columns))

  pub inner_there : inner n m (position x y) ≡ true
  inner_there = rw (read.0, read.1) i

  pub entry_counts : 1 ≤ d → d ≤ 4 → {found : ℕ} → found ≡ byte_of (entry d e (class x (row q)) (class y (column q)))
      → (not (eqb (position x y) q) && not (eqb found 0)) ≡ counts n m d (position x y) q e
  entry_counts low high {found} h =
      let start : Start n m (position x y) d =
      record { rows = t.rows; columns = t.columns; at = inner_there; low = low; high = high } in
      let there : found ≡ byte_of (entry d e (class (row (position x y)) (row q)) (class (column (position x y)) (column q))) =
      rw (read.0, read.1) h in
      by_bool (eqb (position x y) q)
      (λ z. rw (z, own_uncounted n m d (position x y) q e (eqb-true (position x y) q z)))
      (λ z. rw (z, counts_by_entry n m d (position x y) q e start t (eqb-false (position x y) q z), there))

-- The invariant of a loop over the counters of direction d: those before p are altered, and the others as they were.
pub record Altering (n m : ℕ) (up : Bool) (q e d p : ℕ) (old new : List ℕ) : Type 0 where
  pub filling : Filling (altered_at n m up q e d old) 1024 p new
  pub rest : (k : ℕ) → p ≤ k → get_or new k 0 ≡ get_or old k 0

module _ {n m : ℕ} {up : Bool} {q e d : ℕ} where
  pub alter_start : (old : List ℕ) → length old ≡ 1024 → Altering n m up q e d 0 old old
  alter_start old h = record { filling = fill_start (altered_at n m up q e d old) old h; rest = λ k l. refl }

  module _ {p : ℕ} {old new : List ℕ} (s : Altering n m up q e d p old new) where
    -- a counter in which the path counts
    pub alter_step : {v : ℕ} → p < 1024 → inner n m p ≡ true → counts n m d p q e ≡ true → v ≡ altered_by up (get_or new p 0)
        → Altering n m up q e d (p + 1) old (set new p v)
    alter_step {v} l i t k =
        record {
          filling = fill_step s.filling v l (rw (i, t) (k ∙ ap (altered_by up) (s.rest p (omega arith))));
          rest = λ k g. get_or-set_other new p k v 0 (λ z. omega arith) ∙ s.rest k (omega arith);
        }

    -- counters in which it does not count stay
    pub alter_skip : (r : ℕ) → p ≤ r → r ≤ 1024 → ((k : ℕ) → p ≤ k → k < r → (inner n m k && counts n m d k q e) ≡ false)
        → Altering n m up q e d r old new
    alter_skip r l h none =
        record {
          filling =
              record {
                within = h;
                long = s.filling.long;
                front = λ k b.
                    by_lt k p (λ a. s.filling.front k a)
                    (λ a. s.rest k a ∙ sym (cond_left (altered_by up (get_or old k 0)) (get_or old k 0) refl (none k a b)));
              };
          rest = λ k g. s.rest k (omega arith);
        }

    pub alter_stay : p < 1024 → counts n m d p q e ≡ false → Altering n m up q e d (p + 1) old new
    alter_stay l f =
        alter_skip (p + 1) (omega arith) (omega arith)
        (λ k a b.
        let z : k ≡ p = omega arith in
        subst (λ (j : ℕ). (inner n m j && counts n m d j q e) ≡ false) (sym z) (rw f (and_none (inner n m p))))

    -- one counter altered where the path counts, and kept where it does not
    pub alter_here : {next : List ℕ} → p < 1024 → inner n m p ≡ true → next ≡ altered_here n m up q e d p new
        → Altering n m up q e d (p + 1) old next
    alter_here {next} l i h =
        by_bool (counts n m d p q e)
        (λ t. let z : next ≡ set new p (altered_by up (get_or new p 0)) = h ∙ rw t refl in rw z (alter_step l i t refl))
        (λ t. let z : next ≡ new = h ∙ rw t refl in rw z (alter_stay l t))

    -- nor is there anything to alter beyond the inner positions
    pub alter_past : (r : ℕ) → p ≤ r → r ≤ 1024 → ((k : ℕ) → p ≤ k → k < r → Inner n m k → ⊥) → Altering n m up q e d r old new
    alter_past r l h none =
        alter_skip r l h
        (λ k a b.
        by_bool (inner n m k) (λ i. absurd (none k a b (inner_holds n m k i))) (λ i. rw i))

    pub alter_end : 1024 ≤ p → new ≡ counters_after n m up q e d old
    unfolding counters_after
    alter_end l = fill_end s.filling l
