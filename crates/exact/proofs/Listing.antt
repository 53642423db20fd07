-- The lists of the faults that may clash: how they are made, and that options may only be taken away.
-- Assumes nothing.
use Prim.Native.Nat.{ℕ, ◌+◌, ◌*◌, ◌-◌, ◌/◌, ◌%◌, ◌≤◌, ◌<◌}
use mathlib.Core.Path.{◌≡◌, refl, ap, subst, ◌∙◌}
use mathlib.Core.Bool.{Bool, true, ◌&&◌}
use mathlib.Core.Logic.{inl, inr, ⊎_elim}
use mathlib.Core.List.{List}
use native.Mathlib.Omega.{arith}
use borrow.Author.Count.{below_more}
use borrow.Author.Tests.{ltb-true}
use lib.Dec.{ltb}
use lib.ListN.{length, set, length-set}
use lib.Seq.{get_or-set_same, get_or-set_other}
use Rattle.array.proofs.Bools.{and_true, by_eq, by_lt}
use Rattle.exact.specs.Options.{at, Narrowed}
use Rattle.exact.specs.Inner.{clears_on, OneOf, Passes, Row, Listed, RowListed, Alone, alone_in}
use Rattle.exact.proofs.Options.{low_in, high_in}

-- fewer directions
pub listed_less : {count : ℕ} {clears : ℕ → ℕ → ℕ → ℕ → Bool} {may may' : ℕ → ℕ → Type 0} {lists ends rest : List ℕ}
    → ((k x : ℕ) → k < count → may' k x → may k x) → Listed count clears may lists ends rest
    → Listed count clears may' lists ends rest
listed_less {count} {clears} {may} {may'} less l = record {
  long = l.long;
  ends_long = l.ends_long;
  rest_long = l.rest_long;
  rows = λ f b.
      let r = l.rows f b in
      let w = r.within in
      record {
        ordered = r.ordered;
        within = w;
        others = r.others;
        covers = λ h x ne.
            ⊎_elim (λ p. inl (λ d e u v. p d e (less f d b u) (less h e (omega arith) v))) (λ n. inr n)
            (r.covers h x ne);
      };
}

pub still_listed : {count : ℕ} {clears : ℕ → ℕ → ℕ → ℕ → Bool} {lo hi lo' hi' : ℕ → ℕ} {lists ends rest : List ℕ}
    → Narrowed count lo hi lo' hi' → Listed count clears (OneOf lo hi) lists ends rest
    → Listed count clears (OneOf lo' hi') lists ends rest
still_listed {count} {clears} {lo} {hi} {lo'} {hi'} t = listed_less less
  where
    less : (k x : ℕ) → k < count → OneOf lo' hi' k x → OneOf lo hi k x
    less k x l (inl e) = ⊎_elim (λ f. inl (e ∙ f)) (λ f. inr (e ∙ f)) (low_in t k l)
    less k x l (inr e) = ⊎_elim (λ f. inl (e ∙ f)) (λ f. inr (e ∙ f)) (high_in t k l)

-- Two faults, by all their directions: number j is direction j / 4 + 1 of the first and j % 4 + 1 of the second.
module _ (starts : List ℕ) (table : List Bool) (f g : ℕ) where
  abbrev ClearAt : ℕ → ℕ → Type 0
  ClearAt d e = alone_in table f d ≡ true → alone_in table g e ≡ true → clears_on starts f d g e ≡ true

  pub record Clearing (i : ℕ) : Type 0 where
    pub clear : (j : ℕ) → j < i → ClearAt (j / 4 + 1) (j % 4 + 1)

  pub clear_start : Clearing 0
  clear_start = record { clear = λ j l. absurd (omega arith) }

  pub clear_next : {i : ℕ} → Clearing i → ClearAt (i / 4 + 1) (i % 4 + 1) → Clearing (i + 1)
  clear_next {i} s h = record { clear = below_more (λ j. ClearAt (j / 4 + 1) (j % 4 + 1)) i s.clear h }

  pub clear_end : {i : ℕ} → Clearing i → 16 ≤ i → Passes (clears_on starts) (Alone table) f g
  clear_end {i} s h x y p q =
      let x-low = p.0 in
      let x-high = p.1 in
      let y-low = q.0 in
      let y-high = q.1 in
      let j = 4 * x + y - 5 in
      let ex : j / 4 + 1 ≡ x = omega arith in
      let ey : j % 4 + 1 ≡ y = omega arith in
      subst (λ (e : ℕ). ClearAt x e) ey (subst (λ (d : ℕ). ClearAt d (j % 4 + 1)) ex (s.clear j (omega arith))) p.2 q.2

-- a row whose places are as they were
row_still : {count : ℕ} {clears : ℕ → ℕ → ℕ → ℕ → Bool} {may : ℕ → ℕ → Type 0} {lists lists' : List ℕ}
    {f begin end rest : ℕ} → ((i : ℕ) → i < end → at lists' i ≡ at lists i)
    → Row count clears may lists f begin end rest → Row count clears may lists' f begin end rest
row_still same r = record {
  ordered = r.ordered;
  within = r.within;
  others = record {
    fits = r.others.fits;
    inside = λ i l u. rw (same i u) (r.others.inside i l u);
    other = λ i l u e. r.others.other i l u (e ∙ same i u);
  };
  covers = λ h x ne.
      ⊎_elim (λ p. inl p)
      (λ n.
      let e = same n.place n.below in
      inr (record { place = n.place; from = n.from; below = n.below; is = e ∙ n.is }))
      (r.covers h x ne);
}

pub both_below : (a b x y : ℕ) → (ltb a b && ltb x y) ≡ true → (a < b) × (x < y)
both_below a b x y h =
    let p = and_true (ltb a b) (ltb x y) h in
    (ltb-true a b p.0, ltb-true x y p.1)

-- One row, from its begin: the faults below g are passed.
module _ (count : ℕ) (clears : ℕ → ℕ → ℕ → ℕ → Bool) (may : ℕ → ℕ → Type 0) where
  pub record Rowing (f begin : ℕ) (lists : List ℕ) (end g : ℕ) (lists' : List ℕ) : Type 0 where
    pub long : length lists' ≡ 2048
    pub same : (i : ℕ) → i < begin → at lists' i ≡ at lists i
    pub row : Row count clears may lists' f begin end g

  pub row_start : {f begin : ℕ} {lists : List ℕ} → length lists ≡ 2048 → begin ≤ 2048
      → Rowing f begin lists begin 0 lists
  row_start h b = record {
    long = h;
    same = λ i l. refl;
    row = record {
      ordered = omega arith;
      within = omega arith;
      others = record { fits = b; inside = λ i l u. absurd (omega arith); other = λ i l u. absurd (omega arith) };
      covers = λ k l. absurd (omega arith);
    };
  }

  module _ {f begin : ℕ} {lists : List ℕ} {end g : ℕ} {lists' : List ℕ} (s : Rowing f begin lists end g lists') where
    pub row_pass : g < count → ((f ≡ g → ⊥) → Passes clears may f g) → Rowing f begin lists end (g + 1) lists'
    row_pass l p = record {
      long = s.long;
      same = s.same;
      row = record {
        ordered = s.row.ordered;
        within = omega arith;
        others = s.row.others;
        covers = λ h x ne.
            by_eq g h (λ (e : g ≡ h). inl (subst (Passes clears may f) e (p (λ u. ne (u ∙ e)))))
            (λ o. s.row.covers h (omega arith) ne);
      };
    }

    pub row_name : g < count → end < 2048 → (f ≡ g → ⊥) → Rowing f begin lists (end + 1) (g + 1) (set lists' end g)
    row_name l m ne =
        let long = s.long in
        let ordered = s.row.ordered in
        let here : at (set lists' end g) end ≡ g = get_or-set_same lists' end g 0 (omega arith) in
        let there : (i : ℕ) → i < end → at (set lists' end g) i ≡ at lists' i =
        λ i u. get_or-set_other lists' end i g 0 (λ e. omega arith) in
        let r = row_still {lists' = set lists' end g} there s.row in
        record {
          long = length-set lists' end g ∙ s.long;
          same = λ i u. there i (omega arith) ∙ s.same i u;
          row = record {
            ordered = omega arith;
            within = omega arith;
            others = record {
              fits = omega arith;
              inside = λ i u v.
                  by_eq i end (λ (e : i ≡ end). rw (e, here) l) (λ o. r.others.inside i u (omega arith));
              other = λ i u v x.
                  by_eq i end (λ (e : i ≡ end). ne (x ∙ ap (at (set lists' end g)) e ∙ here))
                  (λ o. r.others.other i u (omega arith) x);
            };
            covers = λ h x o.
                by_eq g h
                (λ (e : g ≡ h). inr (record { place = end; from = ordered; below = omega arith; is = here ∙ e }))
                (λ u.
                ⊎_elim (λ p. inl p)
                (λ n.
                let b = n.below in
                inr (record { place = n.place; from = n.from; below = omega arith; is = n.is }))
                (r.covers h (omega arith) o));
          };
        }

    pub row_end : {ends rest : List ℕ} → begin ≡ at ends f → f < count → count ≤ 128 → length ends ≡ 129
        → length rest ≡ 128 → RowListed count clears may f lists ends rest lists' (set ends (f + 1) end) (set rest f g)
    row_end {ends} {rest} e l few a b =
        let end-here : at (set ends (f + 1) end) (f + 1) ≡ end = get_or-set_same ends (f + 1) end 0 (omega arith) in
        let rest-here : at (set rest f g) f ≡ g = get_or-set_same rest f g 0 (omega arith) in
        record {
          long = s.long;
          ends_long = length-set ends (f + 1) end ∙ a;
          rest_long = length-set rest f g ∙ b;
          same = λ i u. s.same i (omega arith);
          same_ends = λ j u. get_or-set_other ends (f + 1) j end 0 (λ x. omega arith);
          same_rest = λ j u. get_or-set_other rest f j g 0 (λ x. omega arith);
          row = rw (end-here, rest-here, ← e) s.row;
        }

-- The rows one after the other.
module _ (count : ℕ) (clears : ℕ → ℕ → ℕ → ℕ → Bool) (may : ℕ → ℕ → Type 0) where
  pub record Listing (f : ℕ) (lists ends rest : List ℕ) : Type 0 where
    pub long : length lists ≡ 2048
    pub ends_long : length ends ≡ 129
    pub rest_long : length rest ≡ 128
    pub last : at ends f ≤ 2048
    pub ascend : (j : ℕ) → j < f → at ends (j + 1) ≤ at ends f
    pub rows : (j : ℕ) → j < f → Row count clears may lists j (at ends j) (at ends (j + 1)) (at rest j)

  pub rows_next : {f : ℕ} {lists ends rest lists' ends' rest' : List ℕ} → Listing f lists ends rest
      → RowListed count clears may f lists ends rest lists' ends' rest' → Listing (f + 1) lists' ends' rest'
  rows_next {f} {lists} {ends} {rest} {lists'} {ends'} {rest'} s r =
      let on = r.row.ordered in
      record {
        long = r.long;
        ends_long = r.ends_long;
        rest_long = r.rest_long;
        last = r.row.others.fits;
        ascend = λ j l.
            by_lt j f
            (λ b.
            let e : at ends' (j + 1) ≡ at ends (j + 1) = r.same_ends (j + 1) (omega arith) in
            let a = s.ascend j b in
            omega arith)
            (λ b. let e : j ≡ f = omega arith in rw e (omega arith));
        rows = λ j l.
            by_lt j f
            (λ b.
            let a = s.ascend j b in
            rw (r.same_ends j (omega arith), r.same_ends (j + 1) (omega arith), r.same_rest j b)
            (row_still (λ i u. r.same i (omega arith)) (s.rows j b)))
            (λ b. let e : j ≡ f = omega arith in rw (e, r.same_ends f (omega arith)) r.row);
      }
