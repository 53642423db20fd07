-- The loops over all faults: closing those that have one option, settling one after the other, and comparing two answers.
-- Assumes nothing.
use Prim.Native.Nat.{ℕ, zero, suc, ◌+◌, ◌≤◌, ◌<◌}
use mathlib.Core.Path.{◌≡◌, refl, sym, ap, subst, ◌∙◌}
use mathlib.Core.Bool.{Bool, true, false, cond}
use mathlib.Core.Logic.{◌⊎◌, inl, inr, ⊎_elim}
use mathlib.Core.List.{List, [], ◌∷◌}
use native.Mathlib.Nat.{le_of_suc-le-suc, not-suc-le-zero}
use native.Mathlib.Omega.{arith}
use borrow.Author.Count.{below_more}
use lib.Dec.{eqb}
use lib.ListN.{length, set, get_or, length-set}
use lib.Seq.{get_or-set_same, get_or-set_other}
use Rattle.array.proofs.Bools.{by_eq}
use Rattle.exact.specs.Options.{at, Later, Solution, NoSolution, FirstSolution, ClosedAt, Narrowed}
use Rattle.exact.specs.Inner.{Judged, clears_on, Spreadable, Held, Keeps, Marked, Closed, Struck, Spread, Settled, Fresh}
use Rattle.exact.proofs.Options.{low_in, high_in, stays, still_one, narrow_more, closed_still, survives, changed}
use Rattle.exact.proofs.Listing.{still_listed}
use Rattle.exact.proofs.Striking.{still_held}

-- how many are not marked
unfoldable pub unmarked : List ℕ → ℕ
unmarked [] = 0
unmarked (x ∷ xs) = cond (eqb x 0) (suc (unmarked xs)) (unmarked xs)

pub mark_less : (l : List ℕ) (f : ℕ) → f < length l → get_or l f 0 ≡ 0 → suc (unmarked (set l f 1)) ≡ unmarked l
unfolding unmarked
mark_less [] f h e = absurd (not-suc-le-zero h)
mark_less (x ∷ xs) zero h e = ap (λ (z : ℕ). cond (eqb z 0) (suc (unmarked xs)) (unmarked xs)) (sym e)
mark_less (x ∷ xs) (suc f) h e = by (eqb x 0) (mark_less xs f (le_of_suc-le-suc h) e)
  where
    by : (b : Bool) → suc (unmarked (set xs f 1)) ≡ unmarked xs
        → suc (cond b (suc (unmarked (set xs f 1))) (unmarked (set xs f 1))) ≡ cond b (suc (unmarked xs)) (unmarked xs)
    by true r = ap suc r
    by false r = r

-- narrowed, what is marked stays closed
pub marked_still : {count : ℕ} {clears : ℕ → ℕ → ℕ → ℕ → Bool} {lo hi lo' hi' done : ℕ → ℕ} → Narrowed count lo hi
    lo' hi'
    → Marked count clears lo hi done → Marked count clears lo' hi' done
marked_still {count} {clears} t m f l ne = closed_still count clears t f l (m f l ne)

module _ (count : ℕ) (clears : ℕ → ℕ → ℕ → ℕ → Bool) where
  pub record Spreading (lo hi : List ℕ) (lo' hi' done : List ℕ) : Type 0 where
    pub done_long : length done ≡ 128
    pub held : Held count lo' hi'
    pub narrowed : Narrowed count (at lo) (at hi) (at lo') (at hi')
    pub keeps : Keeps count clears (at lo) (at hi) (at lo') (at hi')
    pub marked : Marked count clears (at lo') (at hi') (at done)

  module _ {lo hi lo' hi' done : List ℕ} (s : Spreading lo hi lo' hi' done) where
    pub spread_none : NoSolution count clears (at lo') (at hi') → NoSolution count clears (at lo) (at hi)
    spread_none h q z = h q (s.keeps q z)

    pub spread_next : {lo'' hi'' : List ℕ} {f : ℕ} → Held count lo'' hi''
        → Struck count clears (at lo') (at hi') (at lo'') (at hi'') f → Spreading lo hi lo'' hi'' (set done f 1)
    spread_next {lo''} {hi''} {f} h t = record {
      done_long = length-set done f 1 ∙ s.done_long;
      held = h;
      narrowed = narrow_more s.narrowed t.narrowed;
      keeps = λ q z. t.keeps q (s.keeps q z);
      marked = λ j b ne.
          by_eq j f (λ e. subst (ClosedAt count clears (at lo'') (at hi'')) (sym e) t.closed)
          (λ o. closed_still count clears t.narrowed j b (s.marked j b (λ e. ne (get_or-set_other done f j 1 0 o ∙
          e))));
    }

    pub spread_less : {f : ℕ} → Fresh count (at lo') (at hi') (at done) f → suc (unmarked (set done f 1)) ≡ unmarked done
    spread_less {f} x = mark_less done f (omega (arith, s.done_long, s.held.room, x.below)) x.new

  -- Settling fault k.
  module _ (lo hi : List ℕ) (held : Held count lo hi) (k : ℕ) (below : k < count) where
    abbrev high_down : List ℕ
    high_down = set hi k (at lo k)

    abbrev low_up : List ℕ
    low_up = set lo k (at hi k)

    down_here : at high_down k ≡ at lo k
    down_here = get_or-set_same hi k (at lo k) 0 (omega (arith, held.high_long, held.room))

    up_here : at low_up k ≡ at hi k
    up_here = get_or-set_same lo k (at hi k) 0 (omega (arith, held.low_long, held.room))

    down_there : (j : ℕ) → (j ≡ k → ⊥) → at high_down j ≡ at hi j
    down_there j o = get_or-set_other hi k j (at lo k) 0 o

    up_there : (j : ℕ) → (j ≡ k → ⊥) → at low_up j ≡ at lo j
    up_there j o = get_or-set_other lo k j (at hi k) 0 o

    pub narrow_down : Narrowed count (at lo) (at hi) (at lo) (at high_down)
    narrow_down = record {
      each = λ j l. by_eq j k (λ (e : j ≡ k). inr (rw e (sym down_here), inl refl)) (λ o. inl (refl, down_there j o));
    }

    pub narrow_up : Narrowed count (at lo) (at hi) (at low_up) (at hi)
    narrow_up = record {
      each = λ j l. by_eq j k (λ (e : j ≡ k). inr (rw e up_here, inr (rw e up_here))) (λ o. inl (up_there j o, refl));
    }

    pub down_held : Held count lo high_down
    down_held = still_held held refl (length-set hi k (at lo k)) narrow_down

    pub up_held : Held count low_up hi
    up_held = still_held held (length-set lo k (at hi k)) refl narrow_up

    to_down : (q : ℕ → ℕ) → Solution count clears (at lo) (at hi) q → q k ≡ at lo k → Solution count clears (at lo)
        (at high_down) q
    to_down q z e = record {
      within = λ j l. by_eq j k (λ (x : j ≡ k). inl (rw x e)) (λ o. ⊎_elim (λ x. inl x) (λ x. inr (x ∙ sym
          (down_there j o))) (z.within j l));
      apart = z.apart;
    }

    to_up : (q : ℕ → ℕ) → Solution count clears (at lo) (at hi) q → q k ≡ at hi k → Solution count clears (at low_up)
        (at hi) q
    to_up q z e = record {
      within = λ j l. by_eq j k (λ (x : j ≡ k). inr (rw x e)) (λ o. ⊎_elim (λ x. inl (x ∙ sym (up_there j o))) (λ x.
          inr x) (z.within j l));
      apart = z.apart;
    }

    -- with the lesser option
    pub settled_down : {lo' hi' done : ℕ → ℕ} → at lo k < at hi k → Spread count clears (at lo) (at high_down) lo'
        hi' done
        → Settled count clears k (at lo) (at hi) lo' hi' done
    settled_down {lo'} l s =
        let t = stays s.narrowed k below (sym down_here) in
        record {
          narrowed = narrow_more narrow_down s.narrowed;
          closed = s.closed;
          marked = s.marked;
          one = still_one s.narrowed k below (sym down_here);
          least = λ q z.
              ⊎_elim (λ e. inl (s.keeps q (to_down q z e)))
              (λ (e : q k ≡ at hi k). let x = t.0 in inr (omega arith))
              (z.within k below);
        }

    pub not_down : NoSolution count clears (at lo) (at high_down) → (q : ℕ → ℕ) → Solution count clears (at lo) (at
        hi) q → q k ≡ at lo k → ⊥
    not_down h q z e = h q (to_down q z e)

    -- with the greater one, where the lesser is ruled out
    module _ (never : (q : ℕ → ℕ) → Solution count clears (at lo) (at hi) q → q k ≡ at lo k → ⊥) where
      going_up : (q : ℕ → ℕ) → Solution count clears (at lo) (at hi) q → Solution count clears (at low_up) (at hi) q
      going_up q z = ⊎_elim (λ e. absurd (never q z e)) (λ e. to_up q z e) (z.within k below)

      pub settled_up : {lo' hi' done : ℕ → ℕ} → Spread count clears (at low_up) (at hi) lo' hi' done
          → Settled count clears k (at lo) (at hi) lo' hi' done
      settled_up s = record {
        narrowed = narrow_more narrow_up s.narrowed;
        closed = s.closed;
        marked = s.marked;
        one = still_one s.narrowed k below up_here;
        least = λ q z. inl (s.keeps q (going_up q z));
      }

      pub none_up : NoSolution count clears (at low_up) (at hi) → NoSolution count clears (at lo) (at hi)
      none_up h q z = h q (going_up q z)

  -- what is found after closing is what was asked for
  module _ {lo hi lo' hi' done : ℕ → ℕ} (s : Spread count clears lo hi lo' hi' done) where
    pub after_first : {q : ℕ → ℕ} → FirstSolution count clears lo' hi' q → FirstSolution count clears lo hi q
    after_first f = record {
      is_solution = record {
        within = λ k l.
            ⊎_elim
            (λ e. ⊎_elim (λ x. inl (e ∙ x)) (λ x. inr (e ∙ x)) (low_in s.narrowed k l))
            (λ e. ⊎_elim (λ x. inl (e ∙ x)) (λ x. inr (e ∙ x)) (high_in s.narrowed k l))
            (f.is_solution.within k l);
        apart = f.is_solution.apart;
      };
      none_before = λ r z. f.none_before r (s.keeps r z);
    }

    pub after_none : NoSolution count clears lo' hi' → NoSolution count clears lo hi
    after_none h q z = h q (s.keeps q z)

  -- Settling all.
  pub record Solving (lo hi : List ℕ) (k : ℕ) (lo' hi' done : List ℕ) : Type 0 where
    pub within : k ≤ count
    pub done_long : length done ≡ 128
    pub held : Held count lo' hi'
    pub narrowed : Narrowed count (at lo) (at hi) (at lo') (at hi')
    pub closed : Closed count clears (at lo') (at hi')
    pub marked : Marked count clears (at lo') (at hi') (at done)
    pub ones : (j : ℕ) → j < k → at lo' j ≡ at hi' j
    pub some : NoSolution count clears (at lo') (at hi') → NoSolution count clears (at lo) (at hi)
    pub least : (q : ℕ → ℕ) → Solution count clears (at lo) (at hi) q → Solution count clears (at lo') (at hi') q ⊎
        Later k (at lo') q

  module _ (comm : (i d j e : ℕ) → clears i d j e ≡ clears j e i d) where
    module _ {lo hi lo' hi' done : List ℕ} {k : ℕ} (s : Solving lo hi k lo' hi' done) where
      pub solve_none : NoSolution count clears (at lo') (at hi') → NoSolution count clears (at lo) (at hi)
      solve_none = s.some

      pub solve_next : {lo'' hi'' done'' : List ℕ} → k < count → length done'' ≡ 128
          → Held count lo'' hi'' → Settled count clears k (at lo') (at hi') (at lo'') (at hi'') (at done'') → Solving lo
          hi (k + 1) lo'' hi'' done''
      solve_next {lo''} {hi''} l d h t =
          let same : (j : ℕ) → j < k → at lo'' j ≡ at lo' j = λ j b. (stays t.narrowed j (omega arith) (s.ones j b)
          ).0 in
          record {
            within = omega arith;
            done_long = d;
            held = h;
            narrowed = narrow_more s.narrowed t.narrowed;
            closed = t.closed;
            marked = t.marked;
            ones = below_more (λ j. at lo'' j ≡ at hi'' j) k (λ j b. still_one t.narrowed j (omega arith) (s.ones j
                b)) t.one;
            some = λ none. s.some (λ q z. none (changed count clears comm t.narrowed t.closed q z) (survives
                count clears comm t.narrowed t.closed q z));
            least = λ q z.
                ⊎_elim
                (λ now.
                ⊎_elim (λ then. inl then)
                (λ more. inr (record {
                  i = k;
                  below = omega arith;
                  before = λ j b. ⊎_elim (λ e. e ∙ sym (same j b)) (λ e. e ∙ sym (s.ones j b) ∙ sym (same j b)) (now.within j (omega arith));
                  more = more;
                }))
                (t.least q now))
                (λ (w : Later k (at lo') q).
                let b = w.below in
                let e = same w.i b in
                let m = w.more in
                inr (record {
                  i = w.i;
                  below = omega arith;
                  before = λ j c. w.before j c ∙ sym (same j (omega arith));
                  more = omega arith;
                }))
                (s.least q z);
          }

      pub solve_end : count ≤ k → FirstSolution count clears (at lo) (at hi) (at lo')
      solve_end h =
          let one : (j : ℕ) → j < count → at lo' j ≡ at hi' j = λ j l. s.ones j (omega arith) in
          let ends : k ≡ count = let w = s.within in omega arith in
          record {
            is_solution = record {
              within = λ j l. low_in s.narrowed j l;
              apart = λ i j l b ne. (s.closed i l (one i l)).with_low j b ne;
            };
            none_before = λ q z.
                ⊎_elim (λ now. inl (λ j l. ⊎_elim (λ e. e) (λ e. e ∙ sym (one j l)) (now.within j l)))
                (λ w. inr (subst (λ (n : ℕ). Later n (at lo') q) ends w))
                (s.least q z);
          }

-- The two tries of one fault.
module _ {starts lists ends rest lo hi done : List ℕ} (k : ℕ)
    (s : Spreadable starts lists ends rest lo hi done) (below : k < length starts) where
  abbrev faults : ℕ
  faults = length starts

  abbrev clear : ℕ → ℕ → ℕ → ℕ → Bool
  clear = clears_on starts

  pub down_ready : Spreadable starts lists ends rest lo (set hi k (at lo k)) done
  down_ready = record {
    held = down_held faults clear lo hi s.held k below;
    listed = still_listed (narrow_down faults clear lo hi s.held k below) s.listed;
    done_long = s.done_long;
    marked = marked_still (narrow_down faults clear lo hi s.held k below) s.marked;
  }

  pub up_ready : Spreadable starts lists ends rest (set lo k (at hi k)) hi done
  up_ready = record {
    held = up_held faults clear lo hi s.held k below;
    listed = still_listed (narrow_up faults clear lo hi s.held k below) s.listed;
    done_long = s.done_long;
    marked = marked_still (narrow_up faults clear lo hi s.held k below) s.marked;
  }

  pub down_yes : {lo' hi' done' : ℕ → ℕ} → (at lo k ≡ at hi k → ⊥)
      → Spread faults clear (at lo) (at (set hi k (at lo k))) lo' hi' done'
      → Settled faults clear k (at lo) (at hi) lo' hi' done'
  down_yes ne t = let o = s.held.ordered k below in settled_down faults clear lo hi s.held k below (omega arith) t

  pub up_judged : {r : Bool} {lo' hi' done' : ℕ → ℕ} → NoSolution faults clear (at lo) (at (set hi k (at lo k)))
      → Judged r (Spread faults clear (at (set lo k (at hi k))) (at hi) lo' hi' done')
      (NoSolution faults clear (at (set lo k (at hi k))) (at hi))
      → Judged r (Settled faults clear k (at lo) (at hi) lo' hi' done') (NoSolution faults clear (at lo) (at hi))
  up_judged none j =
      let never = not_down faults clear lo hi s.held k below none in
      record {
        yes = λ e. settled_up faults clear lo hi s.held k below never (j.yes e);
        no = λ e. none_up faults clear lo hi s.held k below never (j.no e);
      }
