-- The loops that close one fault: every other fault keeps the options that pass with its one option.
-- Assumes nothing.
use Prim.Native.Nat.{ℕ, ◌+◌, ◌-◌, ◌≤◌, ◌<◌}
use mathlib.Core.Path.{◌≡◌, refl, sym, ap, ◌∙◌}
use mathlib.Core.Bool.{Bool, true, false, cond, ◌||◌, true≢false, false≢true}
use mathlib.Core.Logic.{◌⊎◌, inl, inr, ⊎_elim}
use mathlib.Core.List.{List}
use native.Mathlib.Omega.{arith}
use lib.ListN.{length, set, take, drop, length-set}
use Rattle.std.proofs.lemmas.List.{length-take, length-drop, get_or-take, get_or-drop}
use lib.Seq.{get_or-set_same, get_or-set_other}
use Rattle.array.proofs.Bools.{by_eq, by_lt, or_false}
use Rattle.exact.specs.Options.{at, Solution, NoSolution, Narrowed}
use Rattle.exact.specs.Inner.{Judged, OneOf, Named, Row, Held, Keeps, Striking, Struck}
use Rattle.exact.proofs.Options.{low_in, high_in, stays, still_one, still_ordered, narrow_more}

-- answers
pub judge_yes : {A B : Type 0} → A → Judged true A B
judge_yes a = record { yes = λ e. a; no = λ e. absurd (true≢false e) }

pub judge_no : {A B : Type 0} → B → Judged false A B
judge_no b = record { yes = λ e. absurd (false≢true e); no = λ e. b }

-- narrowed buffers of the same length still hold options
pub still_held : {count : ℕ} {lo hi lo' hi' : List ℕ} → Held count lo hi → length lo' ≡ length lo → length hi' ≡
    length hi
    → Narrowed count (at lo) (at hi) (at lo') (at hi') → Held count lo' hi'
still_held {count} {lo} {hi} {lo'} {hi'} h x y t = record {
  room = h.room;
  low_long = x ∙ h.low_long;
  high_long = y ∙ h.high_long;
  low = λ k l.
      let a = h.low k l in
      let b = h.ordered k l in
      ⊎_elim (λ (e : at lo' k ≡ at lo k). omega arith) (λ (e : at lo' k ≡ at hi k). omega arith) (low_in t k l);
  ordered = λ k l. still_ordered t k l (h.ordered k l);
  high = λ k l.
      let a = h.high k l in
      let b = h.ordered k l in
      ⊎_elim (λ (e : at hi' k ≡ at lo k). omega arith) (λ (e : at hi' k ≡ at hi k). omega arith) (high_in t k l);
}

-- copied
pub held_copied : {count : ℕ} {lo hi x y : List ℕ} → x ≡ lo → y ≡ hi → Held count lo hi → Held count x y
held_copied ex ey h = rw (ex, ey) h

-- of two options those that pass
pick_first : (a b : Bool) (x y : ℕ) → (a || b) ≡ true
    → ((cond a x y ≡ x) × (cond b y x ≡ y)) ⊎ ((cond a x y ≡ cond b y x) × ((cond a x y ≡ x) ⊎ (cond a x y ≡ y)))
pick_first true true x y h = inl (refl, refl)
pick_first true false x y h = inr (refl, inl refl)
pick_first false true x y h = inr (refl, inr refl)
pick_first false false x y h = absurd (false≢true h)

one_of : (b : Bool) {x y : ℕ} → y ≡ x → cond b x y ≡ x
one_of true e = refl
one_of false e = e

module _ (count : ℕ) (clears : ℕ → ℕ → ℕ → ℕ → Bool) (lo hi : List ℕ) (f : ℕ) (below : f < count) (one : at lo f ≡ at
    hi f) where
  abbrev Now : (ℕ → Type 0) → List ℕ → List ℕ → Type 0
  Now P lo' hi' = Striking count clears lo hi f P lo' hi'

  -- the same faults, or fewer
  pub strike_less : {P Q : ℕ → Type 0} {lo' hi' : List ℕ} → ((j : ℕ) → j < count → Q j → (f ≡ j → ⊥) → P j)
      → Now P lo' hi' → Now Q lo' hi'
  strike_less less s = record {
    low_same = s.low_same;
    high_same = s.high_same;
    held = s.held;
    narrowed = s.narrowed;
    keeps = s.keeps;
    passed = λ j l p ne. s.passed j l (less j l p ne) ne;
  }

  module _ {P : ℕ → Type 0} {lo' hi' : List ℕ} (s : Now P lo' hi') (g : ℕ) (l : g < count) where
    -- every solution has f's option
    has_one : (q : ℕ → ℕ) → Solution count clears (at lo') (at hi') q → q f ≡ at lo f
    has_one q z =
        let t = stays s.narrowed f below one in
        ⊎_elim (λ e. e ∙ t.0) (λ e. e ∙ t.1 ∙ sym one) (z.within f below)

    module _ (ne : f ≡ g → ⊥) {a b : Bool} (ea : a ≡ clears f (at lo f) g (at lo' g)) (eb : b ≡ clears f (at lo f) g
        (at hi' g)) where
      -- an option that a solution has passes
      passes : (q : ℕ → ℕ) → Solution count clears (at lo') (at hi') q
          → ((q g ≡ at lo' g) × (a ≡ true)) ⊎ ((q g ≡ at hi' g) × (b ≡ true))
      passes q z =
          let p = z.apart f g below l ne in
          ⊎_elim
          (λ e. inl (e, ea ∙ sym (λ i. clears f (has_one q z i) g (e i)) ∙ p))
          (λ e. inr (e, eb ∙ sym (λ i. clears f (has_one q z i) g (e i)) ∙ p))
          (z.within g l)

      pub strike_none : (a || b) ≡ false → NoSolution count clears (at lo) (at hi)
      strike_none h q z =
          let x = or_false a b h in
          ⊎_elim (λ e. true≢false (sym e.1 ∙ x.0)) (λ e. true≢false (sym e.1 ∙ x.1)) (passes q (s.keeps q z))

      abbrev lo'' : List ℕ
      lo'' = set lo' g (cond a (at lo' g) (at hi' g))

      abbrev hi'' : List ℕ
      hi'' = set hi' g (cond b (at hi' g) (at lo' g))

      low_here : at lo'' g ≡ cond a (at lo' g) (at hi' g)
      low_here = get_or-set_same lo' g (cond a (at lo' g) (at hi' g)) 0 (omega (arith, s.held.low_long, s.held.room))

      high_here : at hi'' g ≡ cond b (at hi' g) (at lo' g)
      high_here = get_or-set_same hi' g (cond b (at hi' g) (at lo' g)) 0 (omega (
        arith,
        s.held.high_long,
        s.held.room,
      ))

      low_there : (k : ℕ) → (k ≡ g → ⊥) → at lo'' k ≡ at lo' k
      low_there k o = get_or-set_other lo' g k (cond a (at lo' g) (at hi' g)) 0 o

      high_there : (k : ℕ) → (k ≡ g → ⊥) → at hi'' k ≡ at hi' k
      high_there k o = get_or-set_other hi' g k (cond b (at hi' g) (at lo' g)) 0 o

      module _ (h : (a || b) ≡ true) where
        narrow_here : Narrowed count (at lo') (at hi') (at lo'') (at hi'')
        narrow_here = record {
          each = λ k m.
              by_eq k g
              (λ (e : k ≡ g).
              rw e
              (⊎_elim (λ x. inl (low_here ∙ x.0, high_here ∙ x.1))
              (λ x. inr (
                low_here ∙ x.0 ∙ sym high_here,
                ⊎_elim (λ y. inl (low_here ∙ y)) (λ y. inr (low_here ∙ y))
                    x.1,
              ))
              (pick_first a b (at lo' g) (at hi' g) h)))
              (λ o. inl (low_there k o, high_there k o));
        }

        within_here : (q : ℕ → ℕ) → Solution count clears (at lo') (at hi') q → (q g ≡ at lo'' g) ⊎ (q g ≡ at hi'' g)
        within_here q z =
            ⊎_elim
            (λ x. inl (x.0 ∙ sym (low_here ∙ ap (λ (t : Bool). cond t (at lo' g) (at hi' g)) x.1)))
            (λ x. inr (x.0 ∙ sym (high_here ∙ ap (λ (t : Bool). cond t (at hi' g) (at lo' g)) x.1)))
            (passes q z)

        keeps_here : Keeps count clears (at lo') (at hi') (at lo'') (at hi'')
        keeps_here q z = record {
          within = λ k m.
              by_eq k g (λ (e : k ≡ g). rw e (within_here q z))
              (λ o. ⊎_elim (λ x. inl (x ∙ sym (low_there k o))) (λ x. inr (x ∙ sym (high_there k o))) (z.within k m));
          apart = z.apart;
        }

        low_passes : (a b : Bool) → (a || b) ≡ true → (x y : ℕ) → a ≡ clears f (at lo f) g x → b ≡ clears f (at lo f)
            g y
            → clears f (at lo f) g (cond a x y) ≡ true
        low_passes true b t x y e i = sym e
        low_passes false b t x y e i = sym i ∙ t

        high_passes : (a b : Bool) → (a || b) ≡ true → (x y : ℕ) → a ≡ clears f (at lo f) g x → b ≡ clears f (at lo
            f) g y
            → clears f (at lo f) g (cond b y x) ≡ true
        high_passes a true t x y e i = sym i
        high_passes true false t x y e i = sym e
        high_passes false false t x y e i = absurd (false≢true t)

        strike_next : {Q : ℕ → Type 0} → ((j : ℕ) → Q j → (j ≡ g → ⊥) → P j) → Now Q lo'' hi''
        strike_next less =
            let x = length-set lo' g (cond a (at lo' g) (at hi' g)) in
            let y = length-set hi' g (cond b (at hi' g) (at lo' g)) in
            record {
              low_same = x ∙ s.low_same;
              high_same = y ∙ s.high_same;
              held = still_held s.held x y narrow_here;
              narrowed = narrow_more s.narrowed narrow_here;
              keeps = λ q z. keeps_here q (s.keeps q z);
              passed = λ j m k o.
                  by_eq j g
                  (λ (e : j ≡ g).
                  rw e (
                    ap (clears f (at lo f) g) low_here ∙ low_passes a b h (at lo' g) (at hi' g) ea eb,
                    ap (clears f (at lo f) g) high_here ∙ high_passes a b h (at lo' g) (at hi' g) ea eb,
                  ))
                  (λ e.
                  let p = s.passed j m (less j k e) o in (
                    ap (clears f (at lo f) j) (low_there j e) ∙ p.0,
                    ap (clears f (at lo f) j) (high_there j e) ∙ p.1,
                  ));
            }

        -- and the faults of Q are those of P and g
        pub strike_on : {Q : ℕ → Type 0} {l h : List ℕ} → ((j : ℕ) → Q j → (j ≡ g → ⊥) → P j) → l ≡ lo'' → h ≡ hi''
            → Now Q l h
        strike_on less el eh = rw (el, eh) (strike_next less)

pub named_less : {lists : List ℕ} {begin i : ℕ} (j : ℕ) → Named lists begin (i + 1) j → (j ≡ at lists i → ⊥)
    → Named lists begin i j
named_less {lists} {begin} {i} j n o =
    let b = n.below in
    record {
      place = n.place;
      from = n.from;
      below = by_eq n.place i (λ e. absurd (o (sym n.is ∙ ap (at lists) e))) (λ u. omega arith);
      is = n.is;
    }

-- a part of the lists
pub named_part : {lists : List ℕ} {b e j : ℕ} (begin end : ℕ) → begin ≡ b → end ≡ e → e ≤ length lists → Named lists b e j
    → Named (take (end - begin) (drop begin lists)) 0 (length (take (end - begin) (drop begin lists))) j
named_part {lists} {b} {e} {j} begin end x y room n =
    let from = n.from in
    let below = n.below in
    let i = n.place - begin in
    let within : i < end - begin = omega arith in
    let here : begin + i ≡ n.place = omega arith in
    record {
      place = i;
      from = omega arith;
      below = omega (arith, length-take (end - begin) (drop begin lists), length-drop begin lists);
      is = get_or-take (end - begin) (drop begin lists) i 0 within ∙ get_or-drop begin lists i 0 ∙ ap (at lists) here ∙ n.is;
    }

-- the faults that row f names, then those from its rest on: the others pass
module _ {count : ℕ} {clears : ℕ → ℕ → ℕ → ℕ → Bool} {lists lo hi : List ℕ} {f begin end rest : ℕ} (below : f < count)
    (one : at lo f ≡ at hi f) (r : Row count clears (OneOf (at lo) (at hi)) lists f begin end rest)
    {lo' hi' lo'' hi'' : List ℕ} (s : Striking count clears lo hi f (Named lists begin end) lo' hi')
    (t : Striking count clears lo' hi' f (λ j. rest ≤ j) lo'' hi'') where
  narrowed : Narrowed count (at lo) (at hi) (at lo'') (at hi'')
  narrowed = narrow_more s.narrowed t.narrowed

  -- an option left of two that pass
  left_passes : {j x : ℕ} → (x ≡ at lo' j) ⊎ (x ≡ at hi' j)
      → (clears f (at lo f) j (at lo' j) ≡ true) × (clears f (at lo f) j (at hi' j) ≡ true)
      → clears f (at lo f) j x ≡ true
  left_passes {j} h p = ⊎_elim (λ e. ap (clears f (at lo f) j) e ∙ p.0) (λ e. ap (clears f (at lo f) j) e ∙ p.1) h

  passed : (j : ℕ) → j < count → (f ≡ j → ⊥)
      → (clears f (at lo f) j (at lo'' j) ≡ true) × (clears f (at lo f) j (at hi'' j) ≡ true)
  passed j l ne =
      by_lt j rest
      (λ b.
      ⊎_elim
      (λ p. (
        p (at lo f) (at lo'' j) (inl refl) (low_in narrowed j l),
        p (at lo f) (at hi'' j) (inl refl) (high_in narrowed j l),
      ))
      (λ n. let x = s.passed j l n ne in (
        left_passes (low_in t.narrowed j l) x,
        left_passes (high_in t.narrowed j l) x,
      ))
      (r.covers j b ne))
      (λ b.
      let x = t.passed j l b ne in
      let e = sym (stays s.narrowed f below one).0 in
      (ap (λ (z : ℕ). clears f z j (at lo'' j)) e ∙ x.0, ap (λ (z : ℕ). clears f z j (at hi'' j)) e ∙ x.1))

  pub strike_end : Struck count clears (at lo) (at hi) (at lo'') (at hi'') f
  strike_end =
      let e = stays narrowed f below one in
      record {
        narrowed = narrowed;
        keeps = λ q z. t.keeps q (s.keeps q z);
        closed = record {
          one = still_one narrowed f below one;
          with_low = λ j l ne. ap (λ (x : ℕ). clears f x j (at lo'' j)) e.0 ∙ (passed j l ne).0;
          with_high = λ j l ne. ap (λ (x : ℕ). clears f x j (at hi'' j)) e.0 ∙ (passed j l ne).1;
        };
      }
