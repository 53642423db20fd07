-- The pairs of ends one after the other: the best plan so far, and what each pair adds.
-- Assumes nothing.
use Prim.Native.Nat.{ℕ, zero, suc, ◌+◌, ◌*◌, ◌-◌, ◌/◌, ◌%◌, ◌≤◌, ◌<◌}
use mathlib.Core.Path.{◌≡◌, sym, ap, subst, ◌∙◌}
use mathlib.Core.Bool.{Bool, true, false, true≢false}
use mathlib.Core.Logic.{◌⊎◌, inl, inr, ⊎_elim}
use mathlib.Core.List.{List}
use Rattle.std.specs.Prelude.{Option, Some, None}
use native.Mathlib.Omega.{arith}
use borrow.Author.Count.{below_more}
use lib.ListN.{length, set, get_or, length-set}
use lib.Seq.{get_or-set_same, get_or-set_other}
use Rattle.array.proofs.Bools.{and_true, and_both, by_lt}
use Rattle.paths.specs.Path.{is_open}
use Rattle.exact.specs.Options.{at, NotLater, Solution, NoSolution, FirstSolution}
use Rattle.exact.specs.Inner.{clears_on, Held, alone_in, offered, Offers, Stuck, FitOn, Ahead, Before, Takes, Bettered}
use Rattle.exact.specs.Inner.{LeftBy, SomeBelow, Tabled}
use Rattle.exact.proofs.Options.{later_then}

pub not_later_then : {count : ℕ} {a b c : ℕ → ℕ} → NotLater count a b → NotLater count b c → NotLater count a c
not_later_then (inl e) (inl f) = inl (λ j l. f j l ∙ e j l)
not_later_then (inl e) (inr y) =
    inr (record {
      i = y.i;
      below = y.below;
      before = λ j l. y.before j l ∙ e j (omega (arith, y.below));
      more = let z = e y.i y.below in omega (arith, y.more);
    })
not_later_then (inr x) n = inr (later_then x n)

-- what is nowhere less is not before
pub nowhere_less : (count : ℕ) (a b : ℕ → ℕ) → ((k : ℕ) → k < count → a k ≤ b k) → NotLater count a b
nowhere_less zero a b h = inl (λ j l. absurd (omega arith))
nowhere_less (suc n) a b h = on (nowhere_less n a b (λ k l. h k (omega arith)))
  where
    on : NotLater n a b → NotLater (suc n) a b
    on (inr w) = inr (record { i = w.i; below = omega (arith, w.below); before = w.before; more = w.more })
    on (inl e) =
        by_lt (a n) (b n) (λ l. inr (record { i = n; below = omega arith; before = e; more = l }))
        (λ l. inl (λ j m. by_lt j n (λ c. e j c) (λ c. let z : j ≡ n = omega arith in rw z (omega (
          arith,
          h n (omega
              arith),
        )))))

-- no solution of options comes before the least of them
pub least_first : (starts lo hi : List ℕ) → Held (length starts) lo hi → (q : ℕ → ℕ)
    → Solution (length starts) (clears_on starts) (at lo) (at hi) q → NotLater (length starts) (at lo) q
least_first starts lo hi h q s =
    nowhere_less (length starts) (at lo) q
    (λ k l.
    let o = h.ordered k l in
    ⊎_elim (λ (e : q k ≡ at lo k). omega arith) (λ (e : q k ≡ at hi k). omega arith) (s.within k l))

-- what is kept of the best so far
pub ahead_then : {count : ℕ} {a b : ℕ → ℕ} (best : Option (List ℕ)) → Ahead count best a → NotLater count a b → Ahead count best b
ahead_then None x n = absurd x
ahead_then (Some best) x n = not_later_then x n

before_then : {count : ℕ} {q : ℕ → ℕ} (val : List ℕ) (best : Option (List ℕ)) → Before count val best → Ahead count best q
    → NotLater count (at val) q
before_then val None x a = absurd a
before_then val (Some best) x a = inr (later_then x a)

-- The solutions of some options.
module _ (starts lo hi : List ℕ) (best : Option (List ℕ)) where
  pub takes_none : NoSolution (length starts) (clears_on starts) (at lo) (at hi) → Takes starts lo hi best best
  takes_none h = record { kept = λ q a. a; added = λ q s. absurd (h q s); from = λ b e. inl e }

  -- the best so far is not later than what no solution comes before
  pub takes_old : (val : List ℕ)
      → ((q : ℕ → ℕ) → Solution (length starts) (clears_on starts) (at lo) (at hi) q → NotLater (length starts) (at val) q)
      → Ahead (length starts) best (at val) → Takes starts lo hi best best
  takes_old val least x = record {
    kept = λ q a. a;
    added = λ q s. ahead_then best x (least q s);
    from = λ b e. inl e;
  }

  pub takes_new : (val : List ℕ) → FirstSolution (length starts) (clears_on starts) (at lo) (at hi) (at val)
      → length val ≡ 128 → Before (length starts) val best → Takes starts lo hi best (Some val)
  takes_new val first long x = record {
    kept = λ q a. before_then val best x a;
    added = λ q s. first.none_before q s;
    from = λ b e.
        let same : val ≡ b = cc in
        inr (subst (λ (l : List ℕ). (length l ≡ 128) × Solution (length starts) (clears_on starts) (at lo) (at hi) (at l)) same
        (long, first.is_solution));
  }

module _ (starts : List ℕ) (table : List Bool) where
  -- one step more
  pub better_more : {P P' P'' : (ℕ → ℕ) → Type 0} {best best' best'' : Option (List ℕ)}
      → ((q : ℕ → ℕ) → P'' q → P q ⊎ P' q) → Bettered starts table P best best'
      → Bettered starts table P' best' best'' → Bettered starts table P'' best best''
  better_more h b c =
      record {
        kept = λ q a. c.kept q (b.kept q a);
        added = λ q f p. ⊎_elim (λ y. c.kept q (b.added q f y)) (λ y. c.added q f y) (h q p);
        plans = λ f. c.plans (b.plans f);
      }

  -- a fault with no path
  pub stuck_none : Stuck (length starts) table → (q : ℕ → ℕ) → FitOn starts table q → ⊥
  stuck_none s q f =
      let r = f.straight s.k s.below in
      true≢false (sym (f.open_path s.k s.below) ∙ s.none (q s.k) r.0 r.1)

  -- One pair.
  module _ (columns : Bool) (a b : ℕ) where
    module _ (lo hi : List ℕ) (o : Offers columns a b starts table lo hi) where
      fit_solution : (q : ℕ → ℕ) → FitOn starts table q → LeftBy columns a b starts q
          → Solution (length starts) (clears_on starts) (at lo) (at hi) q
      fit_solution q f p =
          record {
            within = λ k l.
                let r = f.straight k l in
                o.only k (q k) l r.0 r.1 (and_both (alone_in table k (q k)) _ (f.open_path k l) (p k l));
            apart = f.apart;
          }

      alone_of : (k x : ℕ) → offered columns a b starts table k x ≡ true → alone_in table k x ≡ true
      alone_of k x h = (and_true (alone_in table k x) _ h).0

      solution_fit : (q : ℕ → ℕ) → Solution (length starts) (clears_on starts) (at lo) (at hi) q → FitOn starts table q
      solution_fit q s =
          record {
            straight = λ k l.
                let x = o.held.low k l in
                let y = o.held.ordered k l in
                let z = o.held.high k l in
                ⊎_elim (λ (e : q k ≡ at lo k). (omega arith, omega arith)) (λ (e : q k ≡ at hi k). (
                  omega arith,
                  omega arith,
                ))
                (s.within k l);
            open_path = λ k l.
                ⊎_elim (λ (e : q k ≡ at lo k). ap (alone_in table k) e ∙ alone_of k (at lo k) (o.low_offered k l))
                (λ (e : q k ≡ at hi k). ap (alone_in table k) e ∙ alone_of k (at hi k) (o.high_offered k l)) (s.within k l);
            apart = s.apart;
          }

      pub better_takes : {best best' : Option (List ℕ)} → Takes starts lo hi best best'
          → Bettered starts table (LeftBy columns a b starts) best best'
      better_takes t =
          record {
            kept = t.kept;
            added = λ q f p. t.added q (fit_solution q f p);
            plans = λ f b e. ⊎_elim (λ x. f b x) (λ s. (s.0, solution_fit (at b) s.1)) (t.from b e);
          }

-- A loop over ends.
pub next_below : (P : ℕ → (ℕ → ℕ) → Type 0) (t : ℕ) (q : ℕ → ℕ) → SomeBelow P (t + 1) q → SomeBelow P t q ⊎ P t q
next_below P t q s =
    by_lt s.k t (λ l. inl (record { k = s.k; below = l; is = s.is }))
    (λ l. let e : s.k ≡ t = omega (arith, s.below) in inr (subst (λ (k : ℕ). P k q) e s.is))

-- The table.
module _ (n m : ℕ) (grid starts : List ℕ) where
  abbrev entry : ℕ → Bool
  entry j = is_open n m grid (at starts (j / 4)) (j % 4 + 1)

  pub record Tabling (i : ℕ) (table : List Bool) : Type 0 where
    pub within : i ≤ 4 * length starts
    pub long : length table ≡ 512
    pub front : (j : ℕ) → j < i → get_or table j false ≡ entry j

  pub table_start : {table : List Bool} → length table ≡ 512 → Tabling 0 table
  table_start h = record { within = omega arith; long = h; front = λ j l. absurd (omega arith) }

  module _ {i : ℕ} {table : List Bool} (s : Tabling i table) where
    pub table_next : (r : Bool) (p : ℕ) → i < 4 * length starts → length starts ≤ 128 → p ≡ at starts (i / 4)
        → r ≡ is_open n m grid p (i % 4 + 1) → Tabling (i + 1) (set table i r)
    table_next r p l room ep er =
        record {
          within = omega arith;
          long = length-set table i r ∙ s.long;
          front =
              below_more (λ j. get_or (set table i r) j false ≡ entry j) i
              (λ j b. get_or-set_other table i j r false (λ e. omega arith) ∙ s.front j b)
              (get_or-set_same table i r false (omega (arith, s.long)) ∙ er
              ∙ ap (λ (z : ℕ). is_open n m grid z (i % 4 + 1)) ep);
        }

    pub table_end : 4 * length starts ≤ i → Tabled n m grid starts table
    table_end h k d l x y =
        let j = 4 * k + d - 1 in
        let ek : j / 4 ≡ k = omega arith in
        let ed : j % 4 + 1 ≡ d = omega arith in
        s.front j (omega arith) ∙ (λ z. is_open n m grid (at starts (ek z)) (ed z))
