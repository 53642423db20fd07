-- Lemma 2: every plan is left by some pair that is tried. Of the geometry only `Crossing` and `Facing` are used.
-- Assumes nothing.
use Prim.Native.Nat.{ℕ, zero, suc, ◌-◌, ◌≤◌, ◌<◌}
use mathlib.Core.Path.{◌≡◌, refl, sym, ap, ◌∙◌}
use mathlib.Core.Bool.{Bool, true, false, cond, not, ◌||◌, true≢false}
use mathlib.Core.Logic.{◌⊎◌, inl, inr, ⊎_elim}
use native.Mathlib.Omega.{arith}
use borrow.Author.Tests.{eqb-true, eq-eqb, ne_eqb, lt-ltb, le-ltb, le-leb}
use lib.Dec.{leb, ltb, eqb}
use Rattle.array.specs.Place.{row, column}
use Rattle.array.proofs.Bools.{and_both, or_left, or_right, by_bool, by_lt}
use Rattle.paths.proofs.Ways.{Way, south, north, east, west}
use Rattle.exact.specs.Masks.{fits, exchanged, leaves, tried, end_of}
use Rattle.exact.specs.Problem.{Crossing, Facing, Covered, SomePair}

-- of the faults that pass a test, one that is furthest
pub record Furthest (goes : ℕ → Bool) (far : ℕ → ℕ) (count : ℕ) : Type 0 where
  pub k : ℕ
  pub below : k < count
  pub passes : goes k ≡ true
  pub most : (j : ℕ) → j < count → goes j ≡ true → far j ≤ far k

pub furthest : (goes : ℕ → Bool) (far : ℕ → ℕ) (count : ℕ)
    → ((j : ℕ) → j < count → goes j ≡ false) ⊎ Furthest goes far count
furthest goes far zero = inl (λ j l. absurd (omega arith))
furthest goes far (suc n) =
    by_bool (goes n)
    (λ t.
    ⊎_elim
    (λ none. inr (record {
      k = n;
      below = omega arith;
      passes = t;
      most = last (λ j l g. absurd (true≢false (sym g ∙ none j l)));
    }))
    (λ f.
    by_lt (far f.k) (far n)
    (λ l. inr (record {
      k = n;
      below = omega arith;
      passes = t;
      most = last (λ j h g. let m = f.most j h g in omega arith);
    }))
    (λ l. inr (record {
      k = f.k;
      below = omega (arith, f.below);
      passes = f.passes;
      most = λ j h g. by_lt j n (λ b. f.most j b g) (λ b. let e : j ≡ n = omega arith in rw e l);
    })))
    (furthest goes far n))
    (λ t.
    ⊎_elim
    (λ none. inl (λ j l. by_lt j n (λ b. none j b) (λ b. let e : j ≡ n = omega arith in rw e t)))
    (λ f. inr (record {
      k = f.k;
      below = omega (arith, f.below);
      passes = f.passes;
      most = λ j h g.
          by_lt j n (λ b. f.most j b g) (λ b. let e : j ≡ n = omega arith in absurd (true≢false (sym (rw e at g) ∙
          t)));
    }))
    (furthest goes far n))
  where
    last : ((j : ℕ) → j < n → goes j ≡ true → far j ≤ far n) → (j : ℕ) → j < suc n → goes j ≡ true → far j ≤ far n
    last h j l g = by_lt j n (λ b. h j b g) (λ b. let e : j ≡ n = omega arith in rw e (omega arith))

-- the end of a pair
end_there : (count : ℕ) (starts : ℕ → ℕ) (none k : ℕ) → k < count → end_of count starts none k ≡ starts k
end_there count starts none k l = rw (lt-ltb k count l)

end_none : (count : ℕ) (starts : ℕ → ℕ) (none : ℕ) → end_of count starts none count ≡ none
end_none count starts none = rw (le-ltb count count (omega arith))

-- Rows, or columns: Us and Vs of positions.
module _ (count : ℕ) (starts : ℕ → ℕ) (Us Vs : ℕ → ℕ) (first : Us 0 ≡ 0) (last : Us 1023 ≡ 31)
    (inside : (k : ℕ) → k < count → (1 ≤ Us (starts k)) × (Us (starts k) ≤ 30)) (q : ℕ → ℕ) where
  abbrev u : ℕ → ℕ
  u k = Us (starts k)

  abbrev v : ℕ → ℕ
  v k = Vs (starts k)

  -- a lowest fault that goes north, or none
  record Lowest (a : ℕ) : Type 0 where
    pub within : a ≤ count
    pub goes : a < count → q a ≡ 2
    pub most : (k : ℕ) → k < count → q k ≡ 2 → u k ≤ Us (end_of count starts 0 a)
    pub there : 1 ≤ Us (end_of count starts 0 a) → a < count
    pub bound : Us (end_of count starts 0 a) ≤ 30

  -- a highest fault that goes south, or none
  record Highest (b : ℕ) : Type 0 where
    pub within : b ≤ count
    pub goes : b < count → q b ≡ 1
    pub least : (k : ℕ) → k < count → q k ≡ 1 → Us (end_of count starts 1023 b) ≤ u k
    pub there : Us (end_of count starts 1023 b) ≤ 30 → b < count
    pub bound : 1 ≤ Us (end_of count starts 1023 b)

  record SomeLowest : Type 0 where
    pub a : ℕ
    pub is : Lowest a

  record SomeHighest : Type 0 where
    pub b : ℕ
    pub is : Highest b

  lowest : SomeLowest
  lowest =
      ⊎_elim
      (λ none. record {
        a = count;
        is = record {
          within = omega arith;
          goes = λ l. absurd (omega arith);
          most = λ k l e. absurd (true≢false (sym (eq-eqb (q k) 2 e) ∙ none k l));
          there = λ l. let z = ap Us (end_none count starts 0) ∙ first in absurd (omega arith);
          bound = let z = ap Us (end_none count starts 0) ∙ first in omega arith;
        };
      })
      (λ (f : Furthest (λ k. eqb (q k) 2) u count).
      let e = ap Us (end_there count starts 0 f.k f.below) in
      record {
        a = f.k;
        is = record {
          within = omega (arith, f.below);
          goes = λ l. eqb-true (q f.k) 2 f.passes;
          most = λ k l g. let m = f.most k l (eq-eqb (q k) 2 g) in omega arith;
          there = λ l. f.below;
          bound = omega (arith, inside f.k f.below);
        };
      })
      (furthest (λ k. eqb (q k) 2) u count)

  highest : SomeHighest
  highest =
      ⊎_elim
      (λ none. record {
        b = count;
        is = record {
          within = omega arith;
          goes = λ l. absurd (omega arith);
          least = λ k l e. absurd (true≢false (sym (eq-eqb (q k) 1 e) ∙ none k l));
          there = λ l. let z = ap Us (end_none count starts 1023) ∙ last in absurd (omega arith);
          bound = let z = ap Us (end_none count starts 1023) ∙ last in omega arith;
        };
      })
      (λ (f : Furthest (λ k. eqb (q k) 1) (λ k. 30 - u k) count).
      let e = ap Us (end_there count starts 1023 f.k f.below) in
      record {
        b = f.k;
        is = record {
          within = omega (arith, f.below);
          goes = λ l. eqb-true (q f.k) 1 f.passes;
          least = λ k l g.
              let m = f.most k l (eq-eqb (q k) 1 g) in
              omega (arith, inside k l, inside f.k f.below);
          there = λ l. f.below;
          bound = omega (arith, inside f.k f.below);
        };
      })
      (furthest (λ k. eqb (q k) 1) (λ k. 30 - u k) count)

  -- What a pair of such ends leaves: all of q, once the faults between them are on the right side.
  module _ (cross : Crossing count u v q) (a b : ℕ) (low : Lowest a) (high : Highest b) where
    abbrev pa : ℕ
    pa = end_of count starts 0 a

    abbrev pb : ℕ
    pb = end_of count starts 1023 b

    record Sided : Type 0 where
      pub south_side : (k : ℕ) → k < count → q k ≡ 1 → u k ≤ Us pa → cond (ltb (Vs pa) (Vs pb)) (ltb (Vs pa) (v k))
          (ltb (v k) (Vs pa)) ≡ true
      pub north_side : (k : ℕ) → k < count → q k ≡ 2 → Us pb ≤ u k → cond (ltb (Vs pa) (Vs pb)) (ltb (v k) (Vs pb))
          (ltb (Vs pb) (v k)) ≡ true

    -- the path north from a, where some fault is not below it, and the path south from b
    module _ (k : ℕ) (l : k < count) where
      clear_of_north : (P : ℕ → ℕ → Type 0) → ((f : ℕ) → f < count → q f ≡ 2 → P (u f) (v f)) → u k ≤ Us pa → P (Us
          pa) (Vs pa)
      clear_of_north P h g =
          let below = low.there (omega (arith, inside k l)) in
          rw (end_there count starts 0 a below) (h a below (low.goes below))

      clear_of_south : (P : ℕ → ℕ → Type 0) → ((f : ℕ) → f < count → q f ≡ 1 → P (u f) (v f)) → Us pb ≤ u k → P (Us
          pb) (Vs pb)
      clear_of_south P h g =
          let below = high.there (omega (arith, inside k l)) in
          rw (end_there count starts 1023 b below) (h b below (high.goes below))

      less_or : (x y z w : ℕ) → (y ≤ x → w ≤ z → ⊥) → (ltb x y || ltb z w) ≡ true
      less_or x y z w h =
          by_lt x y (λ s. or_left (ltb x y) _ (lt-ltb x y s))
          (λ s. or_right (ltb x y) _ (lt-ltb z w (by_lt z w (λ t. t) (λ t. absurd (h s t)))))

      by_way : Sided → (d : ℕ) → q k ≡ d → Way d → fits (Us pa) (Vs pa) (Us pb) (Vs pb) (u k) (v k) d ≡ true
      unfolding fits
      by_way s d e south =
          and_both (leb (Us pb) (u k)) _ (le-leb (Us pb) (u k) (high.least k l e))
          (by_lt (Us pa) (u k) (λ g. or_left (ltb (Us pa) (u k)) _ (lt-ltb (Us pa) (u k) g))
          (λ g. or_right (ltb (Us pa) (u k)) _ (s.south_side k l e g)))
      by_way s d e north =
          and_both (leb (u k) (Us pa)) _ (le-leb (u k) (Us pa) (low.most k l e))
          (by_lt (u k) (Us pb) (λ g. or_left (ltb (u k) (Us pb)) _ (lt-ltb (u k) (Us pb) g))
          (λ g. or_right (ltb (u k) (Us pb)) _ (s.north_side k l e g)))
      by_way s d e east =
          and_both (ltb (Us pa) (u k) || ltb (Vs pa) (v k)) (ltb (u k) (Us pb) || ltb (Vs pb) (v k))
          (less_or (Us pa) (u k) (Vs pa) (v k) (λ g. clear_of_north (λ x y. u k ≤ x → v k ≤ y → ⊥) (λ f h i. cross.north_east f k h l i e) g g))
          (less_or (u k) (Us pb) (Vs pb) (v k) (λ g. clear_of_south (λ x y. x ≤ u k → v k ≤ y → ⊥) (λ f h i. cross.south_east f k h l i e) g g))
      by_way s d e west =
          and_both (ltb (Us pa) (u k) || ltb (v k) (Vs pa)) (ltb (u k) (Us pb) || ltb (v k) (Vs pb))
          (less_or (Us pa) (u k) (v k) (Vs pa) (λ g. clear_of_north (λ x y. u k ≤ x → y ≤ v k → ⊥) (λ f h i. cross.north_west f k h l i e) g g))
          (less_or (u k) (Us pb) (v k) (Vs pb) (λ g. clear_of_south (λ x y. x ≤ u k → y ≤ v k → ⊥) (λ f h i. cross.south_west f k h l i e) g g))

      leaves_it : Sided → Way (q k) → fits (Us pa) (Vs pa) (Us pb) (Vs pb) (u k) (v k) (q k) ≡ true
      leaves_it s w = by_way s (q k) refl w

    -- where a stands above b, no fault is between them
    plain : Us pa < Us pb → Sided
    plain h = record {
      south_side = λ k l e g. let z = high.least k l e in absurd (omega arith);
      north_side = λ k l e g. let z = low.most k l e in absurd (omega arith);
    }

-- The numbers of a pinwheel: paths north from (un, vn), south from (us, vs), west from (uw, vw) and east from (ue, ve).
module _ (un vn us vs uw vw ue ve : ℕ) (rows : us ≤ un) (columns : ve ≤ vw)
    (nw : uw ≤ un → vn ≤ vw → ⊥) (ne : ue ≤ un → ve ≤ vn → ⊥) (sw : us ≤ uw → vs ≤ vw → ⊥) (se : us ≤ ue → ve ≤ vs →
    ⊥) where
  one_way : vn < vs → ((un < uw) × (vn < vw)) × ((ue < us) × (ve < vs))
  one_way h =
      by_lt un ue
      (λ l.
      let x : ve ≤ vs → ⊥ = se (omega arith) in
      let y : un < uw = by_lt un uw (λ g. g) (λ g. absurd (nw g (omega arith))) in
      absurd (sw (omega arith) (omega arith)))
      (λ l.
      let x : ve ≤ vn → ⊥ = ne l in
      let y : un < uw = by_lt un uw (λ g. g) (λ g. absurd (nw g (omega arith))) in
      let z : vs ≤ vw → ⊥ = sw (omega arith) in
      let w : ue < us = by_lt ue us (λ g. g) (λ g. absurd (se g (omega arith))) in
      omega arith)

  other_way : vs < vn → ((un < ue) × (ve < vn)) × ((uw < us) × (vs < vw))
  other_way h =
      by_lt un uw
      (λ l.
      let x : vs ≤ vw → ⊥ = sw (omega arith) in
      let y : un < ue = by_lt un ue (λ g. g) (λ g. absurd (ne g (omega arith))) in
      absurd (se (omega arith) (omega arith)))
      (λ l.
      let x : vn ≤ vw → ⊥ = nw l in
      let y : un < ue = by_lt un ue (λ g. g) (λ g. absurd (ne g (omega arith))) in
      let z : ve ≤ vs → ⊥ = se (omega arith) in
      let w : uw < us = by_lt uw us (λ g. g) (λ g. absurd (sw g (omega arith))) in
      omega arith)

-- the side of a fault between a and b, by numbers
south_sided : (x y z : ℕ) → ((x < y) × (x < z)) ⊎ ((y < x) × (z < x)) → cond (ltb x y) (ltb x z) (ltb z x) ≡ true
south_sided x y z (inl h) = rw (lt-ltb x y h.0) (lt-ltb x z h.1)
south_sided x y z (inr h) = rw (le-ltb x y (omega arith)) (lt-ltb z x h.1)

north_sided : (x y z : ℕ) → ((x < y) × (z < y)) ⊎ ((y < x) × (y < z)) → cond (ltb x y) (ltb z y) (ltb y z) ≡ true
north_sided x y z (inl h) = rw (lt-ltb x y h.0) (lt-ltb z y h.1)
north_sided x y z (inr h) = rw (le-ltb x y (omega arith)) (lt-ltb y z h.1)

-- rows and columns exchanged
exchanged_twice : (d : ℕ) → Way d → exchanged (exchanged d) ≡ d
exchanged_twice d south = refl
exchanged_twice d north = refl
exchanged_twice d east = refl
exchanged_twice d west = refl

exchanged_way : (d : ℕ) → Way d → Way (exchanged d)
exchanged_way d south = east
exchanged_way d north = west
exchanged_way d east = south
exchanged_way d west = north

-- A plan, by the places of its faults.
module _ (count : ℕ) (starts q : ℕ → ℕ) (straight : (k : ℕ) → k < count → Way (q k))
    (rows : (k : ℕ) → k < count → (1 ≤ row (starts k)) × (row (starts k) ≤ 30))
    (columns : (k : ℕ) → k < count → (1 ≤ column (starts k)) × (column (starts k) ≤ 30))
    (cross : Crossing count (λ k. row (starts k)) (λ k. column (starts k)) q)
    (facing : Facing count (λ k. row (starts k)) (λ k. column (starts k)) q) where
  abbrev q' : ℕ → ℕ
  q' k = exchanged (q k)

  -- who goes where, exchanged back
  back : (k d : ℕ) → k < count → q' k ≡ d → q k ≡ exchanged d
  back k d l h = sym (exchanged_twice (q k) (straight k l)) ∙ ap exchanged h

  cross' : Crossing count (λ k. column (starts k)) (λ k. row (starts k)) q'
  cross' = record {
    north_west = λ a f h l i j x y. cross.north_west f a l h (back f 4 l j) (back a 2 h i) y x;
    north_east = λ a f h l i j x y. cross.south_west f a l h (back f 3 l j) (back a 2 h i) y x;
    south_west = λ b f h l i j x y. cross.north_east f b l h (back f 4 l j) (back b 1 h i) y x;
    south_east = λ b f h l i j x y. cross.south_east f b l h (back f 3 l j) (back b 1 h i) y x;
  }

  -- the ends found, with what is known of them
  module _ (n s w e : ℕ)
      (ln : Lowest count starts row column refl refl rows q n) (hs : Highest count starts row column refl refl rows q s)
      (lw : Lowest count starts column row refl refl columns q' w) (he : Highest count starts column row refl refl
      columns q' e) where
    abbrev pn : ℕ
    pn = end_of count starts 0 n

    abbrev ps : ℕ
    ps = end_of count starts 1023 s

    abbrev pw : ℕ
    pw = end_of count starts 0 w

    abbrev pe : ℕ
    pe = end_of count starts 1023 e

    pair_of_rows : tried false pn ps ≡ true → Sided count starts row column refl refl rows q cross n s ln hs →
        Covered count starts q false n s
    unfolding leaves
    pair_of_rows t z = record {
      a_within = ln.within;
      b_within = hs.within;
      a_goes = ln.goes;
      b_goes = hs.goes;
      is_tried = t;
      each = λ k l. leaves_it count starts row column refl refl rows q cross n s ln hs k l z (straight k l);
    }

    pair_of_columns : column pw < column pe → Covered count starts q true w e
    unfolding leaves tried
    pair_of_columns h = record {
      a_within = lw.within;
      b_within = he.within;
      a_goes = λ l. back w 2 l (lw.goes l);
      b_goes = λ l. back e 1 l (he.goes l);
      is_tried = lt-ltb (column pw) (column pe) h;
      each = λ k l.
          leaves_it count starts column row refl refl columns q' cross' w e lw he k l
          (plain count starts column row refl refl columns q' cross' w e lw he h) (exchanged_way (q k) (straight k l));
    }

    rows_tried : row pn < row ps → tried false pn ps ≡ true
    unfolding tried
    rows_tried h = or_left (ltb (row pn) (row ps)) _ (lt-ltb (row pn) (row ps) h)

    wheel_tried : (column pn ≡ column ps → ⊥) → tried false pn ps ≡ true
    unfolding tried
    wheel_tried h = or_right (ltb (row pn) (row ps)) _ (ap not (ne_eqb (column pn) (column ps) h))

    -- all four are there, and neither pair stands apart
    module _ (not-rows : row ps ≤ row pn) (not-columns : column pe ≤ column pw) where
      n_there : n < count
      n_there = ln.there (omega (arith, hs.bound))

      s_there : s < count
      s_there = hs.there (omega (arith, ln.bound))

      w_there : w < count
      w_there = lw.there (omega (arith, he.bound))

      e_there : e < count
      e_there = he.there (omega (arith, lw.bound))

      en : pn ≡ starts n
      en = end_there count starts 0 n n_there

      es : ps ≡ starts s
      es = end_there count starts 1023 s s_there

      ew : pw ≡ starts w
      ew = end_there count starts 0 w w_there

      ee : pe ≡ starts e
      ee = end_there count starts 1023 e e_there

      w_goes : q w ≡ 4
      w_goes = back w 2 w_there (lw.goes w_there)

      e_goes : q e ≡ 3
      e_goes = back e 1 e_there (he.goes e_there)

      abbrev R : ℕ → ℕ
      R k = row (starts k)

      abbrev C : ℕ → ℕ
      C k = column (starts k)

      apart : C n ≡ C s → ⊥
      apart h = facing n s n_there s_there (ln.goes n_there) (hs.goes s_there) h (omega (arith, ap row en, ap row es))

      rows_over : R s ≤ R n
      rows_over = omega (arith, ap row en, ap row es)

      columns_over : C e ≤ C w
      columns_over = omega (arith, ap column ew, ap column ee)

      nw : R w ≤ R n → C n ≤ C w → ⊥
      nw = cross.north_west n w n_there w_there (ln.goes n_there) w_goes

      ne : R e ≤ R n → C e ≤ C n → ⊥
      ne = cross.north_east n e n_there e_there (ln.goes n_there) e_goes

      sw : R s ≤ R w → C s ≤ C w → ⊥
      sw = cross.south_west s w s_there w_there (hs.goes s_there) w_goes

      se : R s ≤ R e → C e ≤ C s → ⊥
      se = cross.south_east s e s_there e_there (hs.goes s_there) e_goes

      wheel_sided : Sided count starts row column refl refl rows q cross n s ln hs
      wheel_sided =
          let xn = ap column en in
          let xs = ap column es in
          let yn = ap row en in
          let ys = ap row es in
          by_lt (C n) (C s)
          (λ h.
          let z = one_way (R n) (C n) (R s) (C s) (R w) (C w) (R e) (C e) rows_over columns_over nw ne sw se h in
          record {
            south_side = λ k l i g.
                south_sided (column pn) (column ps) (C k) (inl (
                  omega arith,
                  by_lt (column pn) (C k) (λ t. t)
                      (λ t. absurd (cross.south_west k w l w_there i w_goes (omega arith) (omega arith))),
                ));
            north_side = λ k l i g.
                north_sided (column pn) (column ps) (C k) (inl (
                  omega arith,
                  by_lt (C k) (column ps) (λ t. t)
                      (λ t. absurd (cross.north_east k e l e_there i e_goes (omega arith) (omega arith))),
                ));
          })
          (λ h.
          let a = apart in
          let g : C s < C n = omega arith in
          let z = other_way (R n) (C n) (R s) (C s) (R w) (C w) (R e) (C e) rows_over columns_over nw ne sw se g in
          record {
            south_side = λ k l i g.
                south_sided (column pn) (column ps) (C k) (inr (
                  omega arith,
                  by_lt (C k) (column pn) (λ t. t)
                      (λ t. absurd (cross.south_east k e l e_there i e_goes (omega arith) (omega arith))),
                ));
            north_side = λ k l i g.
                north_sided (column pn) (column ps) (C k) (inr (
                  omega arith,
                  by_lt (column ps) (C k) (λ t. t)
                      (λ t. absurd (cross.north_west k w l w_there i w_goes (omega arith) (omega arith))),
                ));
          })

      wheel : Covered count starts q false n s
      wheel =
          let a = apart in
          pair_of_rows (wheel_tried (λ h. a (omega (arith, ap column en, ap column es)))) wheel_sided

    chosen : SomePair count starts q
    chosen =
        by_lt (row pn) (row ps)
        (λ h. record {
          by_columns = false;
          a = n;
          b = s;
          covered = pair_of_rows (rows_tried h) (plain count starts row column refl refl rows q cross n s ln hs h);
        })
        (λ h.
        by_lt (column pw) (column pe)
        (λ g. record { by_columns = true; a = w; b = e; covered = pair_of_columns g })
        (λ g. record { by_columns = false; a = n; b = s; covered = wheel h g }))

  -- some pair leaves all directions of the plan
  pub some_pair : SomePair count starts q
  some_pair =
      let n = lowest count starts row column refl refl rows q in
      let s = highest count starts row column refl refl rows q in
      let w = lowest count starts column row refl refl columns q' in
      let e = highest count starts column row refl refl columns q' in
      chosen n.a s.b w.a e.b n.is s.is w.is e.is
