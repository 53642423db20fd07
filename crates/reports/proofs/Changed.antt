-- A plan with another mark and another direction at one position.
-- Assumes nothing.
use Prim.Native.Nat.{ℕ, ◌≤◌, ◌<◌}
use mathlib.Core.Path.{◌≡◌, sym, ap, subst, ◌∙◌}
use mathlib.Core.Bool.{true, false, not, ◌||◌}
use mathlib.Core.List.{List}
use native.Mathlib.Omega.{arith}
use borrow.Author.Tests.{le-leb, ne_eqb}
use lib.ListN.{get_or, set, length-set}
use lib.Seq.{get_or-set_same, get_or-set_other}
use Rattle.array.specs.Place.{inner, processor}
use Rattle.array.specs.Map.{dead_mark, faulty_mark, faulty, allowed, inner_faulty, inner_fault}
use Rattle.array.proofs.Bools.{and_true, by_bool, by_eq}
use Rattle.array.proofs.Marks.{mark_read}
use Rattle.array.proofs.Places.{inner_holds}
use Rattle.array.proofs.Formed.{Formed, formed}
use Rattle.paths.specs.Path.{from_rim, is_open, clear}
use Rattle.paths.proofs.Ways.{way}
use Rattle.paths.proofs.Clashes.{clear_comm}
use Rattle.reports.proofs.Held.{Held, reformed}
use Rattle.reports.proofs.Opens.{After, open_same}

-- a direction t at p that the other paths leave free
pub record Free (n m : ℕ) (grid directions : List ℕ) (p t : ℕ) : Type 0 where
  pub low : 1 ≤ t
  pub high : t ≤ 4
  pub open_path : is_open n m grid p t ≡ true
  pub clear_path : (q : ℕ) → inner_fault n m grid q ≡ true → (q ≡ p → ⊥)
      → clear n m p t q (get_or directions q 0) ≡ true

-- A processor at p gets the mark v, which is 0 or 1, and the direction t: a free one where it is an inner fault then,
-- else 0. If it is faulty then, no other path passes it.
module _ (n m : ℕ) (grid directions : List ℕ) (h : Held n m grid directions) (p v t : ℕ) (below : p < 1024)
    (stands : processor n m p ≡ true) (mark : v ≤ 1)
    (own : inner_faulty n m p v ≡ true → Free n m grid directions p t)
    (none : inner_faulty n m p v ≡ false → t ≡ 0)
    (pass : (q : ℕ) → inner_fault n m grid q ≡ true → After n m q (get_or directions q 0) p → faulty_mark v ≡ false) where
  abbrev grid' : List ℕ
  grid' = set grid p v

  abbrev directions' : List ℕ
  directions' = set directions p t

  map : Formed n m grid
  map = formed n m grid h.map

  own_mark : (d : ℕ) → get_or grid' p d ≡ v
  own_mark d = get_or-set_same grid p v d (omega (arith, map.length_is))

  other_mark : (q d : ℕ) → (q ≡ p → ⊥) → get_or grid' q d ≡ get_or grid q d
  other_mark q d ne = get_or-set_other grid p q v d ne

  own_fault : inner_fault n m grid' p ≡ inner_faulty n m p v
  own_fault = ap (inner_faulty n m p) (own_mark 2)

  other_fault : (q : ℕ) → (q ≡ p → ⊥) → inner_fault n m grid' q ≡ inner_fault n m grid q
  other_fault q ne = ap (inner_faulty n m q) (other_mark q 2 ne)

  own_direction : get_or directions' p 0 ≡ t
  own_direction = get_or-set_same directions p t 0 (omega (arith, h.wide))

  other_direction : (q : ℕ) → (q ≡ p → ⊥) → get_or directions' q 0 ≡ get_or directions q 0
  other_direction q ne = get_or-set_other directions p q t 0 ne

  free : inner_fault n m grid' p ≡ true → Free n m grid directions p t
  free f = own (sym own_fault ∙ f)

  -- what holds at p and everywhere else holds everywhere
  everywhere : (P : ℕ → Type 0) (q : ℕ) → P p → ((q ≡ p → ⊥) → P q) → P q
  everywhere P q here there = by_eq q p (λ e. subst P (sym e) here) there

  own_allowed : allowed n m p v ≡ true
  own_allowed = by_bool (inner n m p) (λ i. rw (i, le-leb v 1 mark)) (λ i. rw (i, stands, le-leb v 1 mark))

  marks : (q : ℕ) → q < 1024 → allowed n m q (get_or grid' q 0) ≡ true
  marks q l =
      everywhere (λ z. allowed n m z (get_or grid' z 0) ≡ true) q (ap (allowed n m p) (own_mark 0) ∙ own_allowed)
      (λ ne.
      ap (allowed n m q) (other_mark q 0 ne ∙ sym (mark_read grid q (omega (arith, map.length_is)))) ∙ map.marks q l)

  own_open : inner_fault n m grid' p ≡ true → is_open n m grid' p (get_or directions' p 0) ≡ true
  own_open f =
      let o = free f in
      let i = inner_holds n m p (and_true (inner n m p) _ f).0 in
      let alive : dead_mark v ≡ false = ne_eqb v 3 (λ e. omega arith) in
      ap (is_open n m grid' p) own_direction
      ∙ open_same n m p t map.sizes.rows_high map.sizes.columns_high (way t o.low o.high) i grid grid'
      o.open_path
      (λ x. ap (λ (k : ℕ). not (dead_mark k) || from_rim n m p t) (own_mark 2) ∙ rw alive)
      (λ r a ne g. ap faulty_mark (other_mark r 2 ne) ∙ g)

  other_open : (q : ℕ) → (q ≡ p → ⊥) → inner_fault n m grid' q ≡ true → is_open n m grid' q (get_or directions' q 0) ≡ true
  other_open q ne f =
      let g : inner_fault n m grid q ≡ true = sym (other_fault q ne) ∙ f in
      let i = inner_holds n m q (and_true (inner n m q) _ f).0 in
      let s = h.plan.straight q g in
      ap (is_open n m grid' q) (other_direction q ne)
      ∙ open_same n m q (get_or directions q 0) map.sizes.rows_high map.sizes.columns_high
      (way (get_or directions q 0) s.0 s.1) i grid grid' (h.plan.open_path q g)
      (λ x. ap (λ (k : ℕ). not (dead_mark k) || from_rim n m q (get_or directions q 0)) (other_mark q 2 ne) ∙ x)
      (λ r a _ k.
      everywhere (λ z. After n m q (get_or directions q 0) z → faulty grid z ≡ false → faulty grid' z ≡ false) r
      (λ b l. ap faulty_mark (own_mark 2) ∙ pass q g b)
      (λ ne b l. ap faulty_mark (other_mark r 2 ne) ∙ l) a k)

  -- the path at p and another
  beside : (q : ℕ) → inner_fault n m grid' p ≡ true → inner_fault n m grid' q ≡ true → (q ≡ p → ⊥)
      → clear n m p (get_or directions' p 0) q (get_or directions' q 0) ≡ true
  beside q f g ne =
      (λ i. clear n m p (own_direction i) q (other_direction q ne i)) ∙ (free f).clear_path q (sym (other_fault q ne) ∙ g) ne

  clears : (q r : ℕ) → inner_fault n m grid' q ≡ true → inner_fault n m grid' r ≡ true → (q ≡ r → ⊥)
      → clear n m q (get_or directions' q 0) r (get_or directions' r 0) ≡ true
  clears q r =
      everywhere
      (λ z. inner_fault n m grid' z ≡ true → inner_fault n m grid' r ≡ true → (z ≡ r → ⊥)
      → clear n m z (get_or directions' z 0) r (get_or directions' r 0) ≡ true) q
      (λ f g ne. beside r f g (λ x. ne (sym x)))
      (λ a f g ne.
      everywhere
      (λ z. inner_fault n m grid' z ≡ true → (q ≡ z → ⊥)
      → clear n m q (get_or directions' q 0) z (get_or directions' z 0) ≡ true) r
      (λ k ne. clear_comm n m q (get_or directions' q 0) p (get_or directions' p 0) ∙ beside q k f a)
      (λ b k ne.
      (λ i. clear n m q (other_direction q a i) r (other_direction r b i))
      ∙ h.plan.clear_pair q r (sym (other_fault q a) ∙ f) (sym (other_fault r b) ∙ k) ne) g ne)

  pub changed_held : Held n m grid' directions'
  changed_held =
      record {
        map = reformed n m grid grid' h.map (length-set grid p v ∙ map.length_is) marks;
        wide = length-set directions p t ∙ h.wide;
        plan =
            record {
              straight = λ q.
                  everywhere
                  (λ z. inner_fault n m grid' z ≡ true → (1 ≤ get_or directions' z 0) × (get_or directions' z 0 ≤ 4)) q
                  (λ f. let o = free f in let d = own_direction in (omega (arith, o.low), omega (arith, o.high)))
                  (λ ne f.
                  let s = h.plan.straight q (sym (other_fault q ne) ∙ f) in
                  let d = other_direction q ne in
                  (omega (arith, s.0), omega (arith, s.1)));
              open_path = λ q.
                  everywhere (λ z. inner_fault n m grid' z ≡ true → is_open n m grid' z (get_or directions' z 0) ≡ true) q
                  own_open (other_open q);
              clear_pair = clears;
            };
        elsewhere = λ q l.
            everywhere (λ z. inner_fault n m grid' z ≡ false → get_or directions' z 0 ≡ 0) q
            (λ f. own_direction ∙ none (sym own_fault ∙ f))
            (λ ne f. other_direction q ne ∙ h.elsewhere q l (sym (other_fault q ne) ∙ f));
      }
