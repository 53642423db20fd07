-- The options of a fault, from the four tests of its directions, and the loop that sets them.
-- Assumes nothing.
use Prim.Native.Nat.{ℕ, ◌+◌, ◌≤◌, ◌<◌}
use mathlib.Core.Path.{◌≡◌, refl, sym, ap, ◌∙◌}
use mathlib.Core.Bool.{Bool, true, false, ◌&&◌, false≢true}
use mathlib.Core.Logic.{◌⊎◌, inl, inr}
use mathlib.Core.List.{List}
use native.Mathlib.Omega.{arith}
use lib.ListN.{length, set, length-set}
use lib.Seq.{get_or-set_same, get_or-set_other}
use Rattle.array.proofs.Bools.{and_true, by_eq}
use Rattle.paths.proofs.Ways.{Way, way, south, north, east, west}
use Rattle.exact.specs.Masks.{leaves, tried}
use Rattle.exact.specs.Options.{at}
use Rattle.exact.specs.Inner.{alone_in, offered, lowest, highest, Offers}
use Rattle.exact.proofs.Masks.{two_options}

between : (s n e w : Bool) → (lowest s n e w ≡ 0 → ⊥) → (1 ≤ lowest s n e w) × (lowest s n e w ≤ highest s n e w) ×
    (highest s n e w ≤ 4)
between true true true true h = omega arith
between true true true false h = omega arith
between true true false true h = omega arith
between true true false false h = omega arith
between true false true true h = omega arith
between true false true false h = omega arith
between true false false true h = omega arith
between true false false false h = omega arith
between false true true true h = omega arith
between false true true false h = omega arith
between false true false true h = omega arith
between false true false false h = omega arith
between false false true true h = omega arith
between false false true false h = omega arith
between false false false true h = omega arith
between false false false false h = absurd (h refl)

-- Four tests of one fault, of which no three pass.
module _ (f : ℕ → Bool) (few : (d e g : ℕ) → 1 ≤ d → d < e → e < g → g ≤ 4 → f d ≡ true → f e ≡ true → f g ≡ true →
    ⊥) where
  lowest_passes : (s n e w : Bool) → s ≡ f 1 → n ≡ f 2 → e ≡ f 3 → w ≡ f 4 → (lowest s n e w ≡ 0 → ⊥) → f (lowest s n
      e w) ≡ true
  lowest_passes true n e w a b c d h = sym a
  lowest_passes false true e w a b c d h = sym b
  lowest_passes false false true w a b c d h = sym c
  lowest_passes false false false true a b c d h = sym d
  lowest_passes false false false false a b c d h = absurd (h refl)

  highest_passes : (s n e w : Bool) → s ≡ f 1 → n ≡ f 2 → e ≡ f 3 → w ≡ f 4 → (lowest s n e w ≡ 0 → ⊥) → f (highest s
      n e w) ≡ true
  highest_passes s n e true a b c d h = sym d
  highest_passes s n true false a b c d h = sym c
  highest_passes s true false false a b c d h = sym b
  highest_passes true false false false a b c d h = sym a
  highest_passes false false false false a b c d h = absurd (h refl)

  south_only : (s n e w : Bool) → s ≡ true → 1 ≡ lowest s n e w
  south_only true n e w h = refl
  south_only false n e w h = absurd (false≢true h)

  west_only : (s n e w : Bool) → w ≡ true → 4 ≡ highest s n e w
  west_only s n e true h = refl
  west_only s n e false h = absurd (false≢true h)

  north_only : (s n e w : Bool) → s ≡ f 1 → n ≡ f 2 → e ≡ f 3 → w ≡ f 4 → n ≡ true → (2 ≡ lowest s n e w) ⊎ (2 ≡
      highest s n e w)
  north_only s false e w a b c d h = absurd (false≢true h)
  north_only false true e w a b c d h = inl refl
  north_only true true false false a b c d h = inr refl
  north_only true true true w a b c d h = absurd (few 1 2 3 (omega arith) (omega arith) (omega arith) (omega arith)
      (sym a) (sym b) (sym c))
  north_only true true false true a b c d h = absurd (few 1 2 4 (omega arith) (omega arith) (omega arith) (omega
      arith) (sym a) (sym b) (sym d))

  east_only : (s n e w : Bool) → s ≡ f 1 → n ≡ f 2 → e ≡ f 3 → w ≡ f 4 → e ≡ true → (3 ≡ lowest s n e w) ⊎ (3 ≡
      highest s n e w)
  east_only s n false w a b c d h = absurd (false≢true h)
  east_only s n true false a b c d h = inr refl
  east_only false false true true a b c d h = inl refl
  east_only true n true true a b c d h = absurd (few 1 3 4 (omega arith) (omega arith) (omega arith) (omega arith)
      (sym a) (sym c) (sym d))
  east_only false true true true a b c d h = absurd (few 2 3 4 (omega arith) (omega arith) (omega arith) (omega
      arith) (sym b) (sym c) (sym d))

  module _ (s n e w : Bool) (a : s ≡ f 1) (b : n ≡ f 2) (c : e ≡ f 3) (g : w ≡ f 4) where
    only_of : (d : ℕ) → Way d → f d ≡ true → (d ≡ lowest s n e w) ⊎ (d ≡ highest s n e w)
    only_of d south h = inl (south_only s n e w (a ∙ h))
    only_of d north h = north_only s n e w a b c g (b ∙ h)
    only_of d east h = east_only s n e w a b c g (c ∙ h)
    only_of d west h = inr (west_only s n e w (g ∙ h))

module _ (columns : Bool) (a b : ℕ) (starts : List ℕ) (table : List Bool) where
  -- the options of fault j
  pub record Offer (j x y : ℕ) : Type 0 where
    pub low : 1 ≤ x
    pub ordered : x ≤ y
    pub high : y ≤ 4
    pub low_offered : offered columns a b starts table j x ≡ true
    pub high_offered : offered columns a b starts table j y ≡ true
    pub only : (d : ℕ) → 1 ≤ d → d ≤ 4 → offered columns a b starts table j d ≡ true → (d ≡ x) ⊎ (d ≡ y)

  pub record Offering (k : ℕ) (lo hi : List ℕ) : Type 0 where
    pub within : k ≤ length starts
    pub low_long : length lo ≡ 128
    pub high_long : length hi ≡ 128
    pub each : (j : ℕ) → j < k → Offer j (at lo j) (at hi j)

  pub offer_start : {lo hi : List ℕ} → length lo ≡ 128 → length hi ≡ 128 → Offering 0 lo hi
  offer_start x y = record { within = omega arith; low_long = x; high_long = y; each = λ j l. absurd (omega arith) }

  module _ (t : tried columns a b ≡ true) (room : length starts ≤ 128) where
    few : (k d e g : ℕ) → 1 ≤ d → d < e → e < g → g ≤ 4 → offered columns a b starts table k d ≡ true
        → offered columns a b starts table k e ≡ true → offered columns a b starts table k g ≡ true → ⊥
    few k d e g l m o h x y z =
        two_options columns a b (at starts k) d e g t l m o h
        (and_true (alone_in table k d) _ x).1 (and_true (alone_in table k e) _ y).1 (and_true (alone_in table k g)
        _ z).1

    module _ {k : ℕ} {lo hi : List ℕ} (v : Offering k lo hi) (l : k < length starts) {p : ℕ} (here : p ≡ at starts k)
        {s n e w : Bool}
        (fs : s ≡ (alone_in table k 1 && leaves columns a b p 1)) (fn : n ≡ (alone_in table k 2 && leaves columns a b
        p 2))
        (fe : e ≡ (alone_in table k 3 && leaves columns a b p 3)) (fw : w ≡ (alone_in table k 4 && leaves columns a b
        p 4)) where
      abbrev f : ℕ → Bool
      f d = offered columns a b starts table k d

      at_here : (d : ℕ) → (alone_in table k d && leaves columns a b p d) ≡ f d
      at_here d = ap (λ (x : ℕ). alone_in table k d && leaves columns a b x d) here

      es : s ≡ f 1
      es = fs ∙ at_here 1

      en : n ≡ f 2
      en = fn ∙ at_here 2

      ee : e ≡ f 3
      ee = fe ∙ at_here 3

      ew : w ≡ f 4
      ew = fw ∙ at_here 4

      offer_here : (lowest s n e w ≡ 0 → ⊥) → Offer k (lowest s n e w) (highest s n e w)
      offer_here ne =
          let r = between s n e w ne in
          record {
            low = r.0;
            ordered = r.1;
            high = r.2;
            low_offered = lowest_passes f (few k) s n e w es en ee ew ne;
            high_offered = highest_passes f (few k) s n e w es en ee ew ne;
            only = λ d i j. only_of f (few k) s n e w es en ee ew d (way d i j);
          }

      pub offer_next : {x y : ℕ} → x ≡ lowest s n e w → (x ≡ 0 → ⊥) → y ≡ highest s n e w → Offering (k + 1) (set lo
          k x) (set hi k y)
      offer_next {x} {y} ex ne ey =
          let o : Offer k x y = rw (ex, ey) (offer_here (λ z. ne (ex ∙ z))) in
          record {
            within = omega arith;
            low_long = length-set lo k x ∙ v.low_long;
            high_long = length-set hi k y ∙ v.high_long;
            each = λ j m.
                by_eq j k
                (λ (z : j ≡ k).
                rw z
                (rw (
                  get_or-set_same lo k x 0 (omega (arith, v.low_long)),
                  get_or-set_same hi k y 0 (omega (
                    arith,
                    v.high_long,
                  )),
                ) o))
                (λ z. rw (get_or-set_other lo k j x 0 z, get_or-set_other hi k j y 0 z) (v.each j (omega arith)));
          }

    pub offer_end : {k : ℕ} {lo hi : List ℕ} → Offering k lo hi → length starts ≤ k → Offers columns a b starts table
        lo hi
    offer_end v h = record {
      held = record {
        room = room;
        low_long = v.low_long;
        high_long = v.high_long;
        low = λ j l. (v.each j (omega arith)).low;
        ordered = λ j l. (v.each j (omega arith)).ordered;
        high = λ j l. (v.each j (omega arith)).high;
      };
      low_offered = λ j l. (v.each j (omega arith)).low_offered;
      high_offered = λ j l. (v.each j (omega arith)).high_offered;
      only = λ j d l. (v.each j (omega arith)).only d;
    }
