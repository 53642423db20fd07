-- A filter into row order: the law of every loop that collects the positions whose element passes a test.
-- Assumes nothing.
use mathlib.Core.Path.{◌≡◌, refl, sym, ap, ◌∙◌}
use mathlib.Core.Bool.{Bool, true, false, cond}
use mathlib.Core.List.{List, [], ◌∷◌, ◌++◌, append_assoc, append-nil}
use Prim.Native.Nat.{ℕ, zero, suc, ◌+◌, ◌<◌, ◌≤◌}
use native.Mathlib.Numerals.{add-one}
use native.Mathlib.Omega.{arith}
use native.Mathlib.Nat.{le_of_suc-le-suc, not-suc-le-zero, add-zero, add-suc, suc-add}
use lib.ListN.{length, get_or, set, take, drop, length-set, take-append-drop, drop_of_length-le}
use lib.Seq.{take-suc-set, drop-set-lt, drop-drop, drop-cons, length-take-le}
use Rattle.array.specs.Buffer.{positions_along, positions_in}

abbrev pub passes_at : (ℕ → ℕ → Bool) → List ℕ → ℕ → Bool
passes_at t b p = t p (get_or b p 0)

-- what is still to be collected from position p on
abbrev left_from : (ℕ → ℕ → Bool) → List ℕ → ℕ → List ℕ
left_from t b p = positions_along t p (drop p b)

module _ (t : ℕ → ℕ → Bool) (b : List ℕ) (p : ℕ) where
  left_turn : p < length b → left_from t b p ≡ cond (passes_at t b p) (p ∷ left_from t b (p + 1)) (left_from t b (p + 1))
  unfolding positions_along
  left_turn h = rw (drop-cons b p 0 h, add-one p)

  left_end : length b ≤ p → left_from t b p ≡ []
  unfolding positions_along
  left_end h = rw (drop_of_length-le b h)

-- The invariant of a loop that collects the passing positions of the buffer b into the front of another.
pub record Collecting (t : ℕ → ℕ → Bool) (b : List ℕ) (p : ℕ) (old new : List ℕ) (count : ℕ) : Type 0 where
  pub within : p ≤ length b
  pub low : count ≤ p
  pub room : length b ≤ length old
  pub long : length new ≡ length old
  pub kept : drop count new ≡ drop count old
  pub all : take count new ++ left_from t b p ≡ positions_in t b

pub collect_start : (t : ℕ → ℕ → Bool) (b old : List ℕ) → length b ≤ length old → Collecting t b 0 old old 0
collect_start t b old h =
    record { within = omega arith; low = omega arith; room = h; long = refl; kept = refl; all = refl }

module _ {t : ℕ → ℕ → Bool} {b : List ℕ} {p : ℕ} {old new : List ℕ} {count : ℕ} (s : Collecting t b p old new count) where
  pub collect_take : (v : ℕ) → p < length b → passes_at t b p ≡ true → v ≡ p → Collecting t b (p + 1) old (set new count v) (count + 1)
  collect_take v h q e =
      let c : count < length new = omega (arith, s.low, s.room, s.long) in
      record {
        within = omega arith;
        low = omega (arith, s.low);
        room = s.room;
        long = length-set new count v ∙ s.long;
        kept =
            drop-set-lt (count + 1) new count v (omega arith)
            ∙ sym (drop-drop 1 count new)
            ∙ ap (drop 1) s.kept
            ∙ drop-drop 1 count old;
        all =
            ap (λ (k : ℕ). take k (set new count v) ++ left_from t b (p + 1)) (add-one count)
            ∙ ap (λ (l : List ℕ). l ++ left_from t b (p + 1)) (take-suc-set new count v c)
            ∙ append_assoc (take count new) (v ∷ []) (left_from t b (p + 1))
            ∙ ap (λ (x : ℕ). take count new ++ (x ∷ left_from t b (p + 1))) e
            ∙ ap (λ (l : List ℕ). take count new ++ l)
            (sym (left_turn t b p h ∙ ap (λ (x : Bool). cond x (p ∷ left_from t b (p + 1)) (left_from t b (p + 1))) q))
            ∙ s.all;
      }

  pub collect_skip : p < length b → passes_at t b p ≡ false → Collecting t b (p + 1) old new count
  collect_skip h q =
      record {
        within = omega arith;
        low = omega (arith, s.low);
        room = s.room;
        long = s.long;
        kept = s.kept;
        all =
            ap (λ (l : List ℕ). take count new ++ l)
            (sym (left_turn t b p h ∙ ap (λ (x : Bool). cond x (p ∷ left_from t b (p + 1)) (left_from t b (p + 1))) q))
            ∙ s.all;
      }

  listed : length b ≤ p → take count new ≡ positions_in t b
  listed h = sym (append-nil (take count new)) ∙ ap (λ (l : List ℕ). take count new ++ l) (sym (left_end t b p h)) ∙ s.all

  pub collect_list : length b ≤ p → new ≡ positions_in t b ++ drop count old
  collect_list h =
      sym (take-append-drop count new)
      ∙ ap (λ (l : List ℕ). take count new ++ l) s.kept
      ∙ ap (λ (l : List ℕ). l ++ drop count old) (listed h)

  pub collect_count : length b ≤ p → count ≡ length (positions_in t b)
  collect_count h =
      let c : count ≤ length new = omega (arith, s.low, s.within, s.room, s.long) in
      sym (length-take-le count new c) ∙ ap length (listed h)

-- an element of the list of passing positions
pub record Hit (t : ℕ → ℕ → Bool) (b : List ℕ) (p : ℕ) : Type 0 where
  pub passes : passes_at t b p ≡ true
  pub below : p < length b

short_cond : (i j : ℕ) (x : Bool) (r : List ℕ) → length r ≤ j → length (cond x (i ∷ r) r) ≤ suc j
short_cond i j true r h = omega arith
short_cond i j false r h = omega arith

-- the same of a position in what is left of a buffer from i on
pub record HitFrom (t : ℕ → ℕ → Bool) (i : ℕ) (xs : List ℕ) (p : ℕ) : Type 0 where
  pub k : ℕ
  pub is : p ≡ i + k
  pub below : k < length xs
  pub passes : t p (get_or xs k 0) ≡ true

module _ (t : ℕ → ℕ → Bool) where
  later : (i x p : ℕ) (xs : List ℕ) → HitFrom t (suc i) xs p → HitFrom t i (x ∷ xs) p
  later i x p xs h = record { k = suc h.k; is = h.is ∙ suc-add i h.k ∙ sym (add-suc i h.k); below = omega arith; passes = h.passes }

  hit_cond : (i x : ℕ) (xs r : List ℕ) (q : Bool) → t i x ≡ q
      → ((k : ℕ) → k < length r → HitFrom t (suc i) xs (get_or r k 0))
      → (k : ℕ) → k < length (cond q (i ∷ r) r) → HitFrom t i (x ∷ xs) (get_or (cond q (i ∷ r) r) k 0)
  hit_cond i x xs r true e ih zero h = record { k = 0; is = sym (add-zero i); below = omega arith; passes = e }
  hit_cond i x xs r true e ih (suc k) h = later i x _ xs (ih k (le_of_suc-le-suc h))
  hit_cond i x xs r false e ih k h = later i x _ xs (ih k h)

  pub hit_along : (i : ℕ) (xs : List ℕ) (k : ℕ) → k < length (positions_along t i xs)
      → HitFrom t i xs (get_or (positions_along t i xs) k 0)
  unfolding positions_along
  hit_along i [] k h = absurd (not-suc-le-zero h)
  hit_along i (x ∷ xs) k h = hit_cond i x xs (positions_along t (suc i) xs) (t i x) refl (hit_along (suc i) xs) k h

  pub position_at : (b : List ℕ) (k : ℕ) → k < length (positions_in t b) → Hit t b (get_or (positions_in t b) k 0)
  position_at b k h =
      let x = hit_along 0 b k h in
      let e : get_or (positions_in t b) k 0 ≡ x.k = omega (arith, x.is) in
      record { passes = rw (sym e) at x.passes; below = omega (arith, e, x.below) }

  along_short : (i : ℕ) (xs : List ℕ) → length (positions_along t i xs) ≤ length xs
  unfolding positions_along
  along_short i [] = omega arith
  along_short i (x ∷ xs) = short_cond i (length xs) (t i x) (positions_along t (suc i) xs) (along_short (suc i) xs)

  pub positions_short : (b : List ℕ) → length (positions_in t b) ≤ length b
  positions_short b = along_short 0 b
