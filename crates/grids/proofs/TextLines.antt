-- The lines of a grid's text: a line for each row, and what is left of it when its end is trimmed.
-- Assumes nothing.
use Prim.Native.Nat.{ℕ, zero, suc, ◌+◌, ◌*◌, ◌/◌, ◌%◌, ◌<◌}
use mathlib.Core.Path.{◌≡◌, refl, sym, ap, ◌∙◌}
use mathlib.Core.Bool.{true, false}
use mathlib.Core.List.{List, [], ◌∷◌, ◌++◌}
use native.Mathlib.Nat.{add-zero, zero-add, suc-add, suc-mul, zero-mul, mul-add-div_right, mul-add-mod_self_right, div-eq_of_lt, mod-eq_of_lt}
use native.Mathlib.Omega.{arith}
use borrow.Author.Tests.{eq-eqb, ne_eqb}
use lib.Dec.{eqb}
use Rattle.array.specs.Place.{position}
use Rattle.array.specs.Buffer.{span, tabulate}
use Rattle.array.specs.Map.{dead_mark, mark_at}
use Rattle.array.proofs.Bools.{by_bool}
use Rattle.grids.specs.Text.{character, text_length, text_byte, text}
use Rattle.grids.specs.Reading.{lines_of, trim, blank_letter}
use Rattle.grids.proofs.Lines.{trim_last, trim_kept}

-- a character of a text is '.', 'X', 'D' or a space
pub by_character : (P : ℕ → Type 0) → P 46 → P 88 → P 68 → P 32 → (mark : ℕ) → P (character mark)
by_character P a b d e mark =
    by_bool (eqb mark 0) (λ t. rw t a)
    (λ t.
    by_bool (eqb mark 1) (λ u. rw (t, u) b)
    (λ u. by_bool (dead_mark mark) (λ v. rw (t, u, v) d) (λ v. rw (t, u, v) e)))

span_append : (f : ℕ → ℕ) (i a b : ℕ) → span f i (a + b) ≡ span f i a ++ span f (i + a) b
unfolding span
span_append f i zero b = rw (zero-add b, add-zero i)
span_append f i (suc a) b =
    let e : i + suc a ≡ suc i + a = omega arith in
    rw (suc-add a b, e) (ap (λ (l : List ℕ). f i ∷ l) (span_append f (suc i) a b))

pub span_cons : (f : ℕ → ℕ) (i k : ℕ) → span f i (suc k) ≡ f i ∷ span f (suc i) k
unfolding span
span_cons f i k = refl

span_ext : (f g : ℕ → ℕ) (i j k : ℕ) → ((y : ℕ) → y < k → f (i + y) ≡ g (j + y)) → span f i k ≡ span g j k
unfolding span
span_ext f g i j zero h = refl
span_ext f g i j (suc k) h =
    let p : f i ≡ g j = ap f (sym (add-zero i)) ∙ h 0 (omega arith) ∙ ap g (add-zero j) in
    let q : span f (suc i) k ≡ span g (suc j) k
    = span_ext f g (suc i) (suc j) k
    (λ y l.
    let d : suc i + y ≡ i + suc y = omega arith in
    let e : j + suc y ≡ suc j + y = omega arith in
    ap f d ∙ h (suc y) (omega arith) ∙ ap g e) in
    ap (λ (z : ℕ). z ∷ span f (suc i) k) p ∙ ap (λ (l : List ℕ). g j ∷ l) q

-- characters that are no line feed, and a line feed
lines_span : (f : ℕ → ℕ) → ((y : ℕ) → eqb (f y) 10 ≡ false) → (i k : ℕ) (b : List ℕ) → lines_of (span f i k ++ 10 ∷ b) ≡ span f i k ∷ lines_of b
unfolding span lines_of
lines_span f h i zero b = refl
lines_span f h i (suc k) b = rw (h i, lines_span f h (suc i) k b)

module _ (f : ℕ → ℕ) (k : ℕ) where
  span_last : span f 0 (k + 1) ≡ span f 0 k ++ (f k ∷ [])
  unfolding span
  span_last = span_append f 0 k 1 ∙ ap (λ (j : ℕ). span f 0 k ++ (f j ∷ [])) (zero-add k)

  pub trim_span_last : blank_letter (f k) ≡ true → trim (span f 0 (k + 1)) ≡ trim (span f 0 k)
  trim_span_last h = ap trim span_last ∙ trim_last (span f 0 k) (f k) h

  pub trim_span_kept : blank_letter (f k) ≡ false → trim (span f 0 (k + 1)) ≡ span f 0 (k + 1)
  trim_span_kept h = ap trim span_last ∙ trim_kept (span f 0 k) (f k) h ∙ sym span_last

-- a number by its quotient and remainder
module _ (w x y : ℕ) (h : y < w) where
  quotient : (x * w + y) / w ≡ x
  quotient = mul-add-div_right (omega arith) x y ∙ ap (λ (z : ℕ). x + z) (div-eq_of_lt h) ∙ add-zero x

  remainder : (x * w + y) % w ≡ y
  remainder = mul-add-mod_self_right x w y ∙ mod-eq_of_lt h

-- the character in row x and column y
abbrev pub letter : List ℕ → ℕ → ℕ → ℕ
letter grid x y = character (mark_at grid (position x y))

-- k rows from row x on
abbrev pub row_list : ℕ → List ℕ → ℕ → ℕ → List (List ℕ)
row_list m grid x zero = []
row_list m grid x (suc k) = tabulate (letter grid x) (m + 2) ∷ row_list m grid (suc x) k

module _ (n m : ℕ) (grid : List ℕ) where
  byte_in : (x y : ℕ) → y < m + 2 → text_byte n m grid (x * (m + 3) + y) ≡ letter grid x y
  byte_in x y h =
      let a = remainder (m + 3) x y (omega arith) in
      let b = quotient (m + 3) x y (omega arith) in
      let d = ne_eqb y (m + 2) (λ e. omega arith) in
      rw (a, b, d)

  byte_end : (x : ℕ) → text_byte n m grid (x * (m + 3) + (m + 2)) ≡ 10
  byte_end x =
      let a = remainder (m + 3) x (m + 2) (omega arith) in
      let d = eq-eqb (m + 2) (m + 2) refl in
      rw (a, d)

  text_split :
      (k x : ℕ) →
      span (text_byte n m grid) (x * (m + 3)) (suc k * (m + 3))
      ≡ tabulate (letter grid x) (m + 2) ++ 10 ∷ span (text_byte n m grid) (suc x * (m + 3)) (k * (m + 3))
  text_split k x =
      let f = text_byte n m grid in
      let e : suc k * (m + 3) ≡ (m + 2) + suc (k * (m + 3)) = omega (arith, suc-mul k (m + 3)) in
      let d : suc (x * (m + 3) + (m + 2)) ≡ suc x * (m + 3) = omega (arith, suc-mul x (m + 3)) in
      ap (λ (j : ℕ). span f (x * (m + 3)) j) e
      ∙ span_append f (x * (m + 3)) (m + 2) (suc (k * (m + 3)))
      ∙ ap (λ (l : List ℕ). l ++ span f (x * (m + 3) + (m + 2)) (suc (k * (m + 3))))
      (span_ext f (letter grid x) (x * (m + 3)) 0 (m + 2) (λ y h. byte_in x y h ∙ ap (letter grid x) (sym (zero-add y))))
      ∙ ap (λ (l : List ℕ). tabulate (letter grid x) (m + 2) ++ l)
      (span_cons f (x * (m + 3) + (m + 2)) (k * (m + 3))
      ∙ ap (λ (z : ℕ). z ∷ span f (suc (x * (m + 3) + (m + 2))) (k * (m + 3))) (byte_end x)
      ∙ ap (λ (j : ℕ). 10 ∷ span f j (k * (m + 3))) d)

  lines_from : (k x : ℕ) → lines_of (span (text_byte n m grid) (x * (m + 3)) (k * (m + 3))) ≡ row_list m grid x k
  unfolding span lines_of
  lines_from zero x = rw (zero-mul (m + 3))
  lines_from (suc k) x =
      ap lines_of (text_split k x)
      ∙ lines_span (letter grid x) (λ y. by_character (λ z. eqb z 10 ≡ false) refl refl refl refl (mark_at grid (position x y))) 0 (m + 2)
      (span (text_byte n m grid) (suc x * (m + 3)) (k * (m + 3)))
      ∙ ap (λ (ls : List (List ℕ)). tabulate (letter grid x) (m + 2) ∷ ls) (lines_from k (suc x))

  pub text_lines : lines_of (text n m grid) ≡ row_list m grid 0 (n + 2)
  unfolding text
  text_lines = ap (λ (i : ℕ). lines_of (span (text_byte n m grid) i (text_length n m))) (sym (zero-mul (m + 3))) ∙ lines_from (n + 2) 0
