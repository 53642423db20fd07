-- The definitions of the rows' reading by their cases: one law for each answer.
-- Assumes nothing.
use Prim.Native.Nat.{ℕ, zero, suc, ◌+◌, ◌-◌, ◌*◌, ◌<◌, ◌≤◌}
use mathlib.Core.Path.{◌≡◌, refl, ap, ◌∙◌}
use mathlib.Core.Bool.{◌||◌}
use mathlib.Core.List.{List, [], ◌∷◌}
use native.Mathlib.Omega.{arith}
use borrow.Author.Tests.{leb-false, ltb-false, le-ltb, lt-leb, ne_eqb}
use lib.Dec.{leb, ltb, eqb}
use lib.ListN.{length, get_or, set, take, drop}
use Rattle.std.proofs.lemmas.List.{length-drop}
use lib.Seq.{sets}
use Rattle.std.specs.Prelude.{Option, None, Some, is_some, Result, Ok, Err}
use Rattle.array.specs.Place.{position}
use Rattle.array.proofs.Bools.{by_bool}
use Rattle.grids.proofs.Lines.{lines_cut}
use Rattle.grids.specs.Parts.{Small, line_length}
use Rattle.grids.specs.Reading.{no_rows, with_row, after_blank, pass_blank, take_row, take_line, take_lines, and_then, trim, lines_of, rows_test, grid_of, good, read_rows, read_text}
use Rattle.grids.specs.declared.rows.Rows.{Rows}
use Rattle.grids.specs.declared.wrong.Wrong.{Wrong}

-- a row
pub row_taken : (k : ℕ) (l : List ℕ) (r : Rows) → r.blank ≡ None → r.count < 32 → length l ≤ 32 → take_row k l r ≡ Ok (with_row k l r)
unfolding take_row
row_taken k l r h g f = rw (h, lt-leb 32 r.count g, le-ltb 32 (length l) f)

-- a line
pub line_row : (k : ℕ) (r : Rows) (c : ℕ) (t : List ℕ) → (c ≡ 35 → ⊥) → take_line k (c ∷ t) r ≡ take_row k (c ∷ t) r
unfolding take_line
line_row k r c t h = rw (ne_eqb c 35 h)

-- the lines
pub lines_none : (k : ℕ) (r : Rows) → take_lines k [] r ≡ Ok r
unfolding take_lines
lines_none k r = refl

pub lines_on :
    (k : ℕ) (l : List ℕ) (ls : List (List ℕ)) (r next : Rows) → take_line (k + 1) (trim l) r ≡ Ok next → take_lines k (l ∷ ls) r ≡ take_lines (k + 1) ls next
unfolding take_lines
lines_on k l ls r next h = rw h

pub lines_stop :
    (k : ℕ) (l : List ℕ) (ls : List (List ℕ)) (r : Rows) (w : Wrong) → take_line (k + 1) (trim l) r ≡ Err w → take_lines k (l ∷ ls) r ≡ Err w
unfolding take_lines
lines_stop k l ls r w h = rw h

-- the first line of a text that has one, and the end of a text
module _ (s text after t : List ℕ) (k : ℕ) (r : Rows)
    (some : length s ≡ 0 → ⊥) (e : text ≡ take (line_length s) s) (f : after ≡ drop (line_length s + 1) s) (d : t ≡ trim text) where
  cut_here : lines_of s ≡ text ∷ lines_of after
  cut_here = lines_cut s some ∙ rw (← e, ← f)

  pub text_on : (next : Rows) → take_line (k + 1) t r ≡ Ok next → take_lines k (lines_of s) r ≡ take_lines (k + 1) (lines_of after) next
  text_on next h = ap (λ (ls : List (List ℕ)). take_lines k ls r) cut_here ∙ lines_on k text (lines_of after) r next (rw (← d) h)

  pub text_stop : (w : Wrong) → take_line (k + 1) t r ≡ Err w → take_lines k (lines_of s) r ≡ Err w
  text_stop w h = ap (λ (ls : List (List ℕ)). take_lines k ls r) cut_here ∙ lines_stop k text (lines_of after) r w (rw (← d) h)

pub text_end : (s : List ℕ) (k : ℕ) (r : Rows) → length s ≡ 0 → take_lines k (lines_of s) r ≡ Ok r
unfolding lines_of take_lines
text_end [] k r h = refl
text_end (c ∷ s) k r h = absurd (omega arith)

pub shorter : (s after : List ℕ) → (length s ≡ 0 → ⊥) → after ≡ drop (line_length s + 1) s → length after + 1 ≤ length s
shorter [] after h e = absurd (h refl)
shorter (c ∷ s) after h e = let l = length-drop (line_length (c ∷ s) + 1) (c ∷ s) in rw (e, l) (omega arith)

-- what a row leaves
pub row_stored :
    (k : ℕ) (l : List ℕ) (r : Rows) (cells : List ℕ) →
    r.blank ≡ None →
    r.count < 32 →
    length l ≤ 32 →
    cells ≡ sets r.cells (32 * r.count) l →
    Ok
    (record {
      cells = cells;
      lengths = set r.lengths r.count (length l);
      lines = set r.lines r.count k;
      count = r.count + 1;
      blank = r.blank;
    })
    ≡ take_row k l r
unfolding take_row
row_stored k l r cells h g f e =
    let d : position r.count 0 ≡ 32 * r.count = omega arith in rw (h, lt-leb 32 r.count g, le-ltb 32 (length l) f, e, d) refl

abbrev pub SmallRows : Result Rows Wrong → Type 0
SmallRows (Ok r) = Small r
SmallRows (Err w) = Unit {0}

set_low : (l : List ℕ) (i a j k : ℕ) → a ≤ k → get_or l j 0 ≤ k → get_or (set l i a) j 0 ≤ k
set_low [] i a j k h g = g
set_low (x ∷ l) zero a zero k h g = h
set_low (x ∷ l) zero a (suc j) k h g = g
set_low (x ∷ l) (suc i) a zero k h g = g
set_low (x ∷ l) (suc i) a (suc j) k h g = set_low l i a j k h g

after_small : (b : Option ℕ) (t : Result Rows Wrong) → SmallRows t → SmallRows (after_blank b t)
after_small None t h = h
after_small (Some k) t h = tt

row_small : (k : ℕ) (l : List ℕ) (r : Rows) → Small r → SmallRows (take_row k l r)
unfolding take_row
row_small k l r h =
    let x = r.count in
    after_small r.blank _
    (by_bool (leb 32 x) (λ u. rw u tt)
    (λ u.
    by_bool (ltb 32 (length l)) (λ v. rw (u, v) tt)
    (λ v. rw (u, v) (omega (arith, leb-false 32 x u), set_low r.lengths x (length l) 1 32 (ltb-false 32 (length l) v) h.1))))

blank_small : (k : ℕ) (r : Rows) → Small r → Small (pass_blank k r)
blank_small k r h = by_bool (eqb r.count 0 || is_some r.blank) (λ t. rw t h) (λ t. rw t h)

line_small : (k : ℕ) (l : List ℕ) (r : Rows) → Small r → SmallRows (take_line k l r)
unfolding take_line
line_small k [] r h = blank_small k r h
line_small k (c ∷ l) r h = by_bool (eqb c 35) (λ t. rw t h) (λ t. rw t (row_small k (c ∷ l) r h))

then_small : (t : Result Rows Wrong) (f : Rows → Result Rows Wrong) → SmallRows t → ((r : Rows) → Small r → SmallRows (f r)) → SmallRows (and_then t f)
then_small (Ok r) f h g = g r h
then_small (Err w) f h g = tt

lines_small : (ls : List (List ℕ)) (k : ℕ) (r : Rows) → Small r → SmallRows (take_lines k ls r)
unfolding take_lines
lines_small [] k r h = h
lines_small (l ∷ ls) k r h =
    then_small (take_line (k + 1) (trim l) r) (take_lines (k + 1) ls) (line_small (k + 1) (trim l) r h) (lines_small ls (k + 1))

pub text_small : (ls : List (List ℕ)) → SmallRows (take_lines 0 ls no_rows)
text_small ls = lines_small ls 0 no_rows (omega arith, omega arith)

pub rows_small : (ls : List (List ℕ)) (r : Rows) → take_lines 0 ls no_rows ≡ Ok r → Small r
rows_small ls r e = rw e at (text_small ls)

-- all rows
module _ (r : Rows) (old : List ℕ) where
  module _ (h : 3 ≤ r.count) where
    some : r.count ≡ 0 → ⊥
    some e = omega arith

    module _ (f : 3 ≤ get_or r.lengths 1 0) where
      pub rows_read :
          rows_test (r.count - 2) (get_or r.lengths 1 0 - 2) r ≡ good →
          read_rows r old ≡ (Ok (r.count - 2, get_or r.lengths 1 0 - 2), grid_of (r.count - 2) (get_or r.lengths 1 0 - 2) r.cells)
      unfolding read_rows
      rows_read e = rw (ne_eqb r.count 0 some, le-ltb r.count 3 h, le-ltb (get_or r.lengths 1 0) 3 f, e)

-- a whole text
module _ (s old : List ℕ) where
  pub text_rows : (r : Rows) → take_lines 0 (lines_of s) no_rows ≡ Ok r → read_text s old ≡ read_rows r old
  unfolding read_text
  text_rows r e = rw e
