-- The text of a well-formed map is read as that map: the rows taken up from it hold its characters.
-- Assumes nothing.
use Prim.Native.Nat.{ℕ, zero, suc, ◌+◌, ◌-◌, ◌<◌, ◌≤◌}
use mathlib.Core.Path.{◌≡◌, refl, sym, ap, subst, ◌∙◌}
use mathlib.Core.Bool.{Bool, true, false, cond, ◌||◌}
use mathlib.Core.Logic.{⊎_elim}
use mathlib.Core.List.{List, ◌∷◌}
use native.Mathlib.Numerals.{add-one}
use native.Mathlib.Omega.{arith}
use borrow.Author.Tests.{leb-true, eqb-true, eqb-false, lt-ltb, le-ltb, le-leb, lt-leb, eq-eqb, ne_eqb}
use lib.Dec.{ltb, leb, eqb}
use lib.ListN.{length, get_or, set, length-set, length-replicate, get_or-replicate}
use lib.Seq.{sets, length-sets, ext_get_or, get_or-set_same, get_or-set_other}
use borrow.Author.Count.{below_more}
use Rattle.array.specs.Place.{position, row, column, processor_at, inner, processor}
use Rattle.array.specs.Buffer.{span, tabulate}
use Rattle.array.specs.Map.{dead_mark, mark_at}
use Rattle.array.proofs.Bools.{or_true, by_bool, by_lt, cond_taken, cond_left}
use Rattle.array.proofs.Fills.{tabulate_length, tabulate_at}
use Rattle.array.proofs.Formed.{Formed, formed}
use Rattle.array.proofs.Marks.{mark_read}
use Rattle.array.proofs.Scans.{scan_all}
use Rattle.grids.specs.Text.{character, text}
use Rattle.std.specs.Prelude.{None, Result, Ok}
use Rattle.grids.specs.declared.rows.Rows.{Rows}
use Rattle.grids.specs.declared.wrong.Wrong.{Wrong}
use Rattle.grids.specs.Reading.{good, with_row, no_rows, take_line, take_row, take_lines, trim, blank_letter, processor_mark, mark_of, grid_of, length_test, processor_test, letter_test, position_test, rows_test, read_rows}
use Rattle.grids.specs.Theorems.{TextRoundTrip}
use Rattle.grids.proofs.Marks.{processor_allows, allowed_there, allowed_none, grid_long, grid_at}
use Rattle.grids.proofs.RowLaws.{row_taken, line_row, lines_none, lines_on, rows_read, text_rows}
use Rattle.grids.proofs.Judgements.{wrong_scan, place_good}
use Rattle.grids.proofs.Stores.{sets_at, sets_other}
use Rattle.grids.proofs.TextLines.{by_character, span_cons, trim_span_last, trim_span_kept, letter, row_list, text_lines}

-- the marks that a processor may have
by_low : (P : ℕ → Type 0) → P 0 → P 1 → (k : ℕ) → leb k 1 ≡ true → P k
by_low P a b k h =
    let g = leb-true k 1 h in
    by_lt k 1 (λ l. let e : k ≡ 0 = omega arith in rw e a) (λ l. let e : k ≡ 1 = omega arith in rw e b)

by_mark :
    (P : Bool → ℕ → Type 0) →
    ((i : Bool) → P i 0) →
    ((i : Bool) → P i 1) →
    P true 3 →
    (i : Bool) (k : ℕ) →
    processor_allows i k ≡ true →
    P i k
by_mark P a b d true k h =
    ⊎_elim (by_low (P true) (a true) (b true) k) (λ e. rw (eqb-true k 3 e) d) (or_true (leb k 1) (dead_mark k) h)
by_mark P a b d false k h = by_low (P false) (a false) (b false) k h

-- the first and the last row, which have corners
abbrev outer : ℕ → ℕ → Bool
outer n x = eqb x 0 || eqb x (n + 1)

-- how many characters are left of row x when its end is trimmed
abbrev width : ℕ → ℕ → ℕ → ℕ
width n m x = cond (outer n x) (m + 1) (m + 2)

width_is : (n m x : ℕ) → (m + 1 ≤ width n m x) × (width n m x ≤ m + 2)
width_is n m x = by_bool (outer n x) (λ t. rw t (omega arith, omega arith)) (λ t. rw t (omega arith, omega arith))

module _ (n m : ℕ) (grid : List ℕ) (F : Formed n m grid) where
  -- what stands at a position
  mark_there : (p : ℕ) → p < 1024 → processor n m p ≡ true → processor_allows (inner n m p) (mark_at grid p) ≡ true
  mark_there p h t = sym (allowed_there n m p (mark_at grid p) t) ∙ F.marks p h

  mark_none : (p : ℕ) → p < 1024 → processor n m p ≡ false → mark_at grid p ≡ 2
  mark_none p h t = eqb-true (mark_at grid p) 2 (sym (allowed_none n m p (mark_at grid p) t) ∙ F.marks p h)

  mark_again : (p : ℕ) → p < 1024 → mark_of n m p (character (mark_at grid p)) ≡ mark_at grid p
  mark_again p h =
      by_bool (processor n m p)
      (λ t.
      cond_taken _ _ refl t
      ∙ by_mark (λ i k. processor_mark i (character k) ≡ k) (λ i. refl) (λ i. refl) refl (inner n m p) (mark_at grid p) (mark_there p h t))
      (λ t. cond_left _ _ refl t ∙ sym (mark_none p h t))

  -- the same by row and column
  module _ (x y : ℕ) (h : x ≤ n + 1) (g : y < 32) where
    low : position x y < 1024
    low = let s = F.sizes in omega arith

    there : {b : Bool} → processor_at n m x y ≡ b → processor n m (position x y) ≡ b
    there t =
        let a : row (position x y) ≡ x = omega arith in
        let b : column (position x y) ≡ y = omega arith in
        rw (a, b) t

    letter_shown : processor_at n m x y ≡ true → blank_letter (letter grid x y) ≡ false
    letter_shown t =
        let p = position x y in
        by_mark (λ i k. blank_letter (character k) ≡ false) (λ i. refl) (λ i. refl) refl (inner n m p) (mark_at grid p) (mark_there p low (there t))

    letter_none : processor_at n m x y ≡ false → letter grid x y ≡ 32
    letter_none t = ap character (mark_none (position x y) low (there t))

  -- the end of a row
  inner_last : (x : ℕ) → x ≤ n + 1 → outer n x ≡ false → processor_at n m x (m + 1) ≡ true
  inner_last x h t = rw (le-leb x (n + 1) h, le-leb (m + 1) (m + 1) (omega arith), t)

  outer_last : (x : ℕ) → x ≤ n + 1 → outer n x ≡ true → processor_at n m x m ≡ true
  outer_last x h t =
      let s = F.sizes in
      rw (le-leb x (n + 1) h, le-leb m (m + 1) (omega arith), t, ne_eqb m 0 (λ e. omega arith), ne_eqb m (m + 1) (λ e. omega arith))

  outer_corner : (x : ℕ) → x ≤ n + 1 → outer n x ≡ true → processor_at n m x (m + 1) ≡ false
  outer_corner x h t =
      rw (le-leb x (n + 1) h, le-leb (m + 1) (m + 1) (omega arith), t, ne_eqb (m + 1) 0 (λ e. omega arith), eq-eqb (m + 1) (m + 1) refl)

  trimmed_row : (x : ℕ) → x ≤ n + 1 → tabulate (letter grid x) (width n m x) ≡ trim (tabulate (letter grid x) (m + 2))
  trimmed_row x h =
      let s = F.sizes in
      let f = letter grid x in
      let e : m + 2 ≡ m + 1 + 1 = omega arith in
      by_bool (outer n x)
      (λ t.
      rw (t, e)
      (sym
      (trim_span_last f (m + 1) (ap blank_letter (letter_none x (m + 1) h (omega arith) (outer_corner x h t)))
      ∙ trim_span_kept f m (letter_shown x m h (omega arith) (outer_last x h t)))))
      (λ t. rw (t, e) (sym (trim_span_kept f (m + 1) (letter_shown x (m + 1) h (omega arith) (inner_last x h t)))))

  -- beyond its width a row has no processor
  none_beyond : (x y : ℕ) → x ≤ n + 1 → width n m x ≤ y → processor_at n m x y ≡ false
  none_beyond x y h g =
      by_lt (m + 1) y (λ l. rw (le-leb x (n + 1) h, lt-leb y (m + 1) l))
      (λ l.
      by_bool (outer n x)
      (λ t. let k : m + 1 ≤ y = rw t at g in let e : y ≡ m + 1 = omega arith in rw e (outer_corner x h t))
      (λ t. let k : m + 2 ≤ y = rw t at g in absurd (omega arith)))

  -- The first x rows were taken up.
  record Held (x : ℕ) (r : Rows) : Type 0 where
    pub count : r.count ≡ x
    pub no_blank : r.blank ≡ None
    pub cells_long : length r.cells ≡ 1024
    pub lengths_long : length r.lengths ≡ 32
    pub lengths_are : (j : ℕ) → j < x → get_or r.lengths j 0 ≡ width n m j
    pub cells_are : (p : ℕ) → p < 1024 → get_or r.cells p 0 ≡ cond (ltb (row p) x) (character (mark_at grid p)) 32

  record HeldAfter (x : ℕ) (t : Result Rows Wrong) : Type 0 where
    pub rows : Rows
    pub is : t ≡ Ok rows
    pub held : Held x rows

  held_none : Held 0 no_rows
  held_none =
      record {
        count = refl;
        no_blank = refl;
        cells_long = length-replicate {A = ℕ} 1024 32;
        lengths_long = length-replicate {A = ℕ} 32 0;
        lengths_are = λ j h. absurd (omega arith);
        cells_are = λ p h. get_or-replicate 1024 p 32 0 h ∙ sym (cond_left _ _ refl (le-ltb (row p) 0 (omega arith)));
      }

  module _ (x : ℕ) (r : Rows) (H : Held x r) (h : x ≤ n + 1) where
    abbrev line : List ℕ
    line = tabulate (letter grid x) (width n m x)

    held_cells : (p : ℕ) → p < 1024 → get_or (sets r.cells (position x 0) line) p 0 ≡ cond (ltb (row p) (x + 1)) (character (mark_at grid p)) 32
    held_cells p l =
        let s = F.sizes in
        let w = width_is n m x in
        let long = tabulate_length (letter grid x) (width n m x) in
        let c = H.cells_long in
        by_lt (row p) x
        (λ a.
        sets_other line r.cells (position x 0) p 0 (λ k f e. omega arith)
        ∙ H.cells_are p l
        ∙ cond_taken _ _ refl (lt-ltb (row p) x a)
        ∙ sym (cond_taken _ _ refl (lt-ltb (row p) (x + 1) (omega arith))))
        (λ a.
        by_lt x (row p)
        (λ b.
        sets_other line r.cells (position x 0) p 0 (λ k f e. omega arith)
        ∙ H.cells_are p l
        ∙ cond_left _ _ refl (le-ltb (row p) x a)
        ∙ sym (cond_left _ _ refl (le-ltb (row p) (x + 1) (omega arith))))
        (λ b.
        let here : row p ≡ x = omega arith in
        by_lt (column p) (width n m x)
        (λ d.
        let e : p ≡ position x 0 + column p = omega arith in
        let g : position x (column p) ≡ p = omega arith in
        ap (λ (j : ℕ). get_or (sets r.cells (position x 0) line) j 0) e
        ∙ sets_at line r.cells (position x 0) (column p) 0 (omega arith) (omega arith)
        ∙ tabulate_at (letter grid x) (width n m x) (column p) 0 d
        ∙ ap (λ (j : ℕ). character (mark_at grid j)) g
        ∙ sym (cond_taken _ _ refl (lt-ltb (row p) (x + 1) (omega arith))))
        (λ d.
        sets_other line r.cells (position x 0) p 0 (λ k f e. omega arith)
        ∙ H.cells_are p l
        ∙ cond_left _ _ refl (le-ltb (row p) x a)
        ∙ sym (ap character (mark_none p l (none_beyond (row p) (column p) (omega arith) (rw here d))))
        ∙ sym (cond_taken _ _ refl (lt-ltb (row p) (x + 1) (omega arith))))))

    held_lengths : (j : ℕ) → j < x + 1 → get_or (set r.lengths r.count (width n m x)) j 0 ≡ width n m j
    held_lengths =
        let s = F.sizes in
        let c = H.count in
        let d = H.lengths_long in
        below_more _ x
        (λ j g. get_or-set_other r.lengths r.count j (width n m x) 0 (λ e. omega arith) ∙ H.lengths_are j g)
        (rw c (get_or-set_same r.lengths x (width n m x) 0 (omega arith)))

    held_line : (k : ℕ) → HeldAfter (x + 1) (take_line k line r)
    held_line k =
        let s = F.sizes in
        let c = H.count in
        let w = width_is n m x in
        let f = letter grid x in
        let v : width n m x ≡ suc (width n m x - 1) = omega arith in
        let long = tabulate_length f (width n m x) in
        let e : line ≡ f 0 ∷ span f 1 (width n m x - 1) = ap (λ (j : ℕ). span f 0 j) v ∙ span_cons f 0 (width n m x - 1) in
        record {
          rows = with_row k line r;
          is =
              ap (λ (l : List ℕ). take_line k l r) e
              ∙ line_row k r (f 0) (span f 1 (width n m x - 1))
              (eqb-false (f 0) 35 (by_character (λ z. eqb z 35 ≡ false) refl refl refl refl (mark_at grid (position x 0))))
              ∙ ap (λ (l : List ℕ). take_row k l r) (sym e)
              ∙ row_taken k line r H.no_blank (omega arith) (omega arith);
          held =
              record {
                count = ap (λ (z : ℕ). z + 1) c;
                no_blank = refl;
                cells_long = length-sets r.cells (position r.count 0) line ∙ H.cells_long;
                lengths_long = length-set r.lengths r.count (length line) ∙ H.lengths_long;
                lengths_are = λ j g. ap (λ (z : ℕ). get_or (set r.lengths r.count z) j 0) long ∙ held_lengths j g;
                cells_are = λ p g. ap (λ (z : ℕ). get_or (sets r.cells (position z 0) line) p 0) c ∙ held_cells p g;
              };
        }

  held_lines : (k x j : ℕ) (r : Rows) → Held x r → x + k ≡ n + 2 → HeldAfter (n + 2) (take_lines j (row_list m grid x k) r)
  held_lines zero x j r H e =
      let d : x ≡ n + 2 = omega arith in
      record { rows = r; is = lines_none j r; held = subst (λ (z : ℕ). Held z r) d H }
  held_lines (suc k) x j r H e =
      let h : x ≤ n + 1 = omega arith in
      let a = held_line x r H h (j + 1) in
      let b = held_lines k (suc x) (j + 1) a.rows (subst (λ (z : ℕ). Held z a.rows) (add-one x) a.held) (omega arith) in
      record {
        rows = b.rows;
        is =
            lines_on j (tabulate (letter grid x) (m + 2)) (row_list m grid (suc x) k) r a.rows
            (ap (λ (l : List ℕ). take_line (j + 1) l r) (sym (trimmed_row x h)) ∙ a.is)
            ∙ b.is;
        held = b.held;
      }

  -- all rows are good, and give the grid
  module _ (r : Rows) (H : Held (n + 2) r) where
    cell : (p : ℕ) → p < 1024 → get_or r.cells p 0 ≡ character (mark_at grid p)
    cell p h =
        H.cells_are p h
        ∙ by_lt (row p) (n + 2) (λ l. cond_taken _ _ refl (lt-ltb (row p) (n + 2) l))
        (λ l.
        cond_left _ _ refl (le-ltb (row p) (n + 2) l)
        ∙ sym (ap character (mark_none p h (rw (lt-leb (row p) (n + 1) (omega arith))))))

    letter_good : (p line : ℕ) → p < 1024 → letter_test n m (row p) (column p) (get_or r.cells p 0) line ≡ good
    letter_good p line h =
        by_bool (processor n m p)
        (λ t.
        ap (λ (b : ℕ). letter_test n m (row p) (column p) b line) (cell p h)
        ∙ cond_taken _ _ refl t
        ∙ by_mark (λ i k. processor_test i (character k) line (column p + 1) ≡ good) (λ i. refl) (λ i. refl) refl (inner n m p)
        (mark_at grid p) (mark_there p h t))
        (λ t.
        ap (λ (b : ℕ). letter_test n m (row p) (column p) b line) (cell p h ∙ ap character (mark_none p h t)) ∙ cond_left _ _ refl t)

    length_good : (x line second : ℕ) → x ≤ n + 1 → length_test n m x (get_or r.lengths x 0) line second ≡ good
    length_good x line second h =
        let d = H.lengths_are x (omega arith) in
        by_bool (outer n x) (λ t. rw (d, t, eq-eqb (m + 1) (m + 1) refl)) (λ t. rw (d, t, eq-eqb (m + 2) (m + 2) refl))

    all_rows_good : good ≡ rows_test n m r
    unfolding rows_test
    all_rows_good =
        sym
        (scan_all (wrong_scan (position_test n m r) 1024)
        (λ p l.
        place_good (leb (row p) (n + 1)) (eqb (column p) 0) _ _
        (λ t. length_good (row p) (get_or r.lines (row p) 0) (get_or r.lines 1 0) (leb-true (row p) (n + 1) t))
        (letter_good p (get_or r.lines (row p) 0) (omega arith))))

    grid_again : grid ≡ grid_of n m r.cells
    grid_again =
        let l = F.length_is in
        ext_get_or 0 grid (grid_of n m r.cells) (l ∙ sym (grid_long n m r.cells))
        (λ p h.
        sym
        (grid_at n m r.cells p (omega arith)
        ∙ ap (λ (b : ℕ). mark_of n m p b) (cell p (omega arith))
        ∙ mark_again p (omega arith)
        ∙ mark_read grid p h))

    read_again : (old : List ℕ) → read_rows r old ≡ (Ok (n, m), grid)
    read_again old =
        let s = F.sizes in
        let x = r.count in
        let k = get_or r.lengths 1 0 in
        let c : x ≡ n + 2 = H.count in
        let d : k ≡ m + 2 = H.lengths_are 1 (omega arith) ∙ cond_left _ _ refl (ne_eqb 1 (n + 1) (λ e. omega arith)) in
        let a : x - 2 ≡ n = omega arith in
        let b : k - 2 ≡ m = omega arith in
        rows_read r old (omega arith) (omega arith)
        (ap (λ (z : ℕ). rows_test z (k - 2) r) a ∙ ap (λ (z : ℕ). rows_test n z r) b ∙ sym all_rows_good)
        ∙ rw (a, b) (ap (λ (g : List ℕ). (Ok (n, m), g)) (sym grid_again))

pub text_round_trip : TextRoundTrip
text_round_trip n m grid old h =
    let F = formed n m grid h in
    let a = held_lines n m grid F (n + 2) 0 0 no_rows (held_none n m grid F) (omega arith) in
    text_rows (text n m grid) old a.rows (ap (λ (ls : List (List ℕ)). take_lines 0 ls no_rows) (text_lines n m grid) ∙ a.is)
    ∙ read_again n m grid F a.rows a.held old
