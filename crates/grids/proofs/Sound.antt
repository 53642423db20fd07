-- A text that is read leaves a well-formed map, and one that is wrong the grid as it was.
-- Assumes nothing.
use Prim.Native.Nat.{ℕ, ◌-◌, ◌≤◌}
use mathlib.Core.Path.{refl}
use mathlib.Core.List.{List}
use native.Mathlib.Omega.{arith}
use borrow.Author.Tests.{ltb-false}
use lib.Dec.{ltb, eqb}
use lib.ListN.{get_or}
use Rattle.array.proofs.Bools.{by_bool}
use Rattle.std.specs.Prelude.{Result, Ok, Err}
use Rattle.grids.specs.Reading.{Judged, no_rows, lines_of, take_lines, rows_test, finish, read_rows, read_taken, read_text}
use Rattle.grids.specs.Theorems.{FormedOrKept, SoundText}
use Rattle.grids.specs.declared.rows.Rows.{Rows}
use Rattle.grids.specs.declared.wrong.Wrong.{Wrong}
use Rattle.grids.specs.Parts.{Small}
use Rattle.grids.proofs.Marks.{grid_formed}
use Rattle.grids.proofs.RowLaws.{SmallRows, text_small}

finish_sound : (a : Judged) (n m : ℕ) (cells old : List ℕ) → 1 ≤ n → n ≤ 30 → 1 ≤ m → m ≤ 30 → FormedOrKept (finish a n m cells old) old
finish_sound (Ok x) n m cells old h g f e = grid_formed n m cells h g f e
finish_sound (Err w) n m cells old h g f e = refl

rows_sound : (r : Rows) (old : List ℕ) → Small r → FormedOrKept (read_rows r old) old
unfolding read_rows
rows_sound r old h =
    let x = r.count in
    let k = get_or r.lengths 1 0 in
    by_bool (eqb x 0) (λ t. rw t refl)
    (λ t.
    by_bool (ltb x 3) (λ u. rw (t, u) refl)
    (λ u.
    by_bool (ltb k 3) (λ v. rw (t, u, v) refl)
    (λ v.
    let a = ltb-false x 3 u in
    let b = ltb-false k 3 v in
    let l = h.0 in
    let w = h.1 in
    rw (t, u, v)
    (finish_sound (rows_test (x - 2) (k - 2) r) (x - 2) (k - 2) r.cells old (omega arith) (omega arith) (omega arith) (omega arith)))))

taken_sound : (t : Result Rows Wrong) (old : List ℕ) → SmallRows t → FormedOrKept (read_taken t old) old
taken_sound (Ok r) old h = rows_sound r old h
taken_sound (Err w) old h = refl

pub sound_text : SoundText
unfolding read_text
sound_text s old = taken_sound (take_lines 0 (lines_of s) no_rows) old (text_small (lines_of s))
