-- What a text grid stands for, or what is wrong with it. The comments of `Wrong` in the source say what each kind of wrong is.
-- Characters: 10 line feed, 13 carriage return, 32 space, 35 '#', 43 '+', 46 '.', 68 'D', 88 'X', 100 'd', 120 'x'.
-- Assumes nothing.
use Rattle.std.specs.Prelude.{ℕ, zero, suc, ◌+◌, ◌-◌, Bool, cond, ◌&&◌, ◌||◌, List, [], ◌∷◌, leb, ltb, eqb, length, get_or, set, replicate, ⊤, Option, None, Some, is_some, Result, Ok, Err}
use Rattle.std.specs.Result.{result_and}
use Rattle.std.proofs.lemmas.List.Edits.{sets}
use Rattle.array.specs.Place.{position, row, column, inner_at, processor_at, inner, processor}
use Rattle.array.specs.Buffer.{buffer}
use Rattle.grids.specs.declared.rows.Rows.{Rows}
use Rattle.grids.specs.declared.wrong.Character.{Character}
use Rattle.grids.specs.declared.wrong.Wrong.{Wrong}
use Rattle.grids.specs.declared.wrong.Wrong.TheVariants.{Empty, Few, Many, Blank, Wide, Narrow, Length, Spares, Corner, Mark, Dead}

-- A text is cut into lines at its line feeds. A line feed at the very end starts no further line, and an empty text has no line.
-- `in_front` puts a character in front of the first line.
abbrev in_front : ℕ → List (List ℕ) → List (List ℕ)
in_front c [] = (c ∷ []) ∷ []
in_front c (l ∷ ls) = (c ∷ l) ∷ ls

unfoldable pub lines_of : List ℕ → List (List ℕ)
lines_of [] = []
lines_of (c ∷ s) = cond (eqb c 10) ([] ∷ lines_of s) (in_front c (lines_of s))

-- A line without the spaces, tabs and carriage returns at its end.
abbrev pub blank_letter : ℕ → Bool
blank_letter c = eqb c 32 || (eqb c 9 || eqb c 13)

abbrev before : ℕ → List ℕ → List ℕ
before c [] = cond (blank_letter c) [] (c ∷ [])
before c (d ∷ l) = c ∷ d ∷ l

unfoldable pub trim : List ℕ → List ℕ
trim [] = []
trim (c ∷ l) = before c (trim l)

-- No rows: a space at every position, and 0 for every length and line.
abbrev pub no_rows : Rows
no_rows = record { cells = replicate 1024 32; lengths = replicate 32 0; lines = replicate 32 0; count = 0; blank = None }

-- line k is blank: the first such line after a row is noted
abbrev pub pass_blank : ℕ → Rows → Rows
pass_blank k r =
    cond (eqb r.count 0 || is_some r.blank) r
    (record { cells = r.cells; lengths = r.lengths; lines = r.lines; count = r.count; blank = Some k })

-- row x, which is line k, has these characters
abbrev pub with_row : ℕ → List ℕ → Rows → Rows
with_row k l r =
    let x = r.count in
    record {
      cells = sets r.cells (position x 0) l;
      lengths = set r.lengths x (length l);
      lines = set r.lines x k;
      count = x + 1;
      blank = None;
    }

abbrev pub after_blank : Option ℕ → Result Rows Wrong → Result Rows Wrong
after_blank None t = t
after_blank (Some k) t = Err (Blank k)

-- line k is a row of these characters: not after a blank line, not after 32 rows, at most 32 characters
unfoldable pub take_row : ℕ → List ℕ → Rows → Result Rows Wrong
take_row k l r =
    after_blank r.blank
    (cond (leb 32 r.count) (Err (Many k)) (cond (ltb 32 (length l)) (Err (Wide k (length l))) (Ok (with_row k l r))))

-- line k has these characters: blank where it has none, a comment where it starts with '#', else a row
unfoldable pub take_line : ℕ → List ℕ → Rows → Result Rows Wrong
take_line k [] r = Ok (pass_blank k r)
take_line k (c ∷ l) r = cond (eqb c 35) (Ok r) (take_row k (c ∷ l) r)

abbrev pub and_then : Result Rows Wrong → (Rows → Result Rows Wrong) → Result Rows Wrong
and_then (Ok r) f = f r
and_then (Err w) f = Err w

-- the lines after line k, in order
unfoldable pub take_lines : ℕ → List (List ℕ) → Rows → Result Rows Wrong
take_lines k [] r = Ok r
take_lines k (l ∷ ls) r = and_then (take_line (k + 1) (trim l) r) (take_lines (k + 1) ls)

-- 'X' or 'x'
abbrev pub fault_letter : ℕ → Bool
fault_letter b = eqb b 88 || eqb b 120

-- 'D' or 'd', of a dead processor
abbrev pub dead_letter : ℕ → Bool
dead_letter b = eqb b 68 || eqb b 100

-- the mark of a processor whose character is b; only an inner one can be dead
abbrev pub processor_mark : Bool → ℕ → ℕ
processor_mark is-inner b = cond (fault_letter b) 1 (cond (dead_letter b && is-inner) 3 0)

-- the mark of a position whose character is b
abbrev pub mark_of : ℕ → ℕ → ℕ → ℕ → ℕ
mark_of n m p b = cond (processor n m p) (processor_mark (inner n m p) b) 2

-- the grid of the characters by position
unfoldable pub grid_of : ℕ → ℕ → List ℕ → List ℕ
grid_of n m cells = buffer (λ p. mark_of n m p (get_or cells p 0))

-- Judgements: nothing is wrong, or what is; of two the first that is wrong counts.
abbrev pub Judged : Type 0
Judged = Result ⊤ Wrong

abbrev pub good : Judged
good = Ok tt

abbrev pub or_else : Judged → Judged → Judged
or_else = result_and

abbrev pub good_if : Bool → Wrong → Judged
good_if b w = cond b good (Err w)

abbrev pub character_at : ℕ → ℕ → ℕ → Character
character_at line column b = record { line = line; column = column; byte = b }

-- the length of row x, which stands on this line: M + 2, and in the first and the last row, whose last place is a corner, also M + 1
abbrev pub length_test : ℕ → ℕ → ℕ → ℕ → ℕ → ℕ → Judged
length_test n m x long line second =
    cond (eqb x 0 || eqb x (n + 1))
    (good_if (eqb long (m + 1) || eqb long (m + 2)) (Spares line (m + 1) second))
    (good_if (eqb long (m + 2)) (Length line long second (m + 2)))

-- the character b of a processor: '.', 'X' or 'x', and of an inner one also 'D' or 'd'
abbrev pub processor_test : Bool → ℕ → ℕ → ℕ → Judged
processor_test is-inner b line column =
    cond (dead_letter b)
    (good_if is-inner (Dead (character_at line column b)))
    (good_if (eqb b 46 || fault_letter b) (Mark (character_at line column b)))

-- the character b in row x and column y: a processor's where one is, a space (as after the row's end) or '+' where none is
abbrev pub letter_test : ℕ → ℕ → ℕ → ℕ → ℕ → ℕ → Judged
letter_test n m x y b line =
    cond (processor_at n m x y)
    (processor_test (inner_at n m x y) b line (y + 1))
    (good_if (eqb b 32 || eqb b 43) (Corner (character_at line (y + 1) b)))

-- what stands in row x and column y, at the start of a row first the row's length; after row N + 1 there is nothing to test
abbrev pub place_test : ℕ → ℕ → ℕ → ℕ → ℕ → ℕ → ℕ → ℕ → Judged
place_test n m x y b long line second =
    cond (leb x (n + 1))
    (or_else (cond (eqb y 0) (length_test n m x long line second) good) (letter_test n m x y b line))
    good

-- the same at a position
abbrev pub position_test : ℕ → ℕ → Rows → ℕ → Judged
position_test n m r p =
    place_test n m (row p) (column p) (get_or r.cells p 0) (get_or r.lengths (row p) 0) (get_or r.lines (row p) 0) (get_or r.lines 1 0)

-- the first wrong among f i, f (i + 1), .. of k places
unfoldable pub first_wrong : (ℕ → Judged) → ℕ → ℕ → Judged
first_wrong f i zero = good
first_wrong f i (suc k) = or_else (f i) (first_wrong f (suc i) k)

unfoldable pub rows_test : ℕ → ℕ → Rows → Judged
rows_test n m r = first_wrong (position_test n m r) 0 1024

-- N and M, or what is wrong, with the grid afterwards
abbrev pub TextRead : Type 0
TextRead = Result (ℕ × ℕ) Wrong × List ℕ

-- a text that is wrong leaves the grid as it was
abbrev pub finish : Judged → ℕ → ℕ → List ℕ → List ℕ → TextRead
finish (Ok x) n m cells old = (Ok (n, m), grid_of n m cells)
finish (Err w) n m cells old = (Err w, old)

-- by the number of rows, the length of the second, then all of them
unfoldable pub read_rows : Rows → List ℕ → TextRead
read_rows r old =
    let x = r.count in
    let width = get_or r.lengths 1 0 in
    cond (eqb x 0) (Err Empty, old)
    (cond (ltb x 3) (Err (Few x), old)
    (cond (ltb width 3) (Err (Narrow (get_or r.lines 1 0) width), old)
    (finish (rows_test (x - 2) (width - 2) r) (x - 2) (width - 2) r.cells old)))

abbrev pub read_taken : Result Rows Wrong → List ℕ → TextRead
read_taken (Ok r) old = read_rows r old
read_taken (Err w) old = (Err w, old)

-- what read_text answers, with the grid afterwards
unfoldable pub read_text : List ℕ → List ℕ → TextRead
read_text s old = read_taken (take_lines 0 (lines_of s) no_rows) old
