-- The text of a grid: a line for each row of the array, spares and corners included, and a character for each of its columns.
-- Assumes nothing.
use Rattle.std.specs.Prelude.{ℕ, ◌+◌, ◌*◌, ◌/◌, ◌%◌, cond, List, eqb}
use Rattle.array.specs.Place.{position}
use Rattle.array.specs.Buffer.{tabulate}
use Rattle.array.specs.Map.{dead_mark, mark_at, well_formed}
use Rattle.array.specs.Tests.{or_else}
use Rattle.writers.specs.Writing.{room_test, put, FileWritten}

-- '.' healthy, 'X' faulty, 'D' dead, a space where no processor is
abbrev pub character : ℕ → ℕ
character mark = cond (eqb mark 0) 46 (cond (eqb mark 1) 88 (cond (dead_mark mark) 68 32))

-- N + 2 lines of M + 2 characters, each with a line feed
abbrev pub text_length : ℕ → ℕ → ℕ
text_length n m = (n + 2) * (m + 3)

-- the byte at an index: the line feed in the last place of a line, else the character of a row and a column
abbrev pub text_byte : ℕ → ℕ → List ℕ → ℕ → ℕ
text_byte n m grid i =
    cond (eqb (i % (m + 3)) (m + 2)) 10 (character (mark_at grid (position (i / (m + 3)) (i % (m + 3)))))

unfoldable pub text : ℕ → ℕ → List ℕ → List ℕ
text n m grid = tabulate (text_byte n m grid) (text_length n m)

-- what write_text answers, with the buffer afterwards: 1 to 3, then 14, as of a map file
abbrev pub write_text : ℕ → ℕ → List ℕ → List ℕ → FileWritten × List ℕ
write_text n m grid out = put (or_else (well_formed n m grid) (room_test (text n m grid) out)) (text n m grid) out
