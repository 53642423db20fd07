-- Texts read, computed: right ones, and one for each way to be wrong; and a text written.
-- Assumes nothing.
use Rattle.std.specs.Prelude.{ℕ, ◌≡◌, Result, Ok, Err, List, [], ◌∷◌, ◌++◌, replicate}
use Prim.Native.String.{String}
use Rattle.std.proofs.lemmas.List.Edits.{sets}
use Rattle.formats.specs.Ascii.{ascii_lines}
use Rattle.grids.specs.Text.{text}
use Rattle.grids.specs.Reading.{character_at, read_text}
use Rattle.grids.specs.declared.wrong.Wrong.{Wrong}
use Rattle.grids.specs.declared.wrong.Wrong.TheVariants.{Empty, Few, Many, Blank, Wide, Narrow, Length, Spares, Corner, Mark, Dead}

-- what is answered of these lines
abbrev pub answer : List String → Result (ℕ × ℕ) Wrong
answer ls = (read_text (ascii_lines ls) []).0

-- the grid of a 1 x 3 array with dead processors
abbrev pub with_dead : List ℕ
with_dead =
    sets (sets (sets (replicate 1024 2) 1 (0 ∷ 1 ∷ 0 ∷ [])) 32 (0 ∷ 3 ∷ 1 ∷ 3 ∷ 0 ∷ [])) 65 (0 ∷ 0 ∷ 0 ∷ [])

pub record TextExamples : Type 0 where
  -- 1 x 1 with its inner processor faulty; with corners, comments, blank lines and ends as editors leave them
  pub smallest : answer (" ." ∷ ".X." ∷ " ." ∷ []) ≡ Ok (1, 1)
  pub edited : answer ("# a" ∷ "" ∷ "+.+ \r" ∷ ".x." ∷ "#" ∷ "+." ∷ " " ∷ "" ∷ []) ≡ Ok (1, 1)
  -- 2 x 1 and 1 x 2
  pub one_column : answer (" ." ∷ "..." ∷ "X.." ∷ " ." ∷ []) ≡ Ok (2, 1)
  pub one_row : answer (" .." ∷ ".X.." ∷ " .." ∷ []) ≡ Ok (1, 2)
  -- 1 x 2, both dead
  pub dead : answer (" .." ∷ ".Dd." ∷ " .." ∷ []) ≡ Ok (1, 2)
  -- each way to be wrong
  pub no_row : answer ("# a" ∷ "" ∷ []) ≡ Err Empty
  pub two_rows : answer (" ." ∷ ".X." ∷ []) ≡ Err (Few 2)
  pub blank_between : answer ("" ∷ " ." ∷ "#" ∷ "" ∷ ".X." ∷ " ." ∷ []) ≡ Err (Blank 4)
  pub narrow : answer (" ." ∷ ".." ∷ " ." ∷ []) ≡ Err (Narrow 2 2)
  pub longer : answer (" ." ∷ "..." ∷ "...." ∷ " ." ∷ []) ≡ Err (Length 3 4 2 3)
  pub spare_missing : answer ("." ∷ ".X." ∷ " ." ∷ []) ≡ Err (Spares 1 2 2)
  -- 88 is 'X', 111 'o'
  pub corner_marked : answer (" ." ∷ ".X." ∷ " .X" ∷ []) ≡ Err (Corner (character_at 3 3 88))
  pub unknown_mark : answer (" ." ∷ ".o." ∷ " ." ∷ []) ≡ Err (Mark (character_at 2 2 111))
  -- 68 is 'D', 100 'd': at a spare above and on the right, and at a corner
  pub dead_spare : answer (" D" ∷ ".D." ∷ " ." ∷ []) ≡ Err (Dead (character_at 1 2 68))
  pub dead_right : answer (" .." ∷ ".Xdd" ∷ " .." ∷ []) ≡ Err (Dead (character_at 2 4 100))
  pub dead_corner : answer (" ." ∷ ".X." ∷ "d." ∷ []) ≡ Err (Corner (character_at 3 1 100))
  pub wide : (read_text (replicate 33 46 ++ 10 ∷ []) []).0 ≡ Err (Wide 1 33)
  pub many : answer (replicate 33 ".") ≡ Err (Many 33)
  -- the first by position
  pub first_in_order : answer (" ." ∷ ".o." ∷ "..." ∷ ". " ∷ []) ≡ Err (Mark (character_at 2 2 111))
  -- the grid of the smallest, and an untouched one
  pub grid_read : (read_text (ascii_lines (" ." ∷ ".X." ∷ " ." ∷ [])) []).1
      ≡ sets (sets (sets (replicate 1024 2) 1 (0 ∷ [])) 32 (0 ∷ 1 ∷ 0 ∷ [])) 65 (0 ∷ [])
  pub grid_kept : read_text [] (7 ∷ []) ≡ (Err Empty, 7 ∷ [])
  -- 1 x 3 with a dead, a faulty and a dead processor, and a faulty spare: its grid and its text
  pub dead_read : (read_text (ascii_lines (" .X." ∷ ".dXD." ∷ " ..." ∷ [])) []).1 ≡ with_dead
  pub dead_written : text 1 3 with_dead ≡ ascii_lines (" .X. " ∷ ".DXD." ∷ " ... " ∷ [])
