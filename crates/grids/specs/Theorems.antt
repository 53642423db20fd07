-- What is proved of texts.
-- Assumes nothing.
use Rattle.std.specs.Prelude.{ℕ, ◌≡◌, List, Ok, Err}
use Rattle.array.specs.Map.{well_formed}
use Rattle.grids.specs.Text.{text}
use Rattle.grids.specs.Reading.{TextRead, read_text}

-- an answer, with the grid before and after: a text that is read leaves a well-formed map, and one that is wrong the grid as it was
abbrev pub FormedOrKept : TextRead → List ℕ → Type 0
FormedOrKept (Ok (n, m), new) old = well_formed n m new ≡ Ok tt
FormedOrKept (Err w, new) old = new ≡ old

abbrev pub SoundText : Type 0
SoundText = (s old : List ℕ) → FormedOrKept (read_text s old) old

-- the text of a well-formed map is read as that map
abbrev pub TextRoundTrip : Type 0
TextRoundTrip =
    (n m : ℕ) (grid old : List ℕ) → well_formed n m grid ≡ Ok tt → read_text (text n m grid) old ≡ (Ok (n, m), grid)
