-- Document 02, T-08, computed on the sessions of Examples: 3 x 3 with kept paths from (1, 1) west, from the dead (1, 3)
-- south and from (2, 2) south, where the spare (0, 2) is faulty.
-- Assumes nothing.
use Rattle.std.specs.Prelude.{ℕ, ◌≡◌, true, false, List, [], ◌∷◌, get_or}
use Rattle.sessions.specs.Session.{session}
use Rattle.previews.specs.Preview.{foretold, differences, counter_changes}
use Rattle.previews.specs.declared.Foretold.{Foretold}
use Rattle.reports.specs.Examples.{started, without, made_up}

-- what is foretold: the direction, and the counters at q: south, north, east, west
abbrev pub foretold_at : Foretold → ℕ → List ℕ
foretold_at f q =
    f.direction ∷ get_or f.south q 0 ∷ get_or f.north q 0 ∷ get_or f.east q 0 ∷ get_or f.west q 0 ∷ []

pub record PreviewExamples : Type 0 where
  -- (3, 1) would take south; a path south from (2, 1) would meet its path
  pub taken_south : foretold_at (foretold started true 97) 65 ≡ 1 ∷ 1 ∷ 1 ∷ 2 ∷ 0 ∷ []
  -- the path of (2, 2) would go: (1, 2) is free to the south; the direction is 0
  pub recovered : foretold_at (foretold started false 66) 34 ≡ 0 ∷ 0 ∷ 0 ∷ 1 ∷ 1 ∷ []
  -- and (3, 2), which lies on that path, has one less in each direction: 1, 2, 2, 1 before
  pub recovered_below : foretold_at (foretold started false 66) 98 ≡ 0 ∷ 0 ∷ 1 ∷ 1 ∷ 0 ∷ []
  -- a spare that fails, and one that recovers: no direction, and the counters stay
  pub spare_fails : foretold_at (foretold started true 1) 97 ≡ 0 ∷ 0 ∷ 2 ∷ 2 ∷ 0 ∷ []
  pub spare_recovers : foretold_at (foretold started false 2) 97 ≡ 0 ∷ 0 ∷ 2 ∷ 2 ∷ 0 ∷ []
  -- beside a refusal all is 0: 24 at (1, 2), 23 at the spare (1, 0), 15 at a corner
  pub no_direction : foretold_at (foretold started true 34) 97 ≡ 0 ∷ 0 ∷ 0 ∷ 0 ∷ 0 ∷ []
  pub spare_on_path : foretold_at (foretold started true 32) 97 ≡ 0 ∷ 0 ∷ 0 ∷ 0 ∷ 0 ∷ []
  pub corner : foretold_at (foretold started false 0) 97 ≡ 0 ∷ 0 ∷ 0 ∷ 0 ∷ 0 ∷ []
  -- each direction, from the middle: the spares (4, 2), (0, 2) and (2, 4) are faulty in turn
  pub south_first : (foretold (without 0 0 0) true 66).direction ≡ 1
  pub north_second : (foretold (without 130 0 0) true 66).direction ≡ 2
  pub east_third : (foretold (without 130 2 0) true 66).direction ≡ 3
  pub west_last : (foretold (without 130 2 68) true 66).direction ≡ 4
  -- two of four elements differ, and none
  pub two_differ : differences (7 ∷ 0 ∷ 3 ∷ 255 ∷ []) (7 ∷ 1 ∷ 3 ∷ 254 ∷ []) ≡ 2
  pub none_differs : differences (7 ∷ 0 ∷ []) (7 ∷ 0 ∷ []) ≡ 0
  -- each direction is compared with its own: one south, none north, two east and one west
  pub four_change : counter_changes (session 1 1 [] [] (1 ∷ 2 ∷ []) (3 ∷ 4 ∷ []) (5 ∷ 6 ∷ []) (7 ∷ 8 ∷ []))
      (record { direction = 1; south = 1 ∷ 0 ∷ []; north = 3 ∷ 4 ∷ []; east = 6 ∷ 5 ∷ []; west = 0 ∷ 8 ∷ [] }) ≡ 4
  -- made_up counters stop at 255
  pub stops_at_255 : foretold_at (foretold (made_up 255) true 97) 65 ≡ 1 ∷ 255 ∷ 255 ∷ 255 ∷ 255 ∷ []
