-- Links followed, computed: one that arrives, and each way in which the track can end.
-- Assumes nothing.
use Rattle.std.specs.Prelude.{ℕ, ◌≡◌, List, [], ◌∷◌, set, Ok}
use Rattle.array.specs.Buffer.{zeros}
use Rattle.array.specs.Tests.{refuse}
use Rattle.plans.specs.Faults.{fault}
use Rattle.plans.specs.declared.Fault.{Fault}
use Rattle.track.specs.Letters.{a, b, c, d, across_letters, down_letters}
use Rattle.track.specs.Placement.{placement}
use Rattle.track.specs.Ports.{Wafer, ◌at◌}
use Rattle.track.specs.declared.ports.Compass.TheVariants.{W, E, N, S}
use Rattle.track.specs.declared.ports.Node.TheVariants.{Processor, Across}
use Rattle.track.specs.Link.{run}
use Rattle.track.specs.Pieces.{stretch, join, pieces}
use Rattle.track.specs.Follower.{refused, followed, out_of, seat_of, cell_test, switches_test}
use Rattle.starred.specs.Grids.{grid_of, directions_of, shown}
use Rattle.track.specs.Ports as ports

-- a wafer with the switches that document 01 defines for these directions
abbrev pub wafer : ℕ → List ℕ → List Fault → Wafer
wafer size faulty fs =
    ports.wafer size size (grid_of size size faulty) (directions_of fs)
    (across_letters size size (grid_of size size faulty) (directions_of fs))
    (down_letters size size (grid_of size size faulty) (directions_of fs))

-- the bench program's example
abbrev pub bench : Wafer
bench = wafer 2 (33 ∷ []) (fault 33 1 ∷ [])

-- (1,1) south beside (1,2) north, and (1,1) east above (2,1) west: each pair runs apart
abbrev pub upright : Wafer
upright = wafer 2 (33 ∷ 34 ∷ 98 ∷ []) (fault 33 1 ∷ fault 34 2 ∷ [])

abbrev pub level : Wafer
level = wafer 2 (33 ∷ 65 ∷ []) (fault 33 3 ∷ fault 65 4 ∷ [])

-- the across letters of a 2 x 2 array with no fault: b wherever a switch is
abbrev pub all_b : List ℕ
all_b = across_letters 2 2 (grid_of 2 2 []) zeros

-- a wafer with other across letters
abbrev pub with_across : Wafer → List ℕ → Wafer
with_across w across = ports.wafer w.rows w.columns w.grid w.directions across w.down

abbrev pub with_down : Wafer → List ℕ → Wafer
with_down w down = ports.wafer w.rows w.columns w.grid w.directions w.across down

-- switch letters where paths run apart, by position, and the cells beside them
pub record LetterExamples : Type 0 where
  pub level_down : shown level.down ≡ c ∷ c ∷ d ∷ a ∷ d ∷ d ∷ c ∷ b ∷ []
  pub level_placed : shown (placement 2 2 level.grid level.directions) ≡ 34 ∷ 35 ∷ 64 ∷ 66 ∷ []
  pub north_beside_south : shown (wafer 2 (33 ∷ 34 ∷ []) (fault 33 2 ∷ fault 34 1 ∷ [])).across ≡ c ∷ d ∷ a ∷ d ∷ b ∷ c ∷ d ∷ c ∷ []

pub record FollowedExamples : Type 0 where
  -- [1, 1], which sits at (2, 1), to the right: to (1, 2), by W, over two switches
  pub right : followed bench 33 0 ≡ Ok (record { position = 34; port = 0; switches = 2 })
  -- the same downward: to (3, 1), by N, over one
  pub lower : followed bench 33 1 ≡ Ok (record { position = 97; port = 2; switches = 1 })
  -- past two faults, from (2, 1) to (0, 2), over three
  pub three : followed upright 33 0 ≡ Ok (record { position = 2; port = 0; switches = 3 })
  -- the pieces of the first
  pub right_pieces : pieces (out_of (seat_of bench 33) 0) (run bench 7 (out_of (seat_of bench 33) 0))
      ≡ stretch (Processor 2 1 at E) (Across 2 1 at W) ∷ join (Across 2 1) W N
      ∷ stretch (Across 2 1 at N) (Across 1 1 at S) ∷ join (Across 1 1) S E
      ∷ stretch (Across 1 1 at E) (Processor 1 2 at W) ∷ []
  -- and those of [2, 1] to the right, which runs through the switch (2, 1) too, by its other join
  pub beside_pieces : pieces (out_of (seat_of bench 65) 0) (run bench 7 (out_of (seat_of bench 65) 0))
      ≡ stretch (Processor 3 1 at E) (Across 3 1 at W) ∷ join (Across 3 1) W N
      ∷ stretch (Across 3 1 at N) (Across 2 1 at S) ∷ join (Across 2 1) S E
      ∷ stretch (Across 2 1 at E) (Processor 2 2 at W) ∷ []
  -- downward past two faults, from (1, 2) to (2, 0), over three; and a right link beside them
  pub three_down : followed level 33 1 ≡ Ok (record { position = 64; port = 2; switches = 3 })
  pub right_beside : followed level 65 0 ≡ Ok (record { position = 66; port = 0; switches = 2 })
  -- with b at every across switch the first enters another cell's processor
  pub wrong_cell : followed (with_across bench all_b) 33 0 ≡ Ok (record { position = 66; port = 0; switches = 1 })
  -- 17 at the cell's processor: there is no switch beside the spare (2, 1)
  pub no_switch : followed (wafer 1 (33 ∷ []) (fault 33 1 ∷ [])) 33 0 ≡ refused 17 65
  -- 17 at the last switch: the spare (1, 2) is faulty
  pub faulty_spare : followed (wafer 1 (34 ∷ []) []) 33 0 ≡ refused 17 33
  -- 17 at a switch whose port is joined to nothing: a at (2, 1)
  pub unjoined_switch : followed (with_across bench (set bench.across 65 97)) 33 0 ≡ refused 17 65
  -- 17 before a fault that joins N and S, entered by W: b at (1, 1) leads from (1, 1) into (1, 2)
  pub unjoined_fault : followed (with_across (wafer 2 (34 ∷ []) (fault 34 1 ∷ [])) all_b) 33 0 ≡ refused 17 33
  -- 17 at (0, 1), beyond which the channel has no switch
  pub missing_switch : followed (with_across bench (set (set bench.across 33 97) 1 97)) 33 0 ≡ refused 17 1
  -- 18 at (0, 1): from [2, 1] over (3, 1), (2, 1) and (1, 1) it would be the fourth
  pub fourth_switch : followed (with_across bench (set (set bench.across 33 97) 65 97)) 65 0 ≡ refused 18 1
  -- the same whether or not that switch joins the port it would be entered by
  pub fourth_joined : followed (with_across bench (set (set (set bench.across 33 97) 65 97) 1 100)) 65 0 ≡ refused 18 1
  -- 15: side 2; no cell [3, 1]. 16: b in the down buffer where no switch is
  pub no_side : cell_test bench 33 2 ≡ refuse 15 0 0
  pub no_cell : cell_test bench 97 0 ≡ refuse 15 0 0
  pub no_down_switch : switches_test (with_down bench (set bench.down 0 98)) ≡ refuse 16 0 0
