-- Document 01, "Placement and routing" and "Numbers returned": the follower's answer, with 15 to 18.
-- Assumes nothing.
use Rattle.std.specs.Prelude.{ℕ, suc, ◌≤◌, ◌+◌, ◌≡◌, false, cond, not, ◌&&◌, List, [], ◌∷◌, ltb, eqb, get_or, Result, Ok, Err}
use Rattle.array.specs.Place.{position, row, column, inner}
use Rattle.array.specs.Tests.{Verdict, Told, accepts, refuses_as, refusal, refuse_if, first_in}
use Rattle.array.specs.Map.{faulty}
use Rattle.array.specs.declared.Refusal.{Refusal}
use Rattle.plans.specs.Faults.{directed_faults}
use Rattle.track.specs.Placement.{seat}
use Rattle.track.specs.Letters.{across_exists, down_exists, switch_byte}
use Rattle.track.specs.Ports.{Wafer, ◌at◌}
use Rattle.track.specs.declared.ports.Compass.{Compass}
use Rattle.track.specs.declared.ports.Compass.TheVariants.{W, E, N, S}
use Rattle.track.specs.declared.ports.Node.{Node}
use Rattle.track.specs.declared.ports.Node.TheVariants.{Processor, Across, Down}
use Rattle.track.specs.declared.ports.Port.{Port}
use Rattle.track.specs.Link.{Trail, passes, enters, unjoined_at, no_stretch, unfinished, is_switch, run, Link, Enters, switches}
use Rattle.track.specs.declared.Landing.{Landing}

-- what the follower answers
abbrev pub Followed : Type 0
Followed = Result Landing Refusal

-- the three values of a link that arrives, or the refusal
abbrev pub told : Followed → Told
told (Ok l) = accepts (l.position ∷ l.port ∷ l.switches ∷ [])
told (Err r) = refuses_as r

abbrev pub port_number : Compass → ℕ
port_number W = 0
port_number E = 1
port_number N = 2
port_number S = 3

abbrev pub position_of : Node → ℕ
position_of (Processor x y) = position x y
position_of (Across x y) = position x y
position_of (Down x y) = position x y

-- a side: 0 east, 1 south
abbrev pub by_side : {A : Type 0} → ℕ → A → A → A
by_side side east south = cond (eqb side 0) east south

abbrev pub processor_of : ℕ → Node
processor_of p = Processor (row p) (column p)

-- the port by which the link of a side leaves the processor at p
abbrev pub out_of : ℕ → ℕ → Port
out_of p side = processor_of p at by_side side E S

-- the position that holds a cell, which is known by its position 32i + j
abbrev pub seat_of : Wafer → ℕ → ℕ
seat_of w cell = seat w.rows w.columns (directed_faults w.rows w.columns w.grid w.directions) cell

abbrev pub refused : ℕ → ℕ → Followed
refused k p = Err (refusal k p 0)

-- 18 at p, the switch ahead, where it would be the fourth: k are passed
abbrev pub unless_fourth : ℕ → ℕ → Followed → Followed
unless_fourth k p next = cond (eqb k 3) (refused 18 p) next

-- The answer for a run that has passed k switches, the last of them at c; c is where the cell sits while k is 0. Where the
-- run cannot go on it is 17: at c, where nothing is ahead, or a fault's port that joins nothing, or a faulty spare; at the switch itself, which
-- was entered, where its port joins nothing. A run of too few steps has no answer of document 01's; `Enough` says that none occurs.
unfoldable pub judged : List ℕ → ℕ → ℕ → Trail → Followed
judged grid c k (passes i q t) =
    cond (is_switch i.node) (unless_fourth k (position_of i.node) (judged grid (position_of i.node) (suc k) t)) (judged grid c k t)
judged grid c k (unjoined_at i) =
    cond (is_switch i.node) (unless_fourth k (position_of i.node) (refused 17 (position_of i.node))) (refused 17 c)
judged grid c k (enters i) =
    cond (faulty grid (position_of i.node)) (refused 17 c)
    (Ok (record { position = position_of i.node; port = port_number i.side; switches = k }))
judged grid c k no_stretch = refused 17 c
judged grid c k unfinished = refused 0 0

-- the answer for a cell and a side, from the first seven nodes of its link: stretches lead from a processor only to switches, so that a
-- fourth switch is at most the seventh node entered
unfoldable pub followed : Wafer → ℕ → ℕ → Followed
followed w cell side = judged w.grid (seat_of w cell) 0 (run w 7 (out_of (seat_of w cell) side))

-- more steps do not change the answer, and there always is one
pub record Enough : Type 0 where
  pub no_more : (w : Wafer) (cell side k : ℕ)
      → judged w.grid (seat_of w cell) 0 (run w (7 + k) (out_of (seat_of w cell) side)) ≡ followed w cell side
  pub answered : (w : Wafer) (cell side : ℕ) → followed w cell side ≡ refused 0 0 → ⊥

-- what is to be returned of a link that enters a processor by the port e
abbrev pub landing : Trail → Port → Landing
landing t e = record { position = position_of e.node; port = port_number e.side; switches = switches t }

-- the link that an answer is of
pub record LinkOf (w : Wafer) (cell side : ℕ) (l : Landing) : Type 0 where
  pub link : Trail
  pub is_link : Link w (out_of (seat_of w cell) side) link
  pub end : Port
  pub ends : Enters link end
  pub healthy_end : faulty w.grid (position_of end.node) ≡ false
  pub few : switches link ≤ 3
  pub is : l ≡ landing link end

-- On any wafer the follower tells of the link: it enters where the link does and nowhere else, and there is one link. What it refuses is in
-- `Refusals`.
pub record FollowerOwn : Type 0 where
  pub answered : (w : Wafer) (cell side : ℕ) (l : Landing) → followed w cell side ≡ Ok l → LinkOf w cell side l
  pub answers : (w : Wafer) (cell side : ℕ) (l : Landing) → LinkOf w cell side l → followed w cell side ≡ Ok l
  pub one_link : (w : Wafer) (o : Port) (t t' : Trail) → Link w o t → Link w o t' → t ≡ t'
  pub enough : Enough

-- 15: the cell or the side doesn't exist; place 0
abbrev pub cell_test : Wafer → ℕ → ℕ → Verdict
cell_test w cell side = refuse_if (not (inner w.rows w.columns cell && ltb side 2)) 15 0 0

-- 16: a byte that is not allowed where it stands, in either switch buffer; the lowest such position
abbrev pub switch_test : Wafer → ℕ → ℕ → Verdict
switch_test w p byte =
    refuse_if
    (not (switch_byte (across_exists w.rows w.columns (row p) (column p)) byte
    && switch_byte (down_exists w.rows w.columns (row p) (column p)) (get_or w.down p 0))) 16 p 0

abbrev pub switches_test : Wafer → Verdict
switches_test w = first_in (switch_test w) w.across
