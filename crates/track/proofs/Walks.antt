-- Placement, routing states, letters and joins in the view by row and column, and the link of a cell as a walk from switch to switch.
-- Written for links that leave by the east port; a south link is the east link of the transposed view. Definitions for the proofs.
-- Assumes nothing.
use Rattle.std.specs.Prelude.{Option, None, Some}
use Prim.Native.Nat.{ℕ, zero, suc}
use mathlib.Core.Bool.{Bool, true, false}
use Rattle.track.specs.Letters.{a, b, c, d, letter, across_exists}
use Rattle.track.specs.Ports.{by_letter, across_joins}
use Rattle.track.specs.declared.ports.Compass.{Compass}
use Rattle.track.specs.declared.ports.Compass.TheVariants.{W, E, N, S}
use Rattle.track.proofs.View.{Dir, still, south, north, east, west, tr, View}

pub data State : Type 0 where
  v0 v1 v2 v3 v4 : State

-- the routing state of a processor that is on a path of direction d, or none, and faulty or not
abbrev pub state : Dir → Bool → State
state still b = v0
state south false = v1
state south true = v2
state north true = v3
state north false = v4
state east b = v0
state west b = v0

abbrev pub vertical : View → ℕ → ℕ → State
vertical w x y = state (w.path x y) (w.faulty x y)

pub data Letter : Type 0 where
  sa sb sc sd no_switch : Letter

-- states and letters as document 01 writes them
abbrev pub state_number : State → ℕ
state_number v0 = 0
state_number v1 = 1
state_number v2 = 2
state_number v3 = 3
state_number v4 = 4

abbrev pub code : Letter → ℕ
code sa = a
code sb = b
code sc = c
code sd = d
code no_switch = 0

abbrev pub decode : ℕ → Letter
decode l = by_letter l sa sb sc sd no_switch

-- the letter of two states
abbrev pub table : State → State → Letter
table s t = decode (letter (state_number s) (state_number t))

abbrev pub where_both : Bool → Letter → Letter
where_both true l = l
where_both false l = no_switch

-- the letter of the across switch between (x, y) and (x, y+1)
abbrev pub across : View → ℕ → ℕ → Letter
across w x y = where_both (across_exists w.rows w.cols x y) (table (vertical w x y) (vertical w x (suc y)))

pub data Joined : Type 0 where
  to : Compass → Joined
  unjoined : Joined
  missing : Joined

abbrev pub as_joined : Option Compass → Joined
as_joined None = unjoined
as_joined (Some q) = to q

-- the port that a letter joins to a port
abbrev pub join : Letter → Compass → Joined
join sa p = as_joined (across_joins a p)
join sb p = as_joined (across_joins b p)
join sc p = as_joined (across_joins c p)
join sd p = as_joined (across_joins d p)
join no_switch p = missing

-- what an across link meets in a processor: it ends there, it runs through from W to E, or its track ends at an unjoined port
pub data Inside : Type 0 where
  ends runs stuck : Inside

abbrev pub converted : Dir → Inside
converted still = stuck
converted south = stuck
converted north = stuck
converted east = runs
converted west = runs

abbrev pub inside_of : Dir → Bool → Inside
inside_of d false = ends
inside_of d true = converted d

abbrev pub inside : View → ℕ → ℕ → Inside
inside w x y = inside_of (w.path x y) (w.faulty x y)

-- the run of a link: the switches and faults that it passes, each with the port it comes by and the port it leaves by; then
-- the processor that it enters and the port it enters by, or the switch that joins its port to nothing, or no further switch
-- or a processor that it neither ends in nor runs through, or the switch that would be one too many
pub data Run : Type 0 where
  switch : ℕ → ℕ → Compass → Compass → Run → Run
  fault : ℕ → ℕ → Compass → Compass → Run → Run
  enters : ℕ → ℕ → Compass → Run
  unjoined_at : ℕ → ℕ → Run
  lost : Run
  too_long : ℕ → ℕ → Run

-- the processor at (x, y) is entered by its W port, or by its E port; k is how the run goes on from a switch
abbrev pub enter_W : (ℕ → ℕ → Compass → Run) → Inside → ℕ → ℕ → Run
enter_W k ends x y = enters x y W
enter_W k runs x y = fault x y W E (k x y W)
enter_W k stuck x y = lost

abbrev pub enter_E : (ℕ → ℕ → Compass → Run) → Inside → ℕ → ℕ → Run
enter_E k ends x y = enters x y E
enter_E k stuck x y = lost
enter_E k runs x zero = lost
enter_E k runs x (suc y) = fault x (suc y) E W (k x y E)

abbrev pub north_of : (ℕ → ℕ → Compass → Run) → ℕ → ℕ → Run
north_of k zero y = lost
north_of k (suc x) y = k x y S

-- the switch filed under (x, y) is passed from port p
abbrev pub pass : (ℕ → ℕ → Compass → Run) → Inside → Inside → ℕ → ℕ → Compass → Joined → Run
pass k west_in east_in x y p missing = lost
pass k west_in east_in x y p unjoined = unjoined_at x y
pass k west_in east_in x y p (to E) = switch x y p E (enter_W k east_in x (suc y))
pass k west_in east_in x y p (to W) = switch x y p W (enter_E k west_in x y)
pass k west_in east_in x y p (to N) = switch x y p N (north_of k x y)
pass k west_in east_in x y p (to S) = switch x y p S (k (suc x) y N)

abbrev pub one_more : Letter → ℕ → ℕ → Run
one_more sa x y = too_long x y
one_more sb x y = too_long x y
one_more sc x y = too_long x y
one_more sd x y = too_long x y
one_more no_switch x y = lost

-- at most n switches from the switch filed under (x, y), entered by p, where the switches hold the letters L and the
-- processors join I
abbrev pub walk : (ℕ → ℕ → Letter) → (ℕ → ℕ → Inside) → ℕ → ℕ → ℕ → Compass → Run
walk L I zero x y p = one_more (L x y) x y
walk L I (suc n) x y p = pass (walk L I n) (I x y) (I x (suc y)) x y p (join (L x y) p)

pub record Place : Type 0 where
  pub row : ℕ
  pub col : ℕ

abbrev pub before : ℕ → ℕ
before zero = zero
before (suc n) = n

abbrev pub moved : Dir → ℕ → ℕ → Place
moved still i j = record { row = i; col = j }
moved south i j = record { row = suc i; col = j }
moved north i j = record { row = before i; col = j }
moved east i j = record { row = i; col = suc j }
moved west i j = record { row = i; col = before j }

-- where cell [i, j] is placed
abbrev pub placed : View → ℕ → ℕ → Place
placed w i j = moved (w.path i j) i j

-- the link that leaves the processor of [i, j] by its E port
abbrev pub link : View → ℕ → ℕ → Run
link w i j = walk (across w) (inside w) 3 (placed w i j).row (placed w i j).col W

abbrev pub switches : Run → ℕ
switches (switch x y p q r) = suc (switches r)
switches (fault x y p q r) = switches r
switches (enters x y p) = zero
switches (unjoined_at x y) = zero
switches lost = zero
switches (too_long x y) = zero

-- where a run ends
abbrev pub last : Run → Run
last (switch x y p q r) = last r
last (fault x y p q r) = last r
last (enters x y p) = enters x y p
last (unjoined_at x y) = unjoined_at x y
last lost = lost
last (too_long x y) = too_long x y

-- the horizontal routing state: east for south, west for north
abbrev pub horizontal : View → ℕ → ℕ → State
horizontal w x y = state (tr (w.path x y)) (w.faulty x y)
