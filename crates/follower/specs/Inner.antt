-- What the inner parts of the follower promise each other: the wafer that they read, and a link followed from node to node.
-- Assumes nothing.
use Rattle.std.specs.Prelude.{ℕ, suc, ◌≤◌, ◌≡◌, ◌+◌, Bool, cond, ◌&&◌, eqb, get_or, Option, Some, None, Result, Ok, Err}
use Rattle.array.specs.Place.{row, column}
use Rattle.array.specs.Map.{dead, inner_fault}
use Rattle.array.specs.Tests.{Verdict, refuse_if}
use Rattle.array.specs.declared.Refusal.{Refusal}
use Rattle.track.specs.Letters.{across_exists, down_exists, switch_byte}
use Rattle.track.specs.Nodes.{InBuffers}
use Rattle.track.specs.Ports.{Wafer, wafer, fault_joins}
use Rattle.track.specs.declared.ports.Compass.{Compass}
use Rattle.track.specs.declared.ports.Node.{Node}
use Rattle.track.specs.Link.{is_switch, run}
use Rattle.track.specs.Follower.{Followed, position_of, judged}
use Rattle.track.specs.declared.Landing.{Landing}
use Rattle.follower.specs.declared.Walk.{Walk}
use Rattle.follower.specs.declared.wafer.Wafer as declared

-- the wafer that the code's holds
abbrev pub wafer_of : declared.Wafer → Wafer
wafer_of w = wafer w.plan.map.shape.rows w.plan.map.shape.columns w.plan.map.grid.now w.plan.directions.now w.across.now w.down.now

-- the port joined to a processor's, at its position
abbrev pub joined_at : Wafer → ℕ → Compass → Option Compass
joined_at w p s =
    cond (dead w.grid p) None (cond (inner_fault w.rows w.columns w.grid p) (fault_joins (get_or w.directions p 0) s) None)

pub record SoundWalk (v : Walk) : Type 0 where
  pub port : InBuffers v.port.node
  pub few : v.passed ≤ 3

-- a switch entered is counted, and the link is there, but a fourth one is refused
pub record Enters (v : Walk) (i : Node) (v' : Walk) (r : Verdict) : Type 0 where
  pub same : v'.port ≡ v.port
  pub refused : r ≡ cond (is_switch i) (refuse_if (eqb v.passed 3) 18 (position_of i) 0) (Ok tt)
  pub last : r ≡ Ok tt → v'.last ≡ cond (is_switch i) (position_of i) v.last
  pub passed : r ≡ Ok tt → v'.passed ≡ cond (is_switch i) (v.passed + 1) v.passed
  pub few : v'.passed ≤ 3

-- What one node more makes of a link: it goes on, it arrives, or it is refused. The follower's answer where k more may be entered.
abbrev pub answer : Wafer → ℕ → Walk → Result (Option Landing) Refusal → Followed
answer w k v (Ok None) = judged w.grid v.last v.passed (run w k v.port)
answer w k v (Ok (Some l)) = Ok l
answer w k v (Err r) = Err r

-- from the walk v to the walk v', by one node
pub record Advances (w : Wafer) (v v' : Walk) (r : Result (Option Landing) Refusal) : Type 0 where
  pub is : (k : ℕ) → answer w k v' r ≡ judged w.grid v.last v.passed (run w (suc k) v.port)
  pub sound : SoundWalk v'

-- 16 at p: both bytes are what the position allows
abbrev pub switches_allowed : ℕ → ℕ → ℕ → ℕ → ℕ → Bool
switches_allowed n m p a d =
    switch_byte (across_exists n m (row p) (column p)) a && switch_byte (down_exists n m (row p) (column p)) d
