-- Document 02, T-04: the faults that links to neighbours enter, and those that they do not enter, dead processors among
-- them; and that a link does not depend on what is joined at nodes that it does not enter. Assumes nothing.
use Rattle.std.specs.Prelude.{ℕ, ◌≡◌, true, false, ◌⊎◌, get_or}
use Rattle.array.specs.Place.{position}
use Rattle.array.specs.Map.{inner_fault}
use Rattle.paths.specs.Path.{from_rim}
use Rattle.track.specs.Ports.{Wafer, stretch_from}
use Rattle.track.specs.declared.ports.Node.{Node}
use Rattle.track.specs.declared.ports.Node.TheVariants.{Processor}
use Rattle.track.specs.declared.ports.Port.{Port}
use Rattle.track.specs.Link.{Trail, passes, enters, unjoined_at, no_stretch, unfinished, inside, Link}
use Rattle.track.specs.Follower.{processor_of}
use Rattle.track.specs.Theorems.{Routed, NeighbourLink}

-- the trail enters the node v
abbrev pub Visits : Trail → Node → Type 0
Visits (passes i q t) v = (i.node ≡ v) ⊎ Visits t v
Visits (enters i) v = i.node ≡ v
Visits (unjoined_at i) v = i.node ≡ v
Visits no_stretch v = ⊥
Visits unfinished v = ⊥

-- an inner fault at p whose path starts at the rim, dead or not
pub record RimFault (w : Wafer) (p : ℕ) : Type 0 where
  pub is_fault : inner_fault w.rows w.columns w.grid p ≡ true
  pub starts : from_rim w.rows w.columns p (get_or w.directions p 0) ≡ true

-- no link to a neighbour enters one
abbrev pub AvoidsFaults : Type 0
AvoidsFaults =
    (w : Wafer) → Routed w → (u : NeighbourLink w) (x y : ℕ) → RimFault w (position x y)
    → Visits u.link (Processor x y) → ⊥

-- no link to a neighbour enters a dead processor
abbrev pub AvoidsDead : Type 0
AvoidsDead = (w : Wafer) → Routed w → (u : NeighbourLink w) (v : Node) → w.broken v ≡ true → Visits u.link v → ⊥

-- a link to a neighbour that enters the node v
pub record Used (w : Wafer) (v : Node) : Type 0 where
  pub by : NeighbourLink w
  pub visits : Visits by.link v

-- every other inner fault is entered by one, so that a dead processor needs a path from the rim
abbrev pub UsesOthers : Type 0
UsesOthers =
    (w : Wafer) → Routed w → (p : ℕ) → inner_fault w.rows w.columns w.grid p ≡ true
    → from_rim w.rows w.columns p (get_or w.directions p 0) ≡ false → Used w (processor_of p)

-- the second wafer has the same stretches, and the same inside at each port of each node that the trail enters
pub record SameAlong (w w' : Wafer) (t : Trail) : Type 0 where
  pub stretches : (o : Port) → stretch_from w' o ≡ stretch_from w o
  pub held : (i : Port) → Visits t i.node → inside w' i ≡ inside w i

-- then a link of the first is a link of the second
abbrev pub SameElsewhere : Type 0
SameElsewhere = (w w' : Wafer) (o : Port) (t : Trail) → Link w o t → SameAlong w w' t → Link w' o t
