-- Document 01, "Placement and routing": a link, from the port it leaves by, from stretch to join to stretch, into the first processor that
-- ends it (`ends_link`). One definition serves both sides. Assumes nothing.
use Rattle.std.specs.Prelude.{ℕ, zero, suc, ◌≡◌, Bool, true, false, Option, None, Some}
use Rattle.track.specs.Ports.{Wafer, ◌at◌, stretch_from, ends_link, joined}
use Rattle.track.specs.declared.ports.Compass.{Compass}
use Rattle.track.specs.declared.ports.Node.{Node}
use Rattle.track.specs.declared.ports.Node.TheVariants.{Processor, Across, Down}
use Rattle.track.specs.declared.ports.Port.{Port}

-- What a run comes to: a switch or fault that it passes, from the port entered by to the port joined to it, and so on; or a processor
-- that ends it. It fails at a port that is joined to nothing, or where no stretch leads on.
-- `unfinished` where a computed run is given too few steps.
pub data Trail : Type 0 where
  passes : Port → Port → Trail → Trail
  enters : Port → Trail
  unjoined_at : Port → Trail
  no_stretch : Trail
  unfinished : Trail

-- what is inside at the port by which a node is entered: the end of a link, a join to another port, or nothing
pub data Inside : Type 0 where
  ends : Inside
  on : Port → Inside
  stops : Inside

abbrev pub joined_to : Node → Option Compass → Inside
joined_to v None = stops
joined_to v (Some q) = on (v at q)

unfoldable pub inside : Wafer → Port → Inside
inside w i = elim (ends_link w i.node) [ true ↦ ends | false ↦ joined_to i.node (joined w i.node i.side) ]

-- t is the link that leaves by the port o, whatever its length
pub data Link (w : Wafer) : Port → Trail → Type 0 where
  last : {o i : Port} → stretch_from w o ≡ Some i → inside w i ≡ ends → Link w o (enters i)
  next : {o i q : Port} {t : Trail} → stretch_from w o ≡ Some i → inside w i ≡ on q → Link w q t → Link w o (passes i q t)

-- the same computed, from the port o into at most k nodes
unfoldable pub run : Wafer → ℕ → Port → Trail
run w zero o = unfinished
run w (suc k) o =
    elim (stretch_from w o) [
      | None ↦ no_stretch
      | Some i ↦ elim (inside w i) [ ends ↦ enters i | on q ↦ passes i q (run w k q) | stops ↦ unjoined_at i ]
    ]

abbrev pub is_switch : Node → Bool
is_switch (Processor x y) = false
is_switch (Across x y) = true
is_switch (Down x y) = true

abbrev pub one_if : Bool → ℕ → ℕ
one_if true k = suc k
one_if false k = k

-- the number of switches passed
unfoldable pub switches : Trail → ℕ
switches (passes i q t) = one_if (is_switch i.node) (switches t)
switches (enters i) = 0
switches (unjoined_at i) = 0
switches no_stretch = 0
switches unfinished = 0

-- t ends by entering a processor by the port e
abbrev pub Enters : Trail → Port → Type 0
Enters (passes i q t) e = Enters t e
Enters (enters i) e = i ≡ e
Enters (unjoined_at i) e = ⊥
Enters no_stretch e = ⊥
Enters unfinished e = ⊥
