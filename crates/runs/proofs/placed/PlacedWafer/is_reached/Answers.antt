use Rattle.std.proofs.Common.{◌≡◌, sym, ap, ◌∙◌, true, not, ℕ, ◌<◌, get_or, arith}
use Rattle.runs.specs.Run.{has_neighbour}
use Rattle.runs.proofs.Finding.{and_stops, and_passes, held_long, neighbour_low, held_low, arrives_held}
use Rattle.runs.proofs.placed.PlacedWafer.is_reached.Goals as goal

pub returns-then-not-has_neighbour : goal.returns-then-not-has_neighbour
returns-then-not-has_neighbour c = and_stops c.has_neighbour.ensures _ (ap not c.if-not-has_neighbour.true)

pub bounds-self-neighbour : goal.bounds-self-neighbour
bounds-self-neighbour c =
    let s = c.args.self.now in
    let m = s.wafer.plan.map.shape in
    let h : has_neighbour m.rows m.columns c.args.side c.args.p ≡ true = sym c.has_neighbour.ensures ∙ c.if-not-has_neighbour.false in
    let l = neighbour_low s.laid c.args.side c.args.p c.requires.0 h in
    omega (arith, c.neighbour.ensures, l)

pub follow-f-requires : goal.follow-f-requires
follow-f-requires c =
    let s = c.args.self.now in
    let m = s.wafer.plan.map.shape in
    let h : has_neighbour m.rows m.columns c.args.side c.args.p ≡ true = sym c.has_neighbour.ensures ∙ c.if-not-has_neighbour.false in
    let l = held_low s.laid c.args.side c.args.p c.requires.0 h in
    (omega (arith, c.from-from.ensures, l), omega (arith, c.requires.0))

pub returns : goal.returns
returns c =
    let s = c.args.self.now in
    let m = s.wafer.plan.map.shape in
    let h : has_neighbour m.rows m.columns c.args.side c.args.p ≡ true = sym c.has_neighbour.ensures ∙ c.if-not-has_neighbour.false in
    let to = ap (λ (i : ℕ). get_or s.places.now i 0) c.neighbour.ensures in
    and_passes c.has_neighbour.ensures _ (ap not c.if-not-has_neighbour.false)
    (arrives_held s.laid c.args.side c.args.p c.requires.0 h c.from-from.ensures (c.from-to.ensures ∙ to) c.follow-f.ensures c.arrives.ensures)
