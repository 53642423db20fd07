use Rattle.std.proofs.Common.{◌≡◌, sym, ap, ◌∙◌, List, ℕ, ◌≤◌, ◌<◌, true, length, get_or, arith}
use Rattle.array.specs.Place.{inner}
use Rattle.track.specs.Placement.{placement}
use Rattle.track.specs.Follower.{out_of, seat_of, judged, followed}
use Rattle.track.specs.Link.{run}
use Rattle.track.specs.Ports.{wafer}
use Rattle.follower.specs.Inner.{wafer_of}
use Rattle.repair.proofs.Cells.{cell_low, placement_long, placement_at, seat_low}
use Rattle.repair.proofs.follow_tested.Goals as goal

-- where the cell sits
seated : (n m cell : ℕ) (grid directions across down places : List ℕ) (p : ℕ) → places ≡ placement n m grid directions
    → p ≡ get_or places cell 0 → cell < 1024 → inner n m cell ≡ true
    → p ≡ seat_of (wafer n m grid directions across down) cell
seated n m cell grid directions across down places p e f l i =
    f ∙ ap (λ (b : List ℕ). get_or b cell 0) e ∙ placement_at n m grid directions cell l i

pub bounds-places-cell : goal.bounds-places-cell
bounds-places-cell c =
    let s = c.args.wafer.now.plan.map.shape in
    omega (arith, cell_low s.rows s.columns c.args.cell s.small.0 s.small.1 c.requires.0)

pub follow-requires : goal.follow-requires
follow-requires c =
    let w = c.args.wafer.now in
    let m = w.plan.map in
    let low = cell_low m.shape.rows m.shape.columns c.args.cell m.shape.small.0 m.shape.small.1 c.requires.0 in
    let e = seated m.shape.rows m.shape.columns c.args.cell m.grid.now w.plan.directions.now w.across.now w.down.now c.place.new.places c.from-from.result
    c.place.ensures c.from-from.ensures (omega (arith, low)) c.requires.0 in
    (omega (arith, e, seat_low m.shape.rows m.shape.columns m.grid.now w.plan.directions.now c.args.cell low), omega (arith, c.requires.1))

pub returns : goal.returns
unfolding followed
returns c =
    let w = c.args.wafer.now in
    let m = w.plan.map in
    let low = cell_low m.shape.rows m.shape.columns c.args.cell m.shape.small.0 m.shape.small.1 c.requires.0 in
    let e = seated m.shape.rows m.shape.columns c.args.cell m.grid.now w.plan.directions.now w.across.now w.down.now c.place.new.places c.from-from.result
    c.place.ensures c.from-from.ensures (omega (arith, low)) c.requires.0 in
    c.follow.ensures ∙ ap (λ (p : ℕ). judged m.grid.now p 0 (run (wafer_of w) 7 (out_of p c.args.side))) e
