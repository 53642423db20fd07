use Rattle.std.proofs.Common.{◌+◌, arith}
use Rattle.listing.specs.Listing.{seat_bytes}
use Rattle.listing.proofs.Along.{along_from, left_start, left_first, left_next, left_none, left_step, along_end}
use Rattle.listing.proofs.push_cells.Goals as goal

pub loop-p-init : goal.loop-p-init
loop-p-init c = left_start c.requires

pub push_seat-requires : goal.push_seat-requires
push_seat-requires c =
    let a = c.args in
    left_first _ (along_from (seat_bytes a.n a.m) a.places.now (c.loop-p.p + 1))
    (left_step (seat_bytes a.n a.m) a.places.now c.loop-p.p (omega arith) c.loop-p.invariant)

pub loop-p-preserved : goal.loop-p-preserved
loop-p-preserved c =
    let a = c.args in
    left_next _ (along_from (seat_bytes a.n a.m) a.places.now (c.loop-p.p + 1)) c.push_seat.ensures
    (left_step (seat_bytes a.n a.m) a.places.now c.loop-p.p (omega arith) c.loop-p.invariant)

pub returns : goal.returns
returns c =
    let a = c.args in
    left_none _ (along_end (seat_bytes a.n a.m) a.places.now c.loop-p.p (omega arith)) c.loop-p.invariant
