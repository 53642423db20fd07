use Rattle.listing.specs.Listing.{along, seat_bytes}
use Rattle.listing.proofs.Along.{Left, along_from}
use Rattle.listing.proofs.push_cells.Given as goal

abbrev pub invariant-loop-p : goal.invariant-loop-p
invariant-loop-p l =
    Left l.initial.text.items (along (seat_bytes l.n l.m) 0 l.places) l.text.items (along_from (seat_bytes l.n l.m) l.places l.p)
