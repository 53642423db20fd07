use Rattle.listing.specs.Listing.{along, fault_bytes}
use Rattle.listing.proofs.Along.{Left, along_from}
use Rattle.listing.proofs.push_paths.Given as goal

abbrev pub invariant-loop-p : goal.invariant-loop-p
invariant-loop-p l =
    Left l.initial.text.items (along (fault_bytes l.n l.m l.directions) 0 l.grid) l.text.items
    (along_from (fault_bytes l.n l.m l.directions) l.grid l.p)
