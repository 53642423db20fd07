use Rattle.listing.specs.Listing.{along, letter_bytes}
use Rattle.listing.proofs.Along.{Left, along_from}
use Rattle.listing.proofs.push_letters.Given as goal

abbrev pub invariant-loop-letter : goal.invariant-loop-letter
invariant-loop-letter l =
    Left l.initial.text.items (along letter_bytes 0 l.switches) l.text.items (along_from letter_bytes l.switches l.letter-index)
