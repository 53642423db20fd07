use Rattle.listing.specs.Listing.{along, field}
use Rattle.listing.proofs.Along.{Left, along_from}
use Rattle.listing.proofs.push_fields.Given as goal

abbrev pub invariant-loop-value : goal.invariant-loop-value
invariant-loop-value l = Left l.initial.text.items (along field 0 l.values) l.text.items (along_from field l.values l.value-index)
