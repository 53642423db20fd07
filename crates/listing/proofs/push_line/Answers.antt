use Rattle.std.proofs.Common.{◌++◌}
use Rattle.listing.specs.Listing.{along, field, line}
use Rattle.listing.proofs.Along.{left_start, left_first, left_next, left_last, left_room}
use Rattle.listing.proofs.push_line.Goals as goal

pub push_bytes-requires : goal.push_bytes-requires
unfolding line
push_bytes-requires c = let a = c.args in left_first a.word.now (along field 0 a.values.now ++ a.end.now) (left_start c.requires)

pub push_fields-requires : goal.push_fields-requires
unfolding line
push_fields-requires c =
    let a = c.args in
    left_first (along field 0 a.values.now) a.end.now
    (left_next a.word.now (along field 0 a.values.now ++ a.end.now) c.push_bytes.ensures (left_start c.requires))

pub push_bytes-requires-2 : goal.push_bytes-requires-2
unfolding line
push_bytes-requires-2 c =
    let a = c.args in
    left_room a.end.now
    (left_next (along field 0 a.values.now) a.end.now c.push_fields.ensures
    (left_next a.word.now (along field 0 a.values.now ++ a.end.now) c.push_bytes.ensures (left_start c.requires)))

pub returns : goal.returns
unfolding line
returns c =
    let a = c.args in
    left_last a.end.now c.push_bytes-2.ensures
    (left_next (along field 0 a.values.now) a.end.now c.push_fields.ensures
    (left_next a.word.now (along field 0 a.values.now ++ a.end.now) c.push_bytes.ensures (left_start c.requires)))
