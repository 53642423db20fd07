use Rattle.std.proofs.Common.{◌++◌, ◌<◌, length, arith}
use Rattle.listing.specs.Listing.{along, letter_bytes, newline, switch_line}
use Rattle.listing.proofs.Along.{left_start, left_first, left_next, left_last, left_room}
use Rattle.listing.proofs.push_switches.Goals as goal

pub push_bytes-requires : goal.push_bytes-requires
unfolding switch_line
push_bytes-requires c =
    let a = c.args in left_first a.word.now (along letter_bytes 0 a.switches.now ++ newline) (left_start c.requires)

pub push_letters-requires : goal.push_letters-requires
unfolding switch_line
push_letters-requires c =
    let a = c.args in
    left_first (along letter_bytes 0 a.switches.now) newline
    (left_next a.word.now (along letter_bytes 0 a.switches.now ++ newline) c.push_bytes.ensures (left_start c.requires))

pub push-requires : goal.push-requires
unfolding switch_line
push-requires c =
    let a = c.args in
    let r = left_room newline
    (left_next (along letter_bytes 0 a.switches.now) newline c.push_letters.ensures
    (left_next a.word.now (along letter_bytes 0 a.switches.now ++ newline) c.push_bytes.ensures (left_start c.requires))) in
    let l : length c.push_letters.new.text.items < 32768 = omega (arith, r) in
    (omega arith, l)

pub returns : goal.returns
unfolding switch_line
returns c =
    let a = c.args in
    left_last newline c.push.ensures.items
    (left_next (along letter_bytes 0 a.switches.now) newline c.push_letters.ensures
    (left_next a.word.now (along letter_bytes 0 a.switches.now ++ newline) c.push_bytes.ensures (left_start c.requires)))
