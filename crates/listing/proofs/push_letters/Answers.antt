use Rattle.std.proofs.Common.{◌+◌, arith}
use Rattle.listing.specs.Listing.{letter_bytes}
use Rattle.listing.proofs.Along.{along_from, left_start, left_first, left_next, left_none, left_step, along_end}
use Rattle.listing.proofs.push_letters.Goals as goal

pub loop-letter-init : goal.loop-letter-init
loop-letter-init c = left_start c.requires

pub push_letter-requires : goal.push_letter-requires
push_letter-requires c =
    let a = c.args in
    left_first _ (along_from letter_bytes a.switches.now (c.loop-letter.letter-index + 1))
    (left_step letter_bytes a.switches.now c.loop-letter.letter-index (omega arith) c.loop-letter.invariant)

pub loop-letter-preserved : goal.loop-letter-preserved
loop-letter-preserved c =
    let a = c.args in
    left_next _ (along_from letter_bytes a.switches.now (c.loop-letter.letter-index + 1)) c.push_letter.ensures
    (left_step letter_bytes a.switches.now c.loop-letter.letter-index (omega arith) c.loop-letter.invariant)

pub returns : goal.returns
returns c =
    let a = c.args in
    left_none _ (along_end letter_bytes a.switches.now c.loop-letter.letter-index (omega arith)) c.loop-letter.invariant
