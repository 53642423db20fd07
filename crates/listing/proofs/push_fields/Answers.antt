use Rattle.std.proofs.Common.{◌+◌, get_or, arith}
use Rattle.listing.specs.Listing.{field}
use Rattle.listing.proofs.Along.{along_from, left_start, left_first, left_next, left_none, left_step, along_end}
use Rattle.listing.proofs.push_fields.Goals as goal

pub loop-value-init : goal.loop-value-init
loop-value-init c = left_start c.requires

pub push_field-requires : goal.push_field-requires
push_field-requires c =
    let a = c.args in
    left_first (field c.loop-value.value-index (get_or a.values.now c.loop-value.value-index 0)) (along_from field a.values.now (c.loop-value.value-index + 1))
    (left_step field a.values.now c.loop-value.value-index (omega arith) c.loop-value.invariant)

pub loop-value-preserved : goal.loop-value-preserved
loop-value-preserved c =
    let a = c.args in
    left_next _ (along_from field a.values.now (c.loop-value.value-index + 1)) c.push_field.ensures
    (left_step field a.values.now c.loop-value.value-index (omega arith) c.loop-value.invariant)

pub returns : goal.returns
returns c =
    let a = c.args in
    left_none _ (along_end field a.values.now c.loop-value.value-index (omega arith)) c.loop-value.invariant
