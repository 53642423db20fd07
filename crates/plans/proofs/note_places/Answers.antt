use Rattle.std.proofs.Common.{refl, arith}
use Rattle.array.proofs.Fills.{fill_start, fill_step}
use Rattle.plans.proofs.note_places.Goals as goal

pub loop-k-init : goal.loop-k-init
loop-k-init c = (omega arith, fill_start _ _ refl, fill_start _ _ refl)

pub overflow_cast-rows : goal.overflow_cast-rows
overflow_cast-rows c = omega (arith, c.requires.2 c.loop-k.k (omega arith))

pub loop-k-preserved : goal.loop-k-preserved
loop-k-preserved c =
    let v = c.loop-k.invariant in
    let r = v.1.long in
    let q = v.2.long in
    (omega arith, fill_step v.1 _ (omega arith) refl, fill_step v.2 _ (omega arith) refl)

pub returns : goal.returns
returns c =
    let v = c.loop-k.invariant in
    let s = c.requires in
    record {
      rows_long = omega (arith, s.0, v.1.long);
      columns_long = omega (arith, s.1, v.2.long);
      row_at = λ i h. v.1.front i (omega arith);
      column_at = λ i h. v.2.front i (omega arith);
    }
