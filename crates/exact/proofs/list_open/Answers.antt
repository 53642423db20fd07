use Rattle.std.proofs.Common.{refl, arith}
use Rattle.exact.proofs.Pairs.{table_start, table_next, table_end}
use Rattle.exact.proofs.list_open.Goals as goal

pub loop-i-init : goal.loop-i-init
loop-i-init c = table_start _ _ _ _ refl

pub loop-i-preserved : goal.loop-i-preserved
loop-i-preserved c =
    table_next _ _ _ _ c.loop-i.invariant _ _ (omega arith) c.requires.short c.from.ensures c.is_open.ensures

pub returns : goal.returns
returns c = table_end _ _ _ _ c.loop-i.invariant (omega arith)
