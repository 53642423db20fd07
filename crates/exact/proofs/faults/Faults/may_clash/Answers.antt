use Rattle.std.proofs.Common.{arith}
use Rattle.exact.proofs.Listing.{clear_start, clear_next, clear_end}
use Rattle.exact.proofs.Striking.{judge_no}
use Rattle.exact.proofs.faults.Faults.may_clash.Goals as goal

pub loop-i-init : goal.loop-i-init
loop-i-init c = clear_start _ _ _ _

pub loop-i-preserved : goal.loop-i-preserved
loop-i-preserved c = clear_next _ _ _ _ c.loop-i.invariant (c.does_clash.ensures c.if-does_clash.false)

pub returns : goal.returns
returns c = judge_no (λ ne. clear_end _ _ _ _ c.loop-i.invariant (omega arith))
