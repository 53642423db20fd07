use Rattle.std.proofs.Common.{arith}
use Rattle.exact.proofs.Crossings.{clears_comm}
use Rattle.exact.proofs.Listing.{still_listed}
use Rattle.exact.proofs.Striking.{judge_yes, judge_no}
use Rattle.exact.proofs.Spreading.{solve_none, solve_next, solve_end}
use Rattle.exact.proofs.propagation.Options.solve.Goals as goal

pub settle-requires : goal.settle-requires
settle-requires c =
    let v = c.loop-k.invariant in (
      record {
        held = v.held;
        listed = still_listed v.narrowed c.requires.0.listed;
        done_long = v.done_long;
        marked = v.marked;
      },
      omega arith,
      v.closed,
    )

pub returns-then-not-settle : goal.returns-then-not-settle
returns-then-not-settle c =
    let e = c.settle.ensures in (
      e.0,
      judge_no (solve_none _ _ (clears_comm c.args.problem.now.faults.starts.now) c.loop-k.invariant (e.2.no c.if-not-settle.true)),
    )

pub loop-k-preserved : goal.loop-k-preserved
loop-k-preserved c =
    let e = c.settle.ensures in
    solve_next _ _ (clears_comm c.args.problem.now.faults.starts.now) c.loop-k.invariant (omega arith) e.1
    e.0 (e.2.yes c.if-not-settle.false)

pub returns : goal.returns
returns c =
    let v = c.loop-k.invariant in (
      v.held,
      judge_yes (solve_end _ _ (clears_comm c.args.problem.now.faults.starts.now) v (omega arith)),
    )
