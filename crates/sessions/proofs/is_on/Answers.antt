use Rattle.std.proofs.Common.{arith}
use Rattle.sessions.proofs.OnPath.{on_south, on_north, on_east, on_west}
use Rattle.sessions.proofs.is_on.Goals as goal

pub returns-in-1 : goal.returns-in-1
returns-in-1 c = let k = c.args.kept in on_south k.shape.rows k.shape.columns c.args.p k.start c.in-1.is k.starts

pub returns-in-2 : goal.returns-in-2
returns-in-2 c = let k = c.args.kept in on_north k.shape.rows k.shape.columns c.args.p k.start c.in-2.is k.starts

pub returns-in-3 : goal.returns-in-3
returns-in-3 c = let k = c.args.kept in on_east k.shape.rows k.shape.columns c.args.p k.start c.in-3.is k.starts

pub returns-in_default : goal.returns-in_default
returns-in_default c = let k = c.args.kept in on_west k.shape.rows k.shape.columns c.args.p k.start (omega (arith, k.starts.low, k.starts.high)) k.starts
