use Rattle.std.proofs.Common.{sym, ◌∙◌, arith}
use Rattle.paths.specs.Path.{is_open}
use Rattle.paths.proofs.Ways.{way}
use Rattle.trials.proofs.Testing.{start_below}
use Rattle.peeling.proofs.Sides.{outward_asked, along_pass, along_here, along_none}
use Rattle.peeling.proofs.find_outward.Goals as goal

pub returns-then-is_outward-clause-says : goal.returns-then-is_outward-clause-says
returns-then-is_outward-clause-says c =
    let r = c.requires in
    let a = c.args in
    let m = a.map.now in
    let e = outward_asked (is_open m.shape.rows m.shape.columns m.grid.now) a.left.now a.d c.find_least-least.result c.loop-k.k (way a.d r.1 r.2) (start_below r.0)
    c.find_least-least.ensures (omega arith) c.from.ensures c.is_outward.ensures in
    along_here c.loop-k.invariant (omega arith) (sym e ∙ c.if-is_outward.true)

pub loop-k-preserved : goal.loop-k-preserved
loop-k-preserved c =
    let r = c.requires in
    let a = c.args in
    let m = a.map.now in
    let e = outward_asked (is_open m.shape.rows m.shape.columns m.grid.now) a.left.now a.d c.find_least-least.result c.loop-k.k (way a.d r.1 r.2) (start_below r.0)
    c.find_least-least.ensures (omega arith) c.from.ensures c.is_outward.ensures in
    along_pass c.loop-k.invariant (omega arith) (sym e ∙ c.if-is_outward.false)

pub returns-clause-says : goal.returns-clause-says
returns-clause-says c = along_none c.loop-k.invariant (omega arith)
