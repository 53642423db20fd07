use Rattle.std.proofs.Common.{sym, ◌∙◌, arith}
use Rattle.array.proofs.Marks.{inner_fault_read}
use Rattle.array.proofs.map.Map.has_inner_fault.Goals as goal

pub returns : goal.returns
returns c =
    let m = c.args.self.now in
    c.is_inner_fault.ensures ∙ sym (inner_fault_read m.shape.rows m.shape.columns m.grid.now c.args.p (omega (arith, m.long, c.requires)))
