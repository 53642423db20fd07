use Rattle.std.proofs.Common.{sym, ◌∙◌, arith}
use Rattle.array.proofs.Marks.{faulty_read}
use Rattle.array.proofs.map.Map.is_faulty.Goals as goal

pub returns : goal.returns
returns c =
    let m = c.args.self.now in
    c.is_faulty.ensures ∙ sym (faulty_read m.grid.now c.args.p (omega (arith, m.long, c.requires)))
