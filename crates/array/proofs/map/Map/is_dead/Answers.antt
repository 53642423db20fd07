use Rattle.std.proofs.Common.{sym, ap, ◌∙◌, arith}
use Rattle.array.specs.Map.{dead_mark}
use Rattle.array.proofs.Marks.{mark_read}
use Rattle.array.proofs.map.Map.is_dead.Goals as goal

pub returns : goal.returns
returns c =
    let m = c.args.self.now in
    c.is_dead.ensures ∙ sym (ap dead_mark (mark_read m.grid.now c.args.p (omega (arith, m.long, c.requires))))
