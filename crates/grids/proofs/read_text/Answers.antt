use Rattle.std.proofs.Common.{◌∙◌, sym, ap}
use Rattle.grids.specs.Parts.{taken}
use Rattle.grids.specs.Reading.{lines_of, take_lines}
use Rattle.grids.proofs.RowLaws.{rows_small}
use Rattle.grids.proofs.read_text.Goals as goal

pub read_rows-requires : goal.read_rows-requires
read_rows-requires c =
    let t = c.take_lines in
    let ls = lines_of c.args.s.now in
    rows_small ls t.new.self
    (ap (λ r. take_lines 0 ls r) (sym c.new-rows.ensures) ∙ sym t.ensures ∙ ap (λ z. taken z t.new.self) c.in_ok-take_lines.was)
