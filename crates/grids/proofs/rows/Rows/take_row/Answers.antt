use Rattle.std.proofs.Common.{arith, rules}
use Rattle.grids.proofs.RowLaws.{row_stored}
use Rattle.grids.proofs.Stores.{part_stored}
use Rattle.grids.proofs.rows.Rows.take_row.Goals as goal

pub returns : goal.returns
returns c =
    let r = c.args.self.now in
    row_stored c.args.line c.args.row.now r _ c.in_default.is c.if-count-ge32.false c.if-length-gt32.false
    (part_stored r.cells _ _ _ c.args.row.now c.copy_from_slice.ensures.after (omega arith) (search rules))
