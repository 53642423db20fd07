use Rattle.std.proofs.Common.{refl, rules}
use Rattle.array.proofs.Formed.{formed}
use Rattle.grids.proofs.Texts.{text_short, text_refused, text_written}
use Rattle.grids.proofs.writing.write_tested.Goals as goal

pub overflow_add-needed : goal.overflow_add-needed
overflow_add-needed c =
    let f = formed c.args.n c.args.m c.args.grid.now c.requires in
    let h = f.sizes.rows_high in
    search rules

pub overflow_add-needed-2 : goal.overflow_add-needed-2
overflow_add-needed-2 c =
    let f = formed c.args.n c.args.m c.args.grid.now c.requires in
    let h = f.sizes.columns_high in
    search rules

pub overflow_mul-needed : goal.overflow_mul-needed
overflow_mul-needed c =
    let f = formed c.args.n c.args.m c.args.grid.now c.requires in
    let h = text_short c.args.n c.args.m f.sizes.rows_high f.sizes.columns_high in
    search rules

pub returns-then-out-needed : goal.returns-then-out-needed
returns-then-out-needed c =
    let a = c.args in
    rw c.at.ensures (text_refused a.n a.m a.grid.now a.out.now refl c.if-out-needed.true)

pub write_marks-requires : goal.write_marks-requires
write_marks-requires c =
    let a = c.args in
    let f = formed a.n a.m a.grid.now c.requires in
    (f.sizes.rows_high, f.sizes.columns_high, f.length_is, refl, c.if-out-needed.false)

pub returns : goal.returns
returns c =
    let a = c.args in
    text_written a.n a.m a.grid.now a.out.now refl c.if-out-needed.false c.write_marks.ensures
