-- The length that `write_text` answers is within the buffer.
use Rattle.std.proofs.Common.{arith, sym, replicate}
use Rattle.std.proofs.lemmas.List.{length-take-le}
use Rattle.grids.proofs.Within.{text_within}
use Rattle.maptext.proofs.print_text.Goals as goal

pub slice_bounds-text-end : goal.slice_bounds-text-end
slice_bounds-text-end g c =
    let h = c.args.head in
    let w = c.write_text in
    let within = text_within h.rows h.columns c.args.grid.now (replicate 2048 0) w.result c.in-Ok.k w.ensures.0 c.in-Ok.is in
    omega (arith, within, w.auto.out)

pub slice_bounds-write_all-end : goal.slice_bounds-write_all-end
slice_bounds-write_all-end g c =
    let h = c.args.head in
    let w = c.write_text in
    let within = text_within h.rows h.columns c.args.grid.now (replicate 2048 0) w.result c.in-Ok.k w.ensures.0 c.in-Ok.is in
    sym (length-take-le c.in-Ok.k w.new.out (omega (arith, within, w.auto.out)))
