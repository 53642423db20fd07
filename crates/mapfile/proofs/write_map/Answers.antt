-- The length that `write_map` answers is within the buffer.
use Rattle.std.proofs.Common.{arith, sym}
use Rattle.std.proofs.lemmas.List.{length-take-le}
use Rattle.grids.proofs.Within.{map_within}
use Rattle.mapfile.proofs.write_map.Goals as goal

pub slice_bounds-file-end : goal.slice_bounds-file-end
slice_bounds-file-end g c =
    let a = c.args in
    let w = c.write_map in
    omega (arith, map_within a.n a.m a.grid.now _ w.result c.in-Ok.k w.ensures.0 c.in-Ok.is, w.auto.out)

pub slice_bounds-write_all-end : goal.slice_bounds-write_all-end
slice_bounds-write_all-end g c =
    let a = c.args in
    let w = c.write_map in
    let within = map_within a.n a.m a.grid.now _ w.result c.in-Ok.k w.ensures.0 c.in-Ok.is in
    sym (length-take-le c.in-Ok.k w.new.out (omega (arith, within, w.auto.out)))
