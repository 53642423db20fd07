use Rattle.std.proofs.Common.{◌∙◌, arith}
use Rattle.previews.proofs.Foretelling.{pairs_differ}
use Rattle.previews.proofs.count_changes.Goals as goal

pub returns : goal.returns
returns c =
    let s = c.args.s in
    let f = c.args.f in
    let south = c.count_differences.ensures.pairs ∙ pairs_differ s.south f.south (omega arith) in
    let north = c.count_differences-2.ensures.pairs ∙ pairs_differ s.north f.north (omega arith) in
    let east = c.count_differences-3.ensures.pairs ∙ pairs_differ s.east f.east (omega arith) in
    let west = c.count_differences-4.ensures.pairs ∙ pairs_differ s.west f.west (omega arith) in
    omega (arith, south, north, east, west)
