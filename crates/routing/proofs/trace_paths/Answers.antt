use Rattle.std.proofs.Common.{refl}
use Rattle.array.specs.Buffer.{span}
use Rattle.routing.proofs.trace_paths.Goals as goal

pub paint_paths-requires : goal.paint_paths-requires
unfolding span
paint_paths-requires c = (c.list_faults-count.ensures.front, refl)
