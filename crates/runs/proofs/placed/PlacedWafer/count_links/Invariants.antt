use Rattle.array.proofs.Counts.{Counting}
use Rattle.follower.specs.Inner.{wafer_of}
use Rattle.runs.specs.Run.{reached}
use Rattle.runs.proofs.placed.PlacedWafer.count_links.Given as goal

-- the links of the cells before p are counted
abbrev pub invariant-loop-p : goal.invariant-loop-p
invariant-loop-p l =
    Counting (reached (wafer_of l.self.wafer) l.self.places.now l.side) l.self.wafer.plan.map.grid.now l.p l.count
