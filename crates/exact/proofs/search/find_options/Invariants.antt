use Rattle.std.proofs.Common.{◌≡◌, ◌<◌, ℕ}
use Rattle.exact.specs.Options.{at}
use Rattle.exact.proofs.Offering.{Offering}
use Rattle.exact.proofs.search.find_options.Given as goal

abbrev pub invariant-loop-k : goal.invariant-loop-k
invariant-loop-k l =
    Offering l.pair.columns l.pair.a l.pair.b l.faults.starts.now l.faults.open.now l.k l.options.low l.options.high
    × ((j : ℕ) → j < 128 → at l.options.done j ≡ 0)
