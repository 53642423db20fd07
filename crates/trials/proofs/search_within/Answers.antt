use Rattle.std.proofs.Common.{arith}
use Rattle.trials.proofs.Noting.{none_noted}
use Rattle.trials.proofs.search_within.Goals as goal

pub search-requires : goal.search-requires
search-requires c = (none_noted 4096 (omega (arith, c.requires.1)), c.requires.2)
