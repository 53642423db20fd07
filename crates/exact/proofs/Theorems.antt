-- The theorems of the exact planner's rule.
-- Assumes nothing.
use Rattle.paths.proofs.Ways.{way}
use Rattle.exact.specs.Theorems.{TwoOptions, NothingLost, PathsApart, NarrowingKeeps}
use Rattle.exact.proofs.Cover as cover
use Rattle.exact.proofs.Crossings.{crossing, facing}
use Rattle.exact.proofs.Masks as masks
use Rattle.exact.proofs.Options.{changed, survives}

pub two_options : TwoOptions
two_options = masks.two_options

pub nothing_lost : NothingLost
nothing_lost count starts q straight rows columns cross face =
    cover.some_pair count starts q (λ k l. let s = straight k l in way (q k) s.0 s.1) rows columns cross face

pub paths_apart : PathsApart
paths_apart n m count starts q hn hm inside apart =
    (crossing n m hn hm count starts q inside apart, facing n m hn hm count starts q inside apart)

pub narrowing_keeps : NarrowingKeeps
narrowing_keeps count clears comm lo hi lo' hi' t closed s =
    record {
      q = changed count clears comm t closed s.q s.is;
      is = survives count clears comm t closed s.q s.is;
    }
