use Rattle.counters.proofs.Tallies.{new_zeros}
use Rattle.sessions.proofs.Few.{kept}
use Rattle.sessions.proofs.Session.begin.Goals as goal

pub count_all-requires : goal.count_all-requires
count_all-requires c = (kept _ _ _ _ c.requires, new_zeros, new_zeros, new_zeros, new_zeros)
