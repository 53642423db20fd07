use Rattle.std.proofs.Common.{◌≡◌}
use Rattle.trials.specs.Inner.{entries_clear}
use Rattle.trials.proofs.Trials.is_clear_of.Given as goal

-- the entries from the j-th on are clear
abbrev pub invariant-loop-j : goal.invariant-loop-j
invariant-loop-j l =
    entries_clear l.self.rows.now l.self.columns.now l.chosen l.k l.d l.k ≡ entries_clear l.self.rows.now l.self.columns.now l.chosen l.k l.d l.j
