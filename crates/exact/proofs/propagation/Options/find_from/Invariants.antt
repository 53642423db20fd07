use Rattle.std.proofs.Common.{◌≡◌, ℕ, ◌≤◌, ◌<◌}
use Rattle.exact.specs.Options.{at}
use Rattle.exact.proofs.propagation.Options.find_from.Given as goal

-- no fault passed has one option and no mark
abbrev pub invariant-loop-k : goal.invariant-loop-k
invariant-loop-k l =
    (j : ℕ) → l.from ≤ j → j < l.k → at l.self.low j ≡ at l.self.high j → at l.self.done j ≡ 0 → ⊥
