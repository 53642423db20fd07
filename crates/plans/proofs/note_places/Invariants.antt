use Rattle.std.proofs.Common.{length, get_or, ◌≤◌}
use Rattle.array.specs.Place.{row, column}
use Rattle.array.proofs.Fills.{Filling}
use Rattle.plans.proofs.note_places.Given as goal

abbrev pub invariant-loop-k : goal.invariant-loop-k
invariant-loop-k l =
    (l.k ≤ length l.starts)
    × Filling (λ i. row (get_or l.starts i 0)) (length l.initial.rows) l.k l.rows
    × Filling (λ i. column (get_or l.starts i 0)) (length l.initial.columns) l.k l.columns
