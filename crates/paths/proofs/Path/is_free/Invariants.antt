use Rattle.std.proofs.Common.{◌≡◌, ◌≤◌}
use Rattle.paths.specs.Path.{path_length, is_free}
use Rattle.paths.proofs.Walking.{open_from}
use Rattle.paths.proofs.Path.is_free.Given as goal

abbrev pub invariant-loop-k : goal.invariant-loop-k
invariant-loop-k l =
    let s = l.self in
    (l.k ≤ path_length s.shape.rows s.shape.columns s.start s.direction)
    × (is_free s.shape.rows s.shape.columns l.grid s.start s.direction ≡ open_from s.shape.rows s.shape.columns l.grid s.start s.direction l.k)
