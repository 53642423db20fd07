use Rattle.std.proofs.Common.{length}
use Rattle.array.specs.Tests.{first_in}
use Rattle.array.proofs.Scans.{Seeking, element_test, from_position}
use Rattle.writers.specs.Writing.{path_test}
use Rattle.writers.proofs.check_paths.Given as goal

-- the first refusal is still to be found from the position on
abbrev pub invariant-loop-p : goal.invariant-loop-p
invariant-loop-p l =
    Seeking (element_test (path_test l.fn.n l.fn.m) l.fn.directions) (from_position (path_test l.fn.n l.fn.m) l.fn.directions)
    (length l.fn.directions) l.p (first_in (path_test l.fn.n l.fn.m) l.fn.directions)
