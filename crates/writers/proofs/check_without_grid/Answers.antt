use Rattle.std.proofs.Common.{◌≡◌, ℕ, Bool, not, ◌&&◌, refl, ap, ◌∙◌}
use Rattle.std.specs.Prelude.{Err}
use Rattle.array.specs.Place.{size}
use Rattle.array.proofs.Verdicts.{test_refuses, test_passes}
use Rattle.writers.specs.Writing.{buffer_test}
use Rattle.writers.proofs.Accepted.{short_refuses, long_passes}
use Rattle.writers.proofs.check_without_grid.Goals as goal

-- the first test, as the code answers it
sizes : (n m : ℕ) {a b : Bool} → a ≡ size n → b ≡ size m → not (a && b) ≡ not (size n && size m)
sizes n m e f = rw (e, f) refl

pub returns-then-not-is_size : goal.returns-then-not-is_size
unfolding buffer_test
returns-then-not-is_size c =
    ap Err c.at.ensures ∙ test_refuses (sizes c.args.n c.args.m c.is_size.ensures c.is_size-2.ensures) _ (ap not c.if-not-is_size.true)

pub returns-then-directions-ne1024 : goal.returns-then-directions-ne1024
unfolding buffer_test
returns-then-directions-ne1024 c =
    ap Err c.at-then-directions-ne1024.ensures
    ∙ test_passes (sizes c.args.n c.args.m c.is_size.ensures c.is_size-2.ensures) 1 0 0 (ap not c.if-not-is_size.false)
    (short_refuses c.args.directions.now _ c.if-directions-ne1024.true)

pub returns : goal.returns
unfolding buffer_test
returns c =
    test_passes (sizes c.args.n c.args.m c.is_size.ensures c.is_size-2.ensures) 1 0 0 (ap not c.if-not-is_size.false)
    (long_passes c.args.directions.now c.if-directions-ne1024.false c.check_paths.ensures)
