use Rattle.std.proofs.Common.{◌≡◌, sym, ap, ◌∙◌}
use Rattle.array.specs.Tests.{verdict_of}
use Rattle.plans.proofs.Tested.{tested_map}
use Rattle.repair.proofs.check_link.Goals as goal

pub new-wafer-requires : goal.new-wafer-requires
new-wafer-requires c =
    let a = c.args in
    let m = tested_map a.n a.m a.right a.grid.now a.directions.now (sym c.check_tests.ensures.tests ∙ ap verdict_of c.in_ok-plan.was) in
    let l = c.requires m.lengths in
    (l.2, l.3)
