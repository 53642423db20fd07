use Rattle.std.proofs.Common.{sym, ap, ◌∙◌}
use Rattle.array.specs.Tests.{verdict_of}
use Rattle.array.proofs.Maps.{map_accepted}
use Rattle.plans.proofs.check_tests.Goals as goal

pub unwrap-directions-requires : goal.unwrap-directions-requires
unwrap-directions-requires c =
    let a = c.args in
    let m = map_accepted a.n a.m a.right a.grid.now (sym c.check_map.ensures.tests ∙ ap verdict_of c.in_ok-map.was) in
    c.try_into.ensures.0 (c.requires m.lengths).1
