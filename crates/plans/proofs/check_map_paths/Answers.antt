use Rattle.std.proofs.Common.{sym, ap, ◌∙◌, length, arith}
use Rattle.array.proofs.Verdicts.{passed_on, verdict_stops, verdict_passes}
use Rattle.plans.specs.Check.{paths_test}
use Rattle.plans.proofs.Facts.{faults_short}
use Rattle.plans.proofs.Entries.{starts_paths, open_faults}
use Rattle.plans.proofs.check_map_paths.Goals as goal

pub returns-in_err-check_opens : goal.returns-in_err-check_opens
unfolding paths_test
returns-in_err-check_opens c =
    let e = c.in_err-check_opens.was in
    passed_on _ c.from_residual.ensures.1 ∙ sym e ∙ verdict_stops c.check_opens.ensures _ e

pub check_placed-requires : goal.check_placed-requires
check_placed-requires c =
    let h = c.requires in
    let m = c.args.map.now in
    (starts_paths h.0, omega (arith, ap length h.1, faults_short m.shape.rows m.shape.columns m.grid.now, m.long))

pub returns : goal.returns
unfolding paths_test
returns c =
    let h = c.requires in
    let e = c.check_opens.ensures in
    let o = c.in_ok-check_opens.was in
    verdict_passes e _ o (c.check_placed.ensures _ _ _ h.0 (open_faults h.0 h.1 (sym e ∙ o)))
