use Rattle.std.proofs.Common.{refl, sym, ◌∙◌, arith}
use Rattle.array.proofs.Scans.{seek_start, seek_stop, seek_pass, seek_none}
use Rattle.plans.proofs.Pairing.{faults_scan, pairs_scan}
use Rattle.plans.proofs.check_pairs.Goals as goal

pub pairs-init : goal.pairs-init
pairs-init c = ((λ n m g s o. seek_start (pairs_scan _ _ s.same _ _) 0 (omega arith)), refl)

pub loop-j-init : goal.loop-j-init
loop-j-init c = ((λ n m g s o. seek_start (faults_scan _ _ s.same _) _ (omega arith)), c.pairs.invariant.1, omega arith)

pub loop-j-preserved : goal.loop-j-preserved
loop-j-preserved c =
    let v = c.loop-j.invariant in (
      (λ n m g s o. seek_pass (v.0 n m g s o) (omega arith) (c.check_pair_at.ensures n m g s o) c.in_default.is),
      v.1,
      omega arith,
    )

pub pairs-preserved : goal.pairs-preserved
pairs-preserved c =
    let v = c.pairs.invariant in (
      (λ n m g s o. seek_pass (v.0 n m g s o) (omega arith) (seek_none (c.loop-j.invariant.0 n m g s o) (omega arith)) refl),
      c.loop-j.invariant.1,
    )

pub returns-after-pairs : goal.returns-after-pairs
returns-after-pairs c n m g s o = c.pairs.invariant.1 ∙ seek_none (c.pairs.invariant.0 n m g s o) (omega arith)

pub returns-in-Err : goal.returns-in-Err
returns-in-Err c n m g s o =
    let e = c.in-Err.is in
    sym e ∙ seek_stop (c.pairs.invariant.0 n m g s o) (omega arith)
    (seek_stop (c.loop-j.invariant.0 n m g s o) (omega arith) (c.check_pair_at.ensures n m g s o) e) e
