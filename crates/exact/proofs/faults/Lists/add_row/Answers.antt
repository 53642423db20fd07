use Rattle.std.proofs.Common.{◌<◌, length, refl, rules, arith}
use Rattle.exact.proofs.Listing.{row_start, row_name, row_pass, row_end, both_below}
use Rattle.exact.proofs.faults.Lists.add_row.Goals as goal
use Rattle.exact.proofs.faults.Lists.add_row.Goals.{then-may_clash, else-may_clash}

pub loop-g-init : goal.loop-g-init
loop-g-init c = (refl, refl, rw c.from-end.ensures (row_start _ _ _ (search rules) c.requires.1))

pub loop-g-smaller : goal.loop-g-smaller
loop-g-smaller c =
    let b = both_below c.loop-g.g (length c.args.faults.now.starts.now) c.loop-g.end 2048 c.loop-g-test.true in
    omega arith

pub loop-g-preserved : goal.loop-g-preserved
loop-g-preserved c =
    let v = c.loop-g.invariant in
    let b = both_below c.loop-g.g (length c.args.faults.now.starts.now) c.loop-g.end 2048 c.loop-g-test.true in
    let below : c.loop-g.g < length c.args.faults.now.starts.now = omega arith in
    elim c.if-may_clash.branch [
      | then-may_clash w ↦ rw (w.self-is, w.end-is) (v.0, v.1, row_name _ _ _ v.2 below b.1 (c.may_clash.ensures.yes w.if-may_clash.true))
      | else-may_clash w ↦ rw (w.self-is, w.end-is) (v.0, v.1, row_pass _ _ _ v.2 below (c.may_clash.ensures.no w.if-may_clash.false))
    ]

pub overflow_cast-self-2 : goal.overflow_cast-self-2
overflow_cast-self-2 c = omega (arith, c.loop-g.invariant.2.row.others.fits)

pub overflow_cast-self-3 : goal.overflow_cast-self-3
overflow_cast-self-3 c = omega (arith, c.loop-g.invariant.2.row.within, c.args.faults.now.sited.few)

pub returns : goal.returns
returns c =
    let v = c.loop-g.invariant in
    rw (v.0, v.1) (row_end _ _ _ v.2 refl c.requires.0 c.args.faults.now.sited.few (search rules) (search rules))
