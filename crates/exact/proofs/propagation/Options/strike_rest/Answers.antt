use Rattle.std.proofs.Common.{◌<◌, length, refl, sym, ◌∙◌, arith}
use Rattle.exact.proofs.Striking.{judge_no, held_copied, strike_less, strike_none, strike_on}
use Rattle.exact.proofs.propagation.Options.strike_rest.Goals as goal
use Rattle.exact.proofs.propagation.Options.strike_rest.Goals.{else-g-f-via-then-g-f+else-not-strike_one, else-g-f-via-else-g-f}

pub returns-then-not-strike_one : goal.returns-then-not-strike_one
returns-then-not-strike_one c =
    let p = c.requires in
    let l = c.loop-g in
    let v = l.invariant.1 in
    let e = c.strike_one.ensures in
    let same = e.0.1.no c.if-not-strike_one.true in
    let below : l.g < length c.args.faults.now.starts.now = omega arith in (
      (
        held_copied same.0 same.1 v.held,
        judge_no (strike_none _ _ _ _ _ p.1 p.2 v l.g below (λ x. c.if-g-f.true (sym x)) refl refl
            (sym e.0.0 ∙ c.if-not-strike_one.true)),
      ),
      e.1 ∙ l.invariant.0,
    )

pub loop-g-preserved : goal.loop-g-preserved
loop-g-preserved c =
    let p = c.requires in
    let l = c.loop-g in
    let v = l.invariant.1 in
    let below : l.g < length c.args.faults.now.starts.now = omega arith in
    elim c.else-g-f.branch [
      | else-g-f-via-then-g-f+else-not-strike_one w ↦
          let e = w.strike_one.ensures in
          let r = w.if-not-strike_one.false in
          let y = e.0.1.yes r in
          rw w.self-is (
            e.1 ∙ l.invariant.0,
            strike_on _ _ _ _ _ p.1 p.2 v l.g below (λ x. w.if-g-f.true (sym x)) refl refl (sym e.0.0 ∙ r)
                (λ j b o. let m = b.1 in (b.0, omega arith)) y.0 y.1,
          )
      | else-g-f-via-else-g-f w ↦
          let e = w.if-g-f.false in
          rw w.self-is (
            l.invariant.0,
            strike_less _ _ _ _ _ p.1 p.2 (λ j k b o. let m = b.1 in (b.0, omega arith)) v,
          )
    ]
