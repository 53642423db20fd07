use Rattle.std.proofs.Common.{◌≡◌, ◌<◌, length, refl, sym, ◌∙◌, arith}
use Rattle.exact.proofs.Striking.{judge_no, held_copied, strike_none, strike_on, named_less}
use Rattle.exact.proofs.propagation.Options.strike_named.Goals as goal

pub returns-then-not-strike_one : goal.returns-then-not-strike_one
returns-then-not-strike_one c =
    let p = c.requires in
    let l = c.loop-g in
    let v = l.invariant.1 in
    let e = c.strike_one.ensures in
    let same = e.0.1.no c.if-not-strike_one.true in
    let below : c.from.result < length c.args.faults.now.starts.now = rw c.from.ensures (p.3.inside l.g-index (omega arith) (omega arith)) in
    let other : c.args.f ≡ c.from.result → ⊥ = rw c.from.ensures (p.3.other l.g-index (omega arith) (omega arith)) in (
      (
        held_copied same.0 same.1 v.held,
        judge_no (strike_none _ _ _ _ _ p.1 p.2 v _ below other refl refl (sym e.0.0 ∙ c.if-not-strike_one.true)),
      ),
      e.1 ∙ l.invariant.0,
    )

pub loop-g-preserved : goal.loop-g-preserved
loop-g-preserved c =
    let p = c.requires in
    let l = c.loop-g in
    let e = c.strike_one.ensures in
    let y = e.0.1.yes c.if-not-strike_one.false in
    let below : c.from.result < length c.args.faults.now.starts.now = rw c.from.ensures (p.3.inside l.g-index (omega arith) (omega arith)) in
    let other : c.args.f ≡ c.from.result → ⊥ = rw c.from.ensures (p.3.other l.g-index (omega arith) (omega arith)) in (
      e.1 ∙ l.invariant.0,
      strike_on _ _ _ _ _ p.1 p.2 l.invariant.1 _ below other refl refl (sym e.0.0 ∙ c.if-not-strike_one.false)
          (λ j n o. named_less j n (λ x. o (x ∙ sym c.from.ensures))) y.0 y.1,
    )
