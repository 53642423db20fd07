use Rattle.std.proofs.Common.{refl, sym, ◌∙◌, arith}
use Rattle.peeling.specs.declared.Settled.{Settled}
use Rattle.peeling.proofs.Fields.{of_length, of_at}
use Rattle.peeling.proofs.Held.{over_start, over_turn, over_end}
use Rattle.peeling.proofs.write_held.Goals as goal

pub loop-fault-init : goal.loop-fault-init
loop-fault-init c = over_start _ _ _ (omega arith)

pub bounds-directions-from : goal.bounds-directions-from
bounds-directions-from c =
    let held = c.args.held.now in
    let k = c.loop-fault.fault-index in
    let low = c.requires k (omega (arith, of_length (λ (f : Settled). f.position) refl held)) in
    omega (arith, c.from.ensures, of_at (λ (f : Settled). f.position) refl held k, low, c.loop-fault.invariant.long)

pub loop-fault-preserved : goal.loop-fault-preserved
loop-fault-preserved c =
    let held = c.args.held.now in
    let k = c.loop-fault.fault-index in
    let low = c.requires k (omega (arith, of_length (λ (f : Settled). f.position) refl held)) in
    over_turn _ _ _ k c.loop-fault.invariant low
    (c.from.ensures ∙ sym (of_at (λ (f : Settled). f.position) refl held k))
    (sym (of_at (λ (f : Settled). f.direction) refl held k))

pub returns : goal.returns
returns c =
    over_end _ _ _ c.loop-fault.fault-index c.loop-fault.invariant
    (omega (arith, of_length (λ (f : Settled). f.position) refl c.args.held.now))
