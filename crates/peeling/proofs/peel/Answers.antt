use Rattle.std.proofs.Common.{refl, ◌∙◌, arith, length-set}
use Rattle.peeling.specs.declared.Settled.{Settled}
use Rattle.peeling.proofs.Fields.{of_length, of_set}
use Rattle.peeling.proofs.Looping.{settle_start, settle_next, settle_end, rest_searchable, rest_size}
use Rattle.peeling.proofs.peel.Goals as goal

pub loop-d-init : goal.loop-d-init
loop-d-init c = record { settling = settle_start _ _ _ _ _ _ c.requires.0; held_long = refl }

pub find_outward-requires : goal.find_outward-requires
find_outward-requires c =
    let s = c.loop-d.invariant.settling in
    let m = c.args.map.now in
    (rest_searchable s m.shape.small.0 m.shape.small.1 m.long, omega arith, s.sides.high)

pub loop-d-preserved-in-Some : goal.loop-d-preserved-in-Some
loop-d-preserved-in-Some c =
    let s = c.loop-d.invariant.settling in
    let held = c.loop-d.held in
    let k = c.loop-d.settled in
    let m = c.args.map.now in
    let z = rest_size s in
    record {
      settling = rw (of_set (λ (f : Settled). f.position) refl held k, of_set (λ (f : Settled). f.direction) refl held k)
          (settle_next s _ (omega arith) c.in-Some.ensures.says (omega (arith, z, c.in-Some.ensures.within)) _
          (rest_searchable s m.shape.small.0 m.shape.small.1 m.long) (omega (arith, of_length (λ (f : Settled). f.position) refl held, z, c.in-Some.ensures.within, c.loop-d.invariant.held_long, c.requires.1))
          (omega (arith, of_length (λ (f : Settled). f.direction) refl held, z, c.in-Some.ensures.within, c.loop-d.invariant.held_long, c.requires.1))
          c.remove.auto.left c.remove.ensures);
      held_long = length-set held k _ ∙ c.loop-d.invariant.held_long;
    }

pub returns : goal.returns
returns c = settle_end c.loop-d.invariant.settling (omega arith)
