use Rattle.std.proofs.Common.{refl, sym, ◌∙◌, arith}
use lib.ListN.{get_or-replicate}
use Rattle.exact.proofs.Offering.{offer_start, offer_next, offer_end}
use Rattle.exact.proofs.search.find_options.Goals as goal

pub loop-k-init : goal.loop-k-init
loop-k-init c = (offer_start _ _ _ _ _ refl refl, λ j l. get_or-replicate 128 j 0 0 l)

pub loop-k-preserved : goal.loop-k-preserved
loop-k-preserved c =
    let v = c.loop-k.invariant in
    let e = c.in_ok-low.ensures in (
      offer_next _ _ _ _ _ c.requires c.args.faults.now.sited.few v.0 (omega arith) refl
          c.is_offered-south.ensures c.is_offered-north.ensures c.is_offered-east.ensures c.is_offered-west.ensures
          e.1 (λ z. e.0 (sym e.1 ∙ z)) e.2,
      v.1,
    )

pub returns : goal.returns
returns c =
    let v = c.loop-k.invariant in
    (offer_end _ _ _ _ _ c.requires c.args.faults.now.sited.few v.0 (omega arith), v.1)
