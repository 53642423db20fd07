use Rattle.std.proofs.Common.{refl, sym, ◌∙◌, arith}
use Rattle.array.proofs.Filters.{collect_start, collect_take, collect_skip, collect_list, collect_count}
use Rattle.plans.specs.Faults.{faults}
use Rattle.plans.proofs.Facts.{listing}
use Rattle.plans.proofs.list_faults.Goals.{then-is_inner_fault, else-is_inner_fault}
use Rattle.plans.proofs.list_faults.Goals as goal

pub loop-p-init : goal.loop-p-init
loop-p-init c = collect_start _ _ _ (omega arith)

pub loop-p-preserved : goal.loop-p-preserved
loop-p-preserved c =
    let s = c.loop-p.invariant in
    elim c.if-is_inner_fault.branch [
      | then-is_inner_fault w ↦ rw (w.out-is, w.count-is)
          (collect_take s _ (omega (arith, c.requires.0)) (sym c.is_inner_fault.ensures ∙ w.if-is_inner_fault.true) refl)
      | else-is_inner_fault w ↦ rw (w.out-is, w.count-is)
          (collect_skip s (omega (arith, c.requires.0)) (sym c.is_inner_fault.ensures ∙ w.if-is_inner_fault.false))
    ]

pub returns : goal.returns
unfolding faults
returns c =
    let h = c.requires.0 in
    listing h (collect_count c.loop-p.invariant (omega (arith, h))) (collect_list c.loop-p.invariant (omega (arith, h)))
