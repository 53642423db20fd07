use Rattle.std.proofs.Common.{◌≡◌, ℕ, List, length, take, refl, length-set, sym, ap, ◌∙◌, subst, arith}
use lib.ListN.{length-replicate}
use lib.Seq.{length-take-le}
use Rattle.array.proofs.Verdicts.{passed_on, verdict_stops, verdict_passes}
use Rattle.plans.specs.Check.{paths_test}
use Rattle.plans.specs.Faults.{fault, paired}
use Rattle.plans.specs.Inner.{Starts}
use Rattle.lists.specs.FaultList.{listed_test, directions_of}
use Rattle.lists.proofs.Lists.{listed_as_many, starts_few, directions_more, all_written, list_starts, listed_paired}
use Rattle.lists.proofs.check_beside.Goals as goal

pub returns-in_err-check_entries : goal.returns-in_err-check_entries
returns-in_err-check_entries c =
    let e = c.in_err-check_entries.was in
    passed_on _ c.from_residual.ensures.1
    ∙ sym e
    ∙ verdict_stops (c.check_entries.ensures ∙ ap (λ (ps : List ℕ). listed_test ps c.args.faults.now) c.requires) _ e

pub bounds-directions-k : goal.bounds-directions-k
bounds-directions-k c =
    let e = listed_as_many _ _ (sym c.check_entries.ensures ∙ c.in_ok-check_entries.was) in
    omega (arith, e, starts_few _ _ c.args.map.now.grid.now c.args.map.now.long c.requires)

pub loop-k-init : goal.loop-k-init
loop-k-init c = record { long = length-replicate {A = ℕ} 1024 0; front = refl }

pub loop-k-preserved : goal.loop-k-preserved
loop-k-preserved c =
    let e = listed_as_many _ _ (sym c.check_entries.ensures ∙ c.in_ok-check_entries.was) in
    let ds = c.loop-k.directions in
    record {
      long = omega (arith, length-set {A = ℕ});
      front = directions_more c.args.faults.now ds c.loop-k.k (fault 0 0) (omega arith)
          (omega (arith, e, starts_few _ _ c.args.map.now.grid.now c.args.map.now.long c.requires)) c.loop-k.invariant.front;
    }

pub slice_bounds-directions-end : goal.slice_bounds-directions-end
slice_bounds-directions-end c =
    let e = listed_as_many _ _ (sym c.check_entries.ensures ∙ c.in_ok-check_entries.was) in
    omega (arith, e, starts_few _ _ c.args.map.now.grid.now c.args.map.now.long c.requires)

pub slice_bounds-check_paths-end : goal.slice_bounds-check_paths-end
slice_bounds-check_paths-end c = sym c.args.map.now.long

pub slice_bounds-check_paths-end-2 : goal.slice_bounds-check_paths-end-2
slice_bounds-check_paths-end-2 c =
    let e = listed_as_many _ _ (sym c.check_entries.ensures ∙ c.in_ok-check_entries.was) in
    sym (length-take-le (length c.args.faults.now) c.loop-k.directions (omega (arith, e, starts_few _ _ c.args.map.now.grid.now c.args.map.now.long c.requires)))

pub check_paths-requires : goal.check_paths-requires
check_paths-requires c =
    let a = c.args in
    let m = a.map.now in
    let h = sym c.check_entries.ensures ∙ c.in_ok-check_entries.was in
    let e = listed_as_many _ _ h in
    let d : take (length a.faults.now) c.loop-k.directions ≡ directions_of a.faults.now
    = all_written a.faults.now c.loop-k.directions c.loop-k.k (omega arith) (omega arith) c.loop-k.invariant.front in (
      subst (λ (ds : List ℕ). Starts m.shape.rows m.shape.columns a.starts.now ds) (sym d) (list_starts _ _ m.grid.now m.shape.small.0 m.shape.small.1 c.requires a.faults.now h),
      m.long,
      c.requires,
    )

pub returns : goal.returns
returns c =
    let a = c.args in
    let m = a.map.now in
    let o = c.in_ok-check_entries.was in
    let h = sym c.check_entries.ensures ∙ o in
    let d : take (length a.faults.now) c.loop-k.directions ≡ directions_of a.faults.now
    = all_written a.faults.now c.loop-k.directions c.loop-k.k (omega arith) (omega arith) c.loop-k.invariant.front in
    verdict_passes (c.check_entries.ensures ∙ ap (λ (ps : List ℕ). listed_test ps a.faults.now) c.requires) _ o
    (c.check_paths.ensures
    ∙ ap (λ (ds : List ℕ). paths_test m.shape.rows m.shape.columns m.grid.now (paired a.starts.now ds)) d
    ∙ ap (paths_test m.shape.rows m.shape.columns m.grid.now) (listed_paired a.starts.now a.faults.now h))
