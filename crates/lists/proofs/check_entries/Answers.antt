use Rattle.std.proofs.Common.{◌≡◌, refl, sym, ap, ◌∙◌, ℕ, length, get_or, min, ◌<◌, ◌≤◌, rules, arith, length-append, ◌∷◌, []}
use Rattle.std.proofs.lemmas.Slice.Zip.{zip_turn, zip_end}
use Rattle.std.specs.Iterator.Adapters.{zip_first, zip_second}
use Rattle.std.specs.Prelude.{Err}
use Rattle.std.specs.Slice.Iter.{iter_rest}
use Rattle.array.proofs.Verdicts.{passed_on, verdict_stops, verdict_passes}
use Rattle.array.specs.Tests.{refuse}
use Rattle.plans.specs.Faults.{fault}
use Rattle.plans.specs.declared.Fault.{Fault}
use Rattle.lists.proofs.Lists.{listed_from, pair_turn, listed_missing, listed_beyond, listed_end}
use Rattle.lists.proofs.check_entries.Goals as goal

pub loop-start-init : goal.loop-start-init
loop-start-init c = refl

pub loop-start-preserved : goal.loop-start-preserved
loop-start-preserved c =
    let f : iter_rest (zip_first c.into_iter-start-iterator.result) ≡ c.args.starts.now = search rules in
    let s : iter_rest (zip_second c.into_iter-start-iterator.result) ≡ c.args.faults.now = search rules in
    let k = length c.loop-start.yielded in
    let t = zip_turn _ _ c.loop-start.yielded c.into_iter-start-iterator.result c.loop-start.start-iterator c.next.new.self c.next.result
    f s c.loop-start.yielded_by (c.in-Some.field-0-0, c.in-Some.field-0-1) c.in-Some.is c.next.ensures.steps in
    c.loop-start.invariant
    ∙ pair_turn c.args.starts.now c.args.faults.now k t.0 t.1 (c.from.ensures ∙ t.2 0) (t.3 (fault 0 0))
    ∙ sym (verdict_passes c.check_entry.ensures _ c.in_ok-check_entry.was refl)
    ∙ ap (listed_from c.args.starts.now c.args.faults.now)
    (omega (arith, length-append c.loop-start.yielded ((c.in-Some.field-0-0, c.in-Some.field-0-1) ∷ [])))

pub returns-in_err-check_entry : goal.returns-in_err-check_entry
returns-in_err-check_entry c =
    let f : iter_rest (zip_first c.into_iter-start-iterator.result) ≡ c.args.starts.now = search rules in
    let s : iter_rest (zip_second c.into_iter-start-iterator.result) ≡ c.args.faults.now = search rules in
    let k = length c.loop-start.yielded in
    let t = zip_turn _ _ c.loop-start.yielded c.into_iter-start-iterator.result c.loop-start.start-iterator c.next.new.self c.next.result
    f s c.loop-start.yielded_by (c.in-Some.field-0-0, c.in-Some.field-0-1) c.in-Some.is c.next.ensures.steps in
    let e = c.in_err-check_entry.was in
    passed_on _ c.from_residual.ensures.1
    ∙ sym e
    ∙ verdict_stops c.check_entry.ensures _ e
    ∙ sym (c.loop-start.invariant
    ∙ pair_turn c.args.starts.now c.args.faults.now k t.0 t.1 (c.from.ensures ∙ t.2 0) (t.3 (fault 0 0)))

pub returns-in-Some-get : goal.returns-in-Some-get
returns-in-Some-get c =
    let f : iter_rest (zip_first c.into_iter-start-iterator.result) ≡ c.args.starts.now = search rules in
    let s : iter_rest (zip_second c.into_iter-start-iterator.result) ≡ c.args.faults.now = search rules in
    let t : length c.loop-start.yielded ≡ min (length c.args.starts.now) (length c.args.faults.now)
    = zip_end _ _ c.loop-start.yielded c.into_iter-start-iterator.result c.loop-start.start-iterator c.next.new.self c.next.result f s
    c.loop-start.yielded_by c.in-None.is c.next.ensures.steps in
    let k = c.min-both.result in
    let i = c.loop-start.invariant ∙ ap (listed_from c.args.starts.now c.args.faults.now) (t ∙ sym c.min-both.ensures) in
    let w : k < length c.args.starts.now = search rules in
    let v : c.in-Some-get.field-0.now ≡ get_or c.args.starts.now k 0 = search rules in
    ap Err c.at.ensures
    ∙ ap (λ (p : ℕ). refuse 4 p 0) (c.from-in-Some-get.ensures ∙ v)
    ∙ sym (i ∙ listed_missing c.args.starts.now c.args.faults.now (fault 0 0) k w (omega arith))

pub returns-in-Some-get-2 : goal.returns-in-Some-get-2
returns-in-Some-get-2 c =
    let f : iter_rest (zip_first c.into_iter-start-iterator.result) ≡ c.args.starts.now = search rules in
    let s : iter_rest (zip_second c.into_iter-start-iterator.result) ≡ c.args.faults.now = search rules in
    let t : length c.loop-start.yielded ≡ min (length c.args.starts.now) (length c.args.faults.now)
    = zip_end _ _ c.loop-start.yielded c.into_iter-start-iterator.result c.loop-start.start-iterator c.next.new.self c.next.result f s
    c.loop-start.yielded_by c.in-None.is c.next.ensures.steps in
    let k = c.min-both.result in
    let i = c.loop-start.invariant ∙ ap (listed_from c.args.starts.now c.args.faults.now) (t ∙ sym c.min-both.ensures) in
    let w : k < length c.args.faults.now = search rules in
    let v : c.in-Some-get-2.field-0.now ≡ get_or c.args.faults.now k (fault 0 0) = search rules in
    ap Err c.at-in-Some-get-2.ensures
    ∙ ap (λ (x : Fault). refuse 4 x.position 0) v
    ∙ sym (i ∙ listed_beyond c.args.starts.now c.args.faults.now (fault 0 0) k (omega arith) w)

pub returns : goal.returns
returns c =
    let f : iter_rest (zip_first c.into_iter-start-iterator.result) ≡ c.args.starts.now = search rules in
    let s : iter_rest (zip_second c.into_iter-start-iterator.result) ≡ c.args.faults.now = search rules in
    let t : length c.loop-start.yielded ≡ min (length c.args.starts.now) (length c.args.faults.now)
    = zip_end _ _ c.loop-start.yielded c.into_iter-start-iterator.result c.loop-start.start-iterator c.next.new.self c.next.result f s
    c.loop-start.yielded_by c.in-None.is c.next.ensures.steps in
    let k = c.min-both.result in
    let i = c.loop-start.invariant ∙ ap (listed_from c.args.starts.now c.args.faults.now) (t ∙ sym c.min-both.ensures) in
    let l : length c.args.starts.now ≤ k = search rules in
    let w : length c.args.faults.now ≤ k = search rules in
    sym (i ∙ listed_end c.args.starts.now c.args.faults.now k l w)
