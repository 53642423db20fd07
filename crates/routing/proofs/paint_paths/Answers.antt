use Rattle.std.proofs.Common.{ℕ, List, sym, ap, ◌∙◌, subst, arith}
use Rattle.std.proofs.lemmas.Iterator.Adapters.{YieldsList-from_rev_slice}
use Rattle.std.proofs.lemmas.Iterator.Consumers.{YieldsList-turn, YieldsList-end}
use Rattle.std.proofs.lemmas.List.{length-reverse, length_push}
use Rattle.array.specs.Buffer.{buffer}
use Rattle.plans.specs.Faults.{directions_at, paired}
use Rattle.track.specs.Placement.{through}
use Rattle.routing.specs.Inner.{traced_paths}
use Rattle.routing.proofs.Painting.{Traced, listed_starts, turn_of, trace_start, trace_step, trace_end}
use Rattle.routing.proofs.paint_paths.Goals as goal

pub loop-start-init : goal.loop-start-init
loop-start-init c =
    let w = c.args.plan.now in
    let s = listed_starts w.map.shape.rows w.map.shape.columns w.map.grid.now w.directions.now c.args.starts.now w.directed c.requires.0 in
    (tt, tt, trace_start _ _ _ _ _ s.same c.requires.1)

pub bounds-plan-start : goal.bounds-plan-start
bounds-plan-start c =
    let w = c.args.plan.now in
    let t = YieldsList-turn (YieldsList-from_rev_slice c.args.starts.now cc) c.loop-start.yielded _ c.loop-start.yielded_by _ _ c.in-Some.start c.in-Some.is c.next.ensures.steps in
    let u = turn_of w.map.shape.rows w.map.shape.columns w.map.grid.now w.directions.now c.args.starts.now w.directed c.requires.0 _ _ t.0 t.1 in
    omega (arith, u.below, c.from-start.ensures, w.directed.sound.directions_long)

pub invariant_of-path : goal.invariant_of-path
invariant_of-path c =
    let w = c.args.plan.now in
    let t = YieldsList-turn (YieldsList-from_rev_slice c.args.starts.now cc) c.loop-start.yielded _ c.loop-start.yielded_by _ _ c.in-Some.start c.in-Some.is c.next.ensures.steps in
    let u = turn_of w.map.shape.rows w.map.shape.columns w.map.grid.now w.directions.now c.args.starts.now w.directed c.requires.0 _ _ t.0 t.1 in
    record { starts = rw c.from-start.ensures u.start }

pub loop-start-preserved : goal.loop-start-preserved
loop-start-preserved c =
    let w = c.args.plan.now in
    let n = w.map.shape.rows in
    let m = w.map.shape.columns in
    let ds = directions_at w.directions.now c.args.starts.now in
    let t = YieldsList-turn (YieldsList-from_rev_slice c.args.starts.now cc) c.loop-start.yielded _ c.loop-start.yielded_by _ _ c.in-Some.start c.in-Some.is c.next.ensures.steps in
    let u = turn_of n m w.map.grid.now w.directions.now c.args.starts.now w.directed c.requires.0 _ _ t.0 t.1 in
    let e = rw (c.from-start.ensures, u.same) at c.paint_path.ensures in (
      tt,
      tt,
      subst (λ (i : ℕ). Traced n m c.args.starts.now ds i c.paint_path.new.out) (sym (length_push c.loop-start.yielded c.in-Some.start))
          (trace_step c.loop-start.invariant.2 u.k c.in-Some.start.now c.paint_path.new.out u.here u.at e),
    )

pub returns : goal.returns
unfolding traced_paths
returns c =
    let w = c.args.plan.now in
    let t = YieldsList-end (YieldsList-from_rev_slice c.args.starts.now cc) c.loop-start.yielded _ c.loop-start.yielded_by _ _ c.in-None.is c.next.ensures.steps in
    trace_end c.loop-start.invariant.2 (omega (arith, t.1, length-reverse c.args.starts.now))
    ∙ ap (λ (x : List ℕ). buffer (through w.map.shape.rows w.map.shape.columns (paired x (directions_at w.directions.now x)))) c.requires.0
