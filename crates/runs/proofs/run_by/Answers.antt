use Rattle.std.proofs.Common.{◌≡◌, sym, ap, ◌∙◌, true, false, Bool, not, ◌&&◌, ℕ, ◌<◌, List, length, arith}
use borrow.Author.Tests.{eqb-true}
use Rattle.std.specs.Array.{IsWholeChunk}
use Rattle.array.specs.Buffer.{long}
use Rattle.array.specs.Map.{map_tests}
use Rattle.array.specs.Tests.{Verdict, verdict_of}
use Rattle.array.proofs.Bools.{and_true, and_one}
use Rattle.array.proofs.Maps.{map_accepted}
use Rattle.repair.specs.Demand3.{Given}
use Rattle.runs.specs.Run.{given, run_test}
use Rattle.runs.proofs.Running.{ran_refused, ran_planned, accepts, ran_repaired}
use Rattle.runs.proofs.run_by.Goals as goal

-- the tests of the run, as the code makes them
tested : (g : Given) {v : Verdict}
    → v ≡ map_tests g.n g.m (long g.grid && (long g.directions && (long g.places && (long g.across && long g.down)))) g.grid
    → v ≡ run_test g
tested g e =
    e ∙ ap (λ (r : Bool). map_tests g.n g.m (long g.grid && (long g.directions && (long g.places && (long g.across && r)))) g.grid)
    (sym (and_one (long g.down)))

pub check_map-requires : goal.check_map-requires
check_map-requires c = λ h. eqb-true _ _ (and_true (long c.args.grid.now) _ h).0

pub returns-in-Err : goal.returns-in-Err
returns-in-Err c =
    let a = c.args in
    let g = given a.planner a.n a.m a.grid.now a.limit a.directions.now a.places.now a.across.now a.down.now in
    ran_refused g (omega (arith, c.ranges.limit)) (tested g c.check_map.ensures.tests) (ap verdict_of c.in-Err.is)

-- the lengths of the five buffers
lengths : (grid directions places across down : List ℕ)
    → (long grid && (long directions && (long places && (long across && long down)))) ≡ true
    → (length directions ≡ 1024) × (length places ≡ 1024) × (length across ≡ 1024) × (length down ≡ 1024)
lengths grid directions places across down h =
    let a = and_true (long grid) _ h in
    let b = and_true (long directions) _ a.1 in
    let c = and_true (long places) _ b.1 in
    let d = and_true (long across) _ c.1 in
    (eqb-true _ _ b.0, eqb-true _ _ c.0, eqb-true _ _ d.0, eqb-true _ _ d.1)

pub unwrap-directions-requires : goal.unwrap-directions-requires
unwrap-directions-requires c =
    let a = c.args in
    let m = map_accepted a.n a.m _ a.grid.now (sym c.check_map.ensures.tests ∙ ap verdict_of c.in-Ok.is) in
    let l = lengths a.grid.now a.directions.now a.places.now a.across.now a.down.now m.lengths in
    c.as_mut_array.ensures.variant.1 l.0

pub unwrap-requires : goal.unwrap-requires
unwrap-requires c =
    let a = c.args in
    let m = map_accepted a.n a.m _ a.grid.now (sym c.check_map.ensures.tests ∙ ap verdict_of c.in-Ok.is) in
    let l = lengths a.grid.now a.directions.now a.places.now a.across.now a.down.now m.lengths in
    c.as_mut_array-2.ensures.variant.1 l.1

pub unwrap-requires-2 : goal.unwrap-requires-2
unwrap-requires-2 c =
    let a = c.args in
    let m = map_accepted a.n a.m _ a.grid.now (sym c.check_map.ensures.tests ∙ ap verdict_of c.in-Ok.is) in
    let l = lengths a.grid.now a.directions.now a.places.now a.across.now a.down.now m.lengths in
    c.as_mut_array-3.ensures.variant.1 l.2

pub unwrap-requires-3 : goal.unwrap-requires-3
unwrap-requires-3 c =
    let a = c.args in
    let m = map_accepted a.n a.m _ a.grid.now (sym c.check_map.ensures.tests ∙ ap verdict_of c.in-Ok.is) in
    let l = lengths a.grid.now a.directions.now a.places.now a.across.now a.down.now m.lengths in
    c.as_mut_array-4.ensures.variant.1 l.3

pub returns-then-not-is_repaired : goal.returns-then-not-is_repaired
returns-then-not-is_repaired c =
    let a = c.args in
    let g = given a.planner a.n a.m a.grid.now a.limit a.directions.now a.places.now a.across.now a.down.now in
    let f = c.in-Ok.ensures.map in
    ran_planned g (omega (arith, c.ranges.limit)) (tested g c.check_map.ensures.tests) (ap verdict_of c.in-Ok.is)
    (rw (f.0, f.1, f.2) at c.find_by-answer.ensures.answer) (rw (f.0, f.1, f.2) at c.find_by-answer.ensures.buffer)
    (sym c.is_repaired.ensures ∙ c.if-not-is_repaired.true)

pub complete-links-requires : goal.complete-links-requires
complete-links-requires c =
    let a = c.args in
    let g = given a.planner a.n a.m a.grid.now a.limit a.directions.now a.places.now a.across.now a.down.now in
    let f = c.in-Ok.ensures.map in
    let x : IsWholeChunk a.places.now c.unwrap.result.now 1024 = rw c.unwrap.ensures at c.as_mut_array-2.ensures.cases in
    let y : IsWholeChunk a.across.now c.unwrap-2.result.now 1024 = rw c.unwrap-2.ensures at c.as_mut_array-3.ensures.cases in
    let z : IsWholeChunk a.down.now c.unwrap-3.result.now 1024 = rw c.unwrap-3.ensures at c.as_mut_array-4.ensures.cases in
    rw (f.0, f.1, f.2, x.same, y.same, z.same)
    (accepts g (omega (arith, c.ranges.limit)) (tested g c.check_map.ensures.tests) (ap verdict_of c.in-Ok.is)
    (rw (f.0, f.1, f.2) at c.find_by-answer.ensures.answer) (rw (f.0, f.1, f.2) at c.find_by-answer.ensures.buffer)
    (sym c.is_repaired.ensures ∙ c.if-not-is_repaired.false))

pub returns : goal.returns
returns c =
    let a = c.args in
    let g = given a.planner a.n a.m a.grid.now a.limit a.directions.now a.places.now a.across.now a.down.now in
    let f = c.in-Ok.ensures.map in
    let x : IsWholeChunk a.places.now c.unwrap.result.now 1024 = rw c.unwrap.ensures at c.as_mut_array-2.ensures.cases in
    let y : IsWholeChunk a.across.now c.unwrap-2.result.now 1024 = rw c.unwrap-2.ensures at c.as_mut_array-3.ensures.cases in
    let z : IsWholeChunk a.down.now c.unwrap-3.result.now 1024 = rw c.unwrap-3.ensures at c.as_mut_array-4.ensures.cases in
    ran_repaired g (omega (arith, c.ranges.limit)) (tested g c.check_map.ensures.tests) (ap verdict_of c.in-Ok.is)
    (rw (f.0, f.1, f.2) at c.find_by-answer.ensures.answer) (rw (f.0, f.1, f.2) at c.find_by-answer.ensures.buffer)
    (sym c.is_repaired.ensures ∙ c.if-not-is_repaired.false)
    (rw (f.0, f.1, f.2, x.same, y.same, z.same) at c.complete-links.ensures.links)
    (rw (f.0, f.1, f.2, x.same) at c.complete-links.ensures.places)
    (rw (f.0, f.1, f.2, y.same, z.same) at c.complete-links.ensures.across)
    (rw (f.0, f.1, f.2, y.same, z.same) at c.complete-links.ensures.down)
