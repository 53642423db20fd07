use Rattle.std.proofs.Common.{◌≡◌, sym, ap, ◌∙◌, List, ℕ, Bool, ◌&&◌}
use Rattle.array.specs.Buffer.{long}
use Rattle.array.specs.Map.{map_tests}
use Rattle.array.specs.Tests.{Verdict, verdict_of}
use Rattle.array.proofs.Bools.{and_one}
use Rattle.array.proofs.Maps.{map_accepted}
use Rattle.array.proofs.Verdicts.{kept_refused, written_accepted}
use Rattle.repair.specs.Operations.{planner_test, plan_by, directions_by, told}
use Rattle.repair.proofs.Calls.{two_long, answer_refused, answer_accepted}
use Rattle.repair.proofs.plan_by.Goals as goal

-- the tests of the call, as the code makes them
tested : (n m : ℕ) (grid directions : List ℕ) {v : Verdict}
    → v ≡ map_tests n m (long grid && long directions) grid → v ≡ planner_test n m grid directions
tested n m grid directions e = e ∙ ap (λ (r : Bool). map_tests n m (long grid && r) grid) (sym (and_one (long directions)))

pub check_map-requires : goal.check_map-requires
check_map-requires c = λ h. let a = c.args in (two_long a.grid.now a.directions.now h).0

pub unwrap-requires : goal.unwrap-requires
unwrap-requires c =
    let a = c.args in
    let m = map_accepted a.n a.m _ a.grid.now (sym c.check_map.ensures.tests ∙ ap verdict_of c.in-Ok.is) in
    c.as_mut_array.ensures.variant.1 (two_long a.grid.now a.directions.now m.lengths).1

pub returns-in-Err : goal.returns-in-Err
unfolding plan_by directions_by
returns-in-Err c =
    let a = c.args in
    let e = tested a.n a.m a.grid.now a.directions.now c.check_map.ensures.tests in
    let h = ap verdict_of c.in-Err.is in
    record { answer = ap told (answer_refused e _ h); buffer = kept_refused e _ _ h }

pub returns-in-Ok : goal.returns-in-Ok
unfolding plan_by directions_by
returns-in-Ok c =
    let a = c.args in
    let e = tested a.n a.m a.grid.now a.directions.now c.check_map.ensures.tests in
    let h = ap verdict_of c.in-Ok.is in
    let f = c.in-Ok.ensures.map in
    record {
      answer = ap told (answer_accepted e _ h (rw (f.0, f.1, f.2) at c.find_by.ensures.answer));
      buffer = written_accepted e _ _ h (rw (f.0, f.1, f.2) at c.find_by.ensures.buffer);
    }
