use Rattle.std.proofs.Common.{Bool, sym, ap, ◌∙◌}
use Rattle.array.specs.Buffer.{long}
use Rattle.array.specs.Map.{map_tests}
use Rattle.array.specs.Tests.{verdict_of}
use Rattle.array.proofs.Bools.{and_one}
use Rattle.array.proofs.Verdicts.{passed_on}
use Rattle.writers.specs.Writing.{buffer_test}
use Rattle.writers.proofs.Contents.check_buffer.Goals as goal

pub returns-in_err-check_map-in-Map : goal.returns-in_err-check_map-in-Map
unfolding buffer_test
returns-in_err-check_map-in-Map c =
    let s = c.args.self in
    let t = ap (λ (z : Bool). map_tests s.rows s.columns z s.buffer.now) (sym (and_one (long s.buffer.now))) in
    rw c.in-Map.is
    (passed_on _ c.from_residual.ensures.1 ∙ sym (ap verdict_of c.in_err-check_map-in-Map.was) ∙ c.check_map.ensures.tests ∙ t)

pub returns-in_ok-check_map-in-Map : goal.returns-in_ok-check_map-in-Map
unfolding buffer_test
returns-in_ok-check_map-in-Map c =
    let s = c.args.self in
    let t = ap (λ (z : Bool). map_tests s.rows s.columns z s.buffer.now) (sym (and_one (long s.buffer.now))) in
    rw c.in-Map.is (sym (ap verdict_of c.in_ok-check_map-in-Map.was) ∙ c.check_map.ensures.tests ∙ t)
