use Rattle.std.proofs.Common.{refl}
use Rattle.formats.specs.Records.{record_bytes}
use Rattle.formats.proofs.Runs.{splits_all, run_start, run_step, run_end}
use Rattle.writers.specs.Parts.{value_bytes}
use Rattle.writers.proofs.Records.{pair_first}
use Rattle.writers.proofs.write_record.Goals as goal

pub returns : goal.returns
returns c =
    let a = c.args in
    let w = c.write_pair-third.ensures in
    let x = c.write_value.ensures in
    let r = run_start a.out.now a.at (record_bytes a.kind a.p a.v) c.requires.1 in
    let s = run_step r (pair_first a.kind a.p a.v) w.0 w.1 in
    run_end (run_step s (splits_all (value_bytes a.kind a.v)) x.0 x.1) refl
