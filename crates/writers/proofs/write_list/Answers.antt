use Rattle.std.proofs.Common.{refl}
use Rattle.formats.specs.Records.{list_bytes}
use Rattle.formats.proofs.Runs.{splits_all, run_start, run_step, run_end}
use Rattle.writers.specs.Parts.{records_of}
use Rattle.writers.proofs.Records.{count_first}
use Rattle.writers.proofs.write_list.Goals as goal

pub returns : goal.returns
returns c =
    let a = c.args in
    let f = c.requires in
    let r = run_start a.out.now a.at (list_bytes a.kind a.b.now) f.3 in
    let w = c.write_number-next.ensures in
    let s = run_step r (count_first a.kind a.count a.b.now f.1) w.0 w.1 in
    let x = c.write_records.ensures in
    run_end (run_step s (splits_all (records_of a.kind a.b.now)) x.0 x.1) refl
