use Rattle.std.proofs.Common.{refl}
use Rattle.formats.specs.Number.{bytes_of}
use Rattle.formats.proofs.Runs.{splits, splits_all, run_start, run_step, run_end}
use Rattle.writers.specs.Parts.{pair_bytes}
use Rattle.writers.proofs.write_pair.Goals as goal

pub returns : goal.returns
returns c =
    let a = c.args in
    let w = c.write_number-second.ensures in
    let x = c.write_number.ensures in
    let r = run_start a.out.now a.at (pair_bytes a.x a.y) c.requires.2 in
    let s = run_step r (splits (bytes_of a.x) (bytes_of a.y)) w.0 w.1 in
    run_end (run_step s (splits_all (bytes_of a.y)) x.0 x.1) refl
