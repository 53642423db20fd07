use Rattle.std.proofs.Common.{◌≡◌, ℕ, ◌+◌, List, [], ◌++◌, length, arith, refl}
use Rattle.std.proofs.lemmas.List.Edits.{sets}
use Rattle.formats.specs.Records.{list_bytes, first_list, rest_bytes, file_bytes}
use Rattle.formats.specs.declared.Kind.{Kind}
use Rattle.formats.proofs.Runs.{Run, Splits, splits, splits_all, run_start, run_room, run_step, run_end}
use Rattle.writers.specs.Parts.{pair_bytes, Fitting}
use Rattle.writers.proofs.Records.{sizes_first}
use Rattle.writers.proofs.Contents.write_parts.Goals as goal

module _ {kind : Kind} {n m count dead t : ℕ} {b out : List ℕ} (f : Fitting kind n m count dead t b out) where
  start : Run out 0 (file_bytes kind n m b t) out 0 (file_bytes kind n m b t)
  start = run_start out 0 (file_bytes kind n m b t) (omega (arith, f.room))

  -- N and M are written
  sized :
      {third : ℕ} {new : List ℕ} →
      third ≡ 0 + length (pair_bytes n m) →
      new ≡ sets out 0 (pair_bytes n m) →
      Run out 0 (file_bytes kind n m b t) new third (list_bytes (first_list kind) b ++ rest_bytes kind b t)
  sized e g = run_step start (sizes_first kind n m b t) e g

  -- then the first list and the rest are left, and the rest after the list
  lists : Splits (list_bytes (first_list kind) b ++ rest_bytes kind b t) (list_bytes (first_list kind) b) (rest_bytes kind b t)
  lists = splits (list_bytes (first_list kind) b) (rest_bytes kind b t)

  last : Splits (rest_bytes kind b t) (rest_bytes kind b t) []
  last = splits_all (rest_bytes kind b t)

pub write_pair-third-requires : goal.write_pair-third-requires
write_pair-third-requires c =
    let s = c.args.self in
    let f = c.requires in
    (omega (arith, f.rows), omega (arith, f.columns), run_room (start f) (sizes_first s.kind s.rows s.columns s.buffer.now s.trials))

pub write_list-end-requires : goal.write_list-end-requires
write_list-end-requires c =
    let f = c.requires in
    let w = c.write_pair-third.ensures in
    rw c.first_list.ensures (f.long, f.counted, f.few, run_room (sized f w.0 w.1) (lists f))

pub write_rest-requires : goal.write_rest-requires
write_rest-requires c =
    let f = c.requires in
    let w = c.write_pair-third.ensures in
    let x = rw c.first_list.ensures at c.write_list-end.ensures in
    (f.long, f.dead_counted, f.few_dead, f.low_trials, run_room (run_step (sized f w.0 w.1) (lists f) x.0 x.1) (last f))

pub returns : goal.returns
returns c =
    let f = c.requires in
    let w = c.write_pair-third.ensures in
    let x = rw c.first_list.ensures at c.write_list-end.ensures in
    let y = c.write_rest.ensures in
    let t = run_step (sized f w.0 w.1) (lists f) x.0 x.1 in
    run_end (run_step t (last f) y.0 y.1) refl
