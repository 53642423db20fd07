use Rattle.std.proofs.Common.{set, ℕ, refl, ap, arith}
use Rattle.formats.proofs.Runs.{run_step, run_end}
use Rattle.grids.specs.Text.{text_byte}
use Rattle.grids.proofs.Texts.{text_start, span_turn, span_end}
use Rattle.grids.proofs.writing.write_marks.Goals as goal

pub loop-i-init : goal.loop-i-init
loop-i-init c =
    let a = c.args in
    (omega arith, text_start a.n a.m a.grid.now a.out.now a.needed c.requires.3 c.requires.4)

pub loop-i-preserved : goal.loop-i-preserved
loop-i-preserved c =
    let a = c.args in (
      omega arith,
      run_step c.loop-i.invariant.1 (span_turn (text_byte a.n a.m a.grid.now) a.needed c.loop-i.i (omega arith)) refl
          (ap (λ (v : ℕ). set c.loop-i.out c.loop-i.i v) c.text_byte.ensures),
    )

pub returns : goal.returns
returns c =
    let a = c.args in
    (run_end c.loop-i.invariant.1 (span_end (text_byte a.n a.m a.grid.now) a.needed c.loop-i.i (omega arith))).1
