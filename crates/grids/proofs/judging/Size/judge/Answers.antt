-- The loop finds the first position that is wrong.
use Rattle.std.proofs.Common.{refl, ◌∙◌, sym, rules}
use Rattle.grids.specs.Reading.{rows_test}
use Rattle.grids.proofs.Judgements.{wrong_pass, wrong_stop, wrong_end}
use Rattle.grids.proofs.judging.Size.judge.Goals as goal

pub loop-p-init : goal.loop-p-init
unfolding rows_test
loop-p-init c = refl

pub loop-p-preserved : goal.loop-p-preserved
loop-p-preserved c =
    let r = c.judge_position in
    c.loop-p.invariant ∙ wrong_pass _ 1024 c.loop-p.p r.result c.loop-p-test.true r.ensures (c.in_ok-judge_position.was)

pub returns-in_err-judge_position : goal.returns-in_err-judge_position
returns-in_err-judge_position c =
    let r = c.judge_position in
    let w = c.in_err-judge_position.field-0.0 in
    search (rules, c.loop-p.invariant ∙ wrong_stop _ 1024 c.loop-p.p r.result w c.loop-p-test.true r.ensures (c.in_err-judge_position.was))

pub returns : goal.returns
returns c = sym (c.loop-p.invariant ∙ wrong_end _ 1024 c.loop-p.p c.loop-p-test.false)
