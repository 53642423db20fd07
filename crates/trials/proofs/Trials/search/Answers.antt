use Rattle.std.proofs.Common.{refl, sym, ◌∙◌, arith}
use Rattle.trials.specs.Search.{searched}
use Rattle.trials.proofs.Looping.{enter, up, over, no, yes, out, done}
use Rattle.trials.proofs.Testing.{keeps_open}
use Rattle.trials.proofs.Trials.search.Goals as goal

pub loop-k-init : goal.loop-k-init
loop-k-init c = record { state = enter _ _ _ _ _ _ refl c.requires.1; noted = c.requires.0 }

pub returns-then-k-eq0 : goal.returns-then-k-eq0
unfolding searched
returns-then-k-eq0 c =
    let e = over _ _ _ _ _ c.loop-k.invariant.state (omega arith) (omega arith) (omega arith) _ in
    record { outcome = e.0; plan = e.1 }

pub loop-k-preserved-then-d-gt4 : goal.loop-k-preserved-then-d-gt4
loop-k-preserved-then-d-gt4 c =
    let v = c.loop-k.invariant in
    record { state = up _ _ _ _ _ v.state (omega arith) (omega arith) c.if-k-eq0.false; noted = v.noted }

pub returns-then-spent-limit : goal.returns-then-spent-limit
unfolding searched
returns-then-spent-limit c =
    let e = out _ _ _ _ _ c.loop-k.invariant.state (omega arith) (omega arith) (omega arith) _ in
    record { outcome = e.0; plan = e.1 }

pub loop-k-preserved-then-is_kept : goal.loop-k-preserved-then-is_kept
loop-k-preserved-then-is_kept c =
    let e = sym c.is_kept.ensures.kept ∙ c.if-is_kept.true in
    record {
      state = yes _ _ _ _ _ c.loop-k.invariant.state (omega arith) (omega arith) (omega arith) (keeps_open _ _ _ _ _ e) e;
      noted = c.is_kept.ensures.noted;
    }

pub loop-k-preserved : goal.loop-k-preserved
loop-k-preserved c =
    record {
      state = no _ _ _ _ _ c.loop-k.invariant.state (omega arith) (omega arith) (omega arith) (sym c.is_kept.ensures.kept ∙ c.if-is_kept.false);
      noted = c.is_kept.ensures.noted;
    }

pub returns : goal.returns
unfolding searched
returns c =
    let e = done _ _ _ _ _ c.loop-k.invariant.state (omega arith) in
    record { outcome = e.0; plan = e.1 }
