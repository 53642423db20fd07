-- A flat struct of an operation's answer is that of its definition: the two answers tell the same, and what is told loses nothing.
-- Assumes nothing.
use Prim.Native.Nat.{ℕ}
use mathlib.Core.Path.{◌≡◌, ap, ◌∙◌, subst}
use mathlib.Core.List.{List}
use Rattle.array.specs.Tests.{Told, LosesNothing, told}
use Rattle.array.specs.Tests.{Verdict}
use Rattle.array.proofs.Answers.{verdict_kept}
use Rattle.repair.specs.Demand3.{Given}
use Rattle.repair.specs.declared.Answer.{Answer}
use Rattle.repair.proofs.Answers.{answers_kept}
use Rattle.runs.specs.Run.{RanAs, run_answer, run_links}
use Rattle.runs.specs.declared.Ran.{Ran}
use Rattle.capi.specs.Flat.{flat_verdict, flat_run, run_of, RanFlat}
use Rattle.capi.specs.declared.ChantspruceVerdict.{ChantspruceVerdict}
use Rattle.capi.specs.declared.ChantsprucePlan.{ChantsprucePlan}

pub flat_kept :
    {A B : Type 0} (tell : A → Told) → LosesNothing tell → (flat : A → B) {x y : A} {r : B} →
    r ≡ flat x → tell x ≡ tell y → r ≡ flat y
flat_kept tell kept flat {x} {y} e h = e ∙ ap flat (kept x y h)

same_run : (a b : Answer) (k l : ℕ) → a ≡ b → k ≡ l → ◌≡◌ {A = Ran} (record { answer = a; links = k }) (record { answer = b; links = l })
same_run a b k l e h = rw (e, h)

-- The same of a run, whose result is an answer and a count.
module _ (g : Given) (r : Ran) {directions places across down : List ℕ} (h : RanAs g r directions places across down) where
  run_kept : r ≡ run_of g
  run_kept = same_run r.answer (run_answer g) r.links (run_links g) (answers_kept.planner r.answer (run_answer g) h.answers) h.counts

  pub flat_ran : {f : ChantsprucePlan} → f ≡ flat_run r → RanFlat g f directions places across down
  flat_ran e = (e ∙ ap flat_run run_kept, subst (λ (x : Ran). RanAs g x directions places across down) run_kept h)

-- The same with a value beside the answer, of a struct that `beside` makes of the two.
pub beside_kept : {A B : Type 0} (beside : ChantspruceVerdict → A → B) (v w : Verdict) {x y : A} {f : ChantspruceVerdict}
    → f ≡ flat_verdict v → told v ≡ told w → x ≡ y → beside f x ≡ beside (flat_verdict w) y
beside_kept beside v w e h k = λ i. beside (flat_kept told verdict_kept flat_verdict {x = v} {y = w} e h i) (k i)
