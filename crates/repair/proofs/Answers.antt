-- `told` loses nothing of the planner's and the follower's answers.
-- Assumes nothing.
use Rattle.std.specs.Prelude.{Ok, Err}
use Prim.Native.Nat.{ℕ}
use mathlib.Core.Path.{◌≡◌, refl, sym, ap, ◌∙◌}
use native.Mathlib.Omega.{arith}
use lib.ListN.{length}
use Rattle.array.specs.Reason.{number_of}
use Rattle.array.specs.Tests.{Told, accepts, refuses, LosesNothing}
use Rattle.array.proofs.Answers.{refusal_kept}
use Rattle.trials.specs.declared.Outcome.{Outcome}
use Rattle.trials.specs.declared.Outcome.TheVariants.{Repaired, Beyond, Spent}
use Rattle.exact.specs.declared.Decision.{Decision}
use Rattle.exact.specs.declared.Decision.TheVariants as decision
use Rattle.track.specs.Follower as follower
use Rattle.track.specs.declared.Landing.{Landing}
use Rattle.repair.specs.Operations.{told, outcome_told, decision_told}
use Rattle.repair.specs.Answers.{AnswersKept}
use Rattle.repair.specs.declared.Answer.TheVariants.{Planned, Decided, Refused}

outcome_kept : (o p : Outcome) → outcome_told o ≡ outcome_told p → o ≡ p
outcome_kept (Repaired t) (Repaired u) h = let e : t ≡ u = cc in ap Repaired e
outcome_kept (Beyond t) (Beyond u) h = let e : t ≡ u = cc in ap Beyond e
outcome_kept (Spent t) (Spent u) h = let e : t ≡ u = cc in ap Spent e
outcome_kept (Repaired t) (Beyond u) h = let z : ◌≡◌ {A = ℕ} 0 1 = cc in absurd (omega arith)
outcome_kept (Repaired t) (Spent u) h = let z : ◌≡◌ {A = ℕ} 0 2 = cc in absurd (omega arith)
outcome_kept (Beyond t) (Repaired u) h = let z : ◌≡◌ {A = ℕ} 1 0 = cc in absurd (omega arith)
outcome_kept (Beyond t) (Spent u) h = let z : ◌≡◌ {A = ℕ} 1 2 = cc in absurd (omega arith)
outcome_kept (Spent t) (Repaired u) h = let z : ◌≡◌ {A = ℕ} 2 0 = cc in absurd (omega arith)
outcome_kept (Spent t) (Beyond u) h = let z : ◌≡◌ {A = ℕ} 2 1 = cc in absurd (omega arith)

-- an outcome is told as accepted, whichever it is
never_refused : (o : Outcome) (k p q : ℕ) → outcome_told o ≡ refuses k p q → ⊥
never_refused (Repaired t) k p q h = let z : ◌≡◌ {A = ℕ} 0 1 = cc in omega arith
never_refused (Beyond t) k p q h = let z : ◌≡◌ {A = ℕ} 0 1 = cc in omega arith
never_refused (Spent t) k p q h = let z : ◌≡◌ {A = ℕ} 0 1 = cc in omega arith

decision_kept : (d e : Decision) → decision_told d ≡ decision_told e → d ≡ e
decision_kept decision.Repaired decision.Repaired h = refl
decision_kept decision.Beyond decision.Beyond h = refl
decision_kept decision.Repaired decision.Beyond h = let z : ◌≡◌ {A = ℕ} 0 1 = cc in absurd (omega arith)
decision_kept decision.Beyond decision.Repaired h = let z : ◌≡◌ {A = ℕ} 1 0 = cc in absurd (omega arith)

-- so is a decision, and it has no count
abbrev how_many : Told → ℕ
how_many (accepts values) = length values
how_many (refuses k p q) = 0

outcome_two : (o : Outcome) → how_many (outcome_told o) ≡ 2
outcome_two (Repaired t) = refl
outcome_two (Beyond t) = refl
outcome_two (Spent t) = refl

decision_one : (d : Decision) → how_many (decision_told d) ≡ 1
decision_one decision.Repaired = refl
decision_one decision.Beyond = refl

apart : (o : Outcome) (d : Decision) → outcome_told o ≡ decision_told d → ⊥
apart o d h = omega (arith, sym (outcome_two o) ∙ ap how_many h ∙ decision_one d)

decision_refused : (d : Decision) (k p q : ℕ) → decision_told d ≡ refuses k p q → ⊥
decision_refused d k p q h = omega (arith, sym (decision_one d) ∙ ap how_many h)

planner_kept : LosesNothing told
planner_kept (Planned o) (Planned p) h = ap Planned (outcome_kept o p h)
planner_kept (Decided d) (Decided e) h = ap Decided (decision_kept d e h)
planner_kept (Planned o) (Decided e) h = absurd (apart o e h)
planner_kept (Decided d) (Planned p) h = absurd (apart p d (sym h))
planner_kept (Decided d) (Refused s) h = absurd (decision_refused d (number_of s.reason) s.place s.second h)
planner_kept (Refused r) (Decided e) h = absurd (decision_refused e (number_of r.reason) r.place r.second (sym h))
planner_kept (Planned o) (Refused s) h = absurd (never_refused o (number_of s.reason) s.place s.second h)
planner_kept (Refused r) (Planned p) h = absurd (never_refused p (number_of r.reason) r.place r.second (sym h))
planner_kept (Refused r) (Refused s) h = ap Refused (refusal_kept r s h)

abbrev landed : ℕ → ℕ → ℕ → Landing
landed p s k = record { position = p; port = s; switches = k }

same_landing : (p q s t k l : ℕ) → p ≡ q → s ≡ t → k ≡ l → landed p s k ≡ landed q t l
same_landing p q s t k l a b c = rw (a, b, c)

follower_kept : LosesNothing follower.told
follower_kept (Ok a) (Ok b) h = ap Ok (same_landing _ _ _ _ _ _ (cc) (cc) (cc))
follower_kept (Ok a) (Err s) h = let z : ◌≡◌ {A = ℕ} 0 1 = cc in absurd (omega arith)
follower_kept (Err r) (Ok b) h = let z : ◌≡◌ {A = ℕ} 0 1 = cc in absurd (omega arith)
follower_kept (Err r) (Err s) h = ap Err (refusal_kept r s h)

pub answers_kept : AnswersKept
answers_kept = record { planner = planner_kept; follower = follower_kept }
