-- The numbers of the planners and of the follower are document 01's.
-- Assumes nothing.
use Rattle.std.specs.Prelude.{Ok, Err}
use Prim.Native.Nat.{ℕ}
use mathlib.Core.Path.{◌≡◌, refl, ap}
use mathlib.Core.Logic.{◌⊎◌, inl, inr}
use mathlib.Core.Bool.{Bool}
use mathlib.Core.List.{List}
use native.Mathlib.Omega.{arith}
use Rattle.array.specs.Reason.{number_of}
use Rattle.array.specs.Tests.{refusal, refuses_as, Numbered}
use Rattle.array.specs.declared.Refusal.{Refusal}
use Rattle.array.specs.Tests.{Verdict}
use Rattle.array.proofs.Numbered.{NumberedAs, NumberedVerdict, numbers, map_numbered}
use Rattle.plans.proofs.Numbered.{plan_numbered}
use Rattle.trials.specs.declared.Outcome.{Outcome}
use Rattle.trials.specs.declared.Outcome.TheVariants.{Repaired, Beyond, Spent}
use Rattle.trials.specs.Trials.{Search}
use Rattle.trials.specs.Search.{outcome}
use Rattle.exact.specs.Exact.{decided}
use Rattle.exact.specs.declared.Decision.{Decision}
use Rattle.exact.specs.declared.Decision.TheVariants as decision
use Rattle.track.specs.Ports.{Wafer}
use Rattle.track.specs.Follower.{followed}
use Rattle.track.specs.Follower.{Followed}
use Rattle.track.proofs.Follows.{follower_refuses}
use Rattle.repair.specs.Operations.{told, answer_by, answer_after, plan_by, link_tests, followed_after, follow_link}
use Rattle.repair.specs.declared.Planner.{Planner}
use Rattle.repair.specs.declared.Planner.TheVariants.{Trials, Quick, Exact}
use Rattle.repair.specs.declared.Answer.{Answer}
use Rattle.repair.specs.declared.Answer.TheVariants.{Planned, Decided}
use Rattle.track.specs.Follower as links

planned_numbered : (o : Outcome) → NumberedAs told (Planned o)
planned_numbered (Repaired t) = search numbers
planned_numbered (Beyond t) = search numbers
planned_numbered (Spent t) = search numbers

decided_numbered : (d : Decision) → NumberedAs told (Decided d)
decided_numbered decision.Repaired = search numbers
decided_numbered decision.Beyond = search numbers

answer_numbered : (pl : Planner) (limit : ℕ) (s : Search) → NumberedAs told (answer_by pl limit s)
answer_numbered Trials limit s = planned_numbered (outcome limit s)
answer_numbered Quick limit s = planned_numbered (outcome limit s)
answer_numbered Exact limit s = decided_numbered (decided s)

numbered_answer : (v : Verdict) → NumberedVerdict v → (a : Answer) → NumberedAs told a → NumberedAs told (answer_after v a)
numbered_answer (Err r) h a k = record { numbered = h.numbered }
numbered_answer (Ok tt) h a k = k

pub plan_numbered_by : (pl : Planner) (n m : ℕ) (grid directions : List ℕ) (limit : ℕ)
    → NumberedAs told (plan_by pl n m grid directions limit)
unfolding plan_by
plan_numbered_by pl n m grid directions limit = search (numbered_answer, map_numbered, answer_numbered)

tests_numbered : (w : Wafer) (right : Bool) (cell side : ℕ) → NumberedVerdict (link_tests w right cell side)
unfolding link_tests
tests_numbered w right cell side = search (numbers, plan_numbered)

either : (r : Refusal) → (r ≡ refusal 17 r.place 0) ⊎ (r ≡ refusal 18 r.place 0) → Numbered (refuses_as r)
either r (inl e) = omega (arith, ap (λ (x : Refusal). number_of x.reason) e)
either r (inr e) = omega (arith, ap (λ (x : Refusal). number_of x.reason) e)

followed_numbered : (w : Wafer) (cell side : ℕ) (f : Followed) → followed w cell side ≡ f → NumberedAs links.told f
followed_numbered w cell side (Ok l) e = search numbers
followed_numbered w cell side (Err r) e =
    record { numbered = either r (follower_refuses.no_other w cell side r e) }

numbered_after : (v : Verdict) (f : Followed) → NumberedVerdict v → NumberedAs links.told f
    → NumberedAs links.told (followed_after v f)
numbered_after (Ok tt) f h g = g
numbered_after (Err r) f h g = record { numbered = h.numbered }

pub follow_link_numbered : (w : Wafer) (cell side : ℕ) → NumberedAs links.told (follow_link w cell side)
unfolding follow_link
follow_link_numbered w cell side =
    search (numbered_after, tests_numbered, followed_numbered w cell side (followed w cell side) refl)
