-- Laws of the operations: the lengths of the lent buffers, and an answer by the verdict of its tests.
-- Assumes nothing.
use Rattle.std.specs.Prelude.{Ok, Err}
use mathlib.Core.Path.{◌≡◌, sym, ap, ◌∙◌}
use mathlib.Core.Bool.{Bool, true, ◌&&◌}
use mathlib.Core.List.{List}
use Prim.Native.Nat.{ℕ}
use borrow.Author.Tests.{eqb-true}
use lib.Dec.{ltb}
use lib.ListN.{length}
use Rattle.array.specs.Place.{inner}
use Rattle.array.specs.Buffer.{long}
use Rattle.array.specs.declared.Refusal.{Refusal}
use Rattle.array.specs.Tests.{Verdict}
use Rattle.array.proofs.Bools.{and_true}
use Rattle.array.proofs.Verdicts.{both_accepted, accepted_not}
use Rattle.plans.specs.Check.{plan_tests}
use Rattle.track.specs.Ports.{Wafer}
use Rattle.track.specs.Follower.{Followed}
use Rattle.repair.specs.Operations.{answer_after, link_tests, followed_after}
use Rattle.repair.specs.declared.Answer.{Answer}
use Rattle.repair.specs.declared.Answer.TheVariants as answer

-- the first two of some buffers whose lengths are all tested
pub front_long : (a b : List ℕ) (others : Bool) → (long a && (long b && others)) ≡ true → (length a ≡ 1024) × (length b ≡ 1024)
front_long a b others h =
    let x = and_true (long a) _ h in
    let y = and_true (long b) _ x.1 in
    (eqb-true _ _ x.0, eqb-true _ _ y.0)

pub two_long : (a b : List ℕ) → (long a && long b) ≡ true → (length a ≡ 1024) × (length b ≡ 1024)
two_long a b h = let x = and_true (long a) _ h in (eqb-true _ _ x.0, eqb-true _ _ x.1)

-- and of four the last two
pub back_long : (a b c d : List ℕ) → (long a && (long b && (long c && long d))) ≡ true → (length c ≡ 1024) × (length d ≡ 1024)
back_long a b c d h = two_long c d (and_true (long b) _ (and_true (long a) _ h).1).1

-- A callee answered the verdict v, which t defines.
module _ {v t : Verdict} (e : v ≡ t) where
  pub answer_refused : (a : Answer) {r : Refusal} → v ≡ Err r → answer.Refused r ≡ answer_after t a
  answer_refused a h = ap (λ (w : Verdict). answer_after w a) (sym h ∙ e)

  pub answer_accepted : (a : Answer) {b : Answer} → v ≡ Ok tt → b ≡ a → b ≡ answer_after t a
  answer_accepted a h q = q ∙ ap (λ (w : Verdict). answer_after w a) (sym h ∙ e)

  pub follow_refused : (f : Followed) {r : Refusal} → v ≡ Err r → Err r ≡ followed_after t f
  follow_refused f h = ap (λ (w : Verdict). followed_after w f) (sym h ∙ e)

  pub follow_accepted : (f : Followed) {g : Followed} → v ≡ Ok tt → g ≡ f → g ≡ followed_after t f
  follow_accepted f h q = q ∙ ap (λ (w : Verdict). followed_after w f) (sym h ∙ e)

-- what accepted tests of a link say: 1 to 7 pass, and the cell and the side exist
pub link_tested : (w : Wafer) (right : Bool) (cell side : ℕ) → link_tests w right cell side ≡ Ok tt
    → (plan_tests w.rows w.columns right w.grid w.directions ≡ Ok tt) × ((inner w.rows w.columns cell && ltb side 2) ≡ true)
unfolding link_tests
link_tested w right cell side h =
    let a = both_accepted _ _ h in
    (a.0, accepted_not _ 15 0 0 (both_accepted _ _ a.1).0)
