-- Of the states whose entry is x a plan has only 2 with 2 and 3 with 3.
-- Assumes nothing.
use mathlib.Core.Path.{◌≡◌, sym, ap, ◌∙◌}
use mathlib.Core.Bool.{Bool, true, ◌&&◌, ◌||◌}
use mathlib.Core.Logic.{inl, inr, ⊎_elim}
use Prim.Native.Nat.{ℕ, suc, ◌+◌}
use native.Mathlib.Omega.{arith}
use borrow.Author.Tests.{eqb-true}
use lib.Dec.{T, eqb}
use Rattle.array.specs.Place.{position, row, column, processor_at}
use Rattle.array.proofs.Bools.{and_true, or_true}
use Rattle.array.proofs.Places.{processor_within}
use Rattle.track.specs.Letters.{letters, entry, across_exists, down_exists}
use Rattle.track.specs.Theorems.{printed_x, TwoOrThree, vertical_of, horizontal_of, FewXEntries}
use Rattle.track.proofs.View.{transposed}
use Rattle.track.proofs.Walks.{State, state_number, vertical}
use Rattle.track.proofs.Cross.{beside, all, pairs_at, given, use_given, and_intro}
use Rattle.track.proofs.Paths.{true_if}
use Rattle.track.proofs.FromPlan.{near, transposed_plan}
use Rattle.track.proofs.Held.{view_of, formed_of, planned_of, vertical_held, horizontal_held}

abbrev two_or_three : ℕ → ℕ → Bool
two_or_three a b = (eqb a 2 && eqb b 2) || (eqb a 3 && eqb b 3)

abbrev x_test : State → State → Bool
x_test s t =
    given (beside s t && printed_x (state_number s) (state_number t)) (two_or_three (state_number s) (state_number t))

x_everywhere : T (all (λ s. all (λ t. x_test s t)))
unfolding entry letters
x_everywhere = tt

told_apart : (a b : ℕ) → two_or_three a b ≡ true → TwoOrThree a b
told_apart a b h =
    ⊎_elim (λ e. let q = and_true (eqb a 2) (eqb b 2) e in inl (eqb-true a 2 q.0, eqb-true b 2 q.1))
    (λ e. let q = and_true (eqb a 3) (eqb b 3) e in inr (eqb-true a 3 q.0, eqb-true b 3 q.1))
    (or_true (eqb a 2 && eqb b 2) (eqb a 3 && eqb b 3) h)

only_x : (s t : State) → T (beside s t) → printed_x (state_number s) (state_number t) ≡ true → TwoOrThree (state_number s) (state_number t)
only_x s t h e =
    told_apart (state_number s) (state_number t)
    (true_if _
    (use_given (beside s t && printed_x (state_number s) (state_number t)) (two_or_three (state_number s) (state_number t))
    (pairs_at x_test x_everywhere s t)
    (and_intro (beside s t) (printed_x (state_number s) (state_number t)) h (rw e tt))))

-- states that are those of the view
by_states : (a b : ℕ) (s t : State) → a ≡ state_number s → b ≡ state_number t → T (beside s t) → printed_x a b ≡ true → TwoOrThree a b
by_states a b s t e f h x = rw (e, f) (only_x s t h (rw (e, f) at x))

pub x_entries : FewXEntries
x_entries w r = record { at_across = at_across; at_down = at_down }
  where
    at_across : (p : ℕ) → across_exists w.rows w.columns (row p) (column p) ≡ true
        → printed_x (vertical_of w p) (vertical_of w (p + 1)) ≡ true → TwoOrThree (vertical_of w p) (vertical_of w (p + 1))
    at_across p h =
        let v = view_of w in
        let a = and_true (processor_at w.rows w.columns (row p) (column p)) (processor_at w.rows w.columns (row p) (column p + 1)) h in
        let b = processor_within w.rows w.columns (row p) (column p + 1) a.1 in
        let s = (formed_of w r).sizes in
        let e : position (row p) (column p) ≡ p = omega arith in
        let f : position (row p) (suc (column p)) ≡ p + 1 = omega arith in
        by_states (vertical_of w p) (vertical_of w (p + 1)) (vertical v (row p) (column p)) (vertical v (row p) (suc (column p)))
        (ap (vertical_of w) (sym e) ∙ vertical_held w r (row p) (column p) (omega arith))
        (ap (vertical_of w) (sym f) ∙ vertical_held w r (row p) (suc (column p)) (omega arith))
        (near v (planned_of w r) (row p) (column p))

    at_down : (p : ℕ) → down_exists w.rows w.columns (row p) (column p) ≡ true
        → printed_x (horizontal_of w p) (horizontal_of w (p + 32)) ≡ true → TwoOrThree (horizontal_of w p) (horizontal_of w (p + 32))
    at_down p h =
        let v = transposed (view_of w) in
        let e : position (row p) (column p) ≡ p = omega arith in
        let f : position (suc (row p)) (column p) ≡ p + 32 = omega arith in
        by_states (horizontal_of w p) (horizontal_of w (p + 32)) (vertical v (column p) (row p)) (vertical v (column p) (suc (row p)))
        (ap (horizontal_of w) (sym e) ∙ horizontal_held w r (column p) (row p) (omega arith))
        (ap (horizontal_of w) (sym f) ∙ horizontal_held w r (column p) (suc (row p)) (omega arith))
        (near v (transposed_plan (view_of w) (planned_of w r)) (column p) (row p))
