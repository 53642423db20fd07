-- The trial rule with paths already kept, over any tests: what it finds completes the kept paths to a plan, and where it finds nothing no plan
-- agrees with them. Assumes nothing.
use Prim.Native.Nat.{ℕ, ◌<◌}
use mathlib.Core.Path.{◌≡◌, refl, sym, ap, ◌∙◌}
use mathlib.Core.Bool.{Bool, true, not, true≢false}
use mathlib.Core.List.{List, [], ◌∷◌}
use mathlib.Core.Logic.{◌⊎◌, inl, inr, ⊎_elim}
use native.Mathlib.Omega.{arith}
use borrow.Author.Tests.{eqb-true, eq-eqb, ne_eqb}
use lib.Dec.{eqb}
use lib.ListN.{length, get_or}
use Rattle.array.specs.Buffer.{tabulate, Lists}
use Rattle.array.proofs.Bools.{and_true, and_both, by_eq}
use Rattle.array.proofs.Fills.{tabulate_length, tabulate_at}
use Rattle.plans.specs.Faults.{paired}
use Rattle.plans.specs.PlanAt.{PlanAt, EitherFirst}
use Rattle.plans.specs.declared.Fault.{Fault}
use Rattle.plans.proofs.ByPosition.{plan_within, along_at, at_along}
use Rattle.trials.specs.Trials.{clear_of}
use Rattle.trials.specs.Search.{direction_of}
use Rattle.trials.specs.Completing.{settled_in, left_in, Has, KeepsSettled, joined, Agreeing, KeptCompleted}
use Rattle.trials.proofs.Plans.{Sound, found_sound, found_first, exhausted_unsound, unsound_exhausted}
use Rattle.trials.proofs.Written.{direction_there}

module _ (clears : ℕ → ℕ → ℕ → ℕ → Bool) where
  clear_each : (fs : List Fault) (p d g e : ℕ) → clear_of clears fs p d ≡ true → Has fs g e → clears g e p d ≡ true
  unfolding clear_of
  clear_each [] p d g e h a = absurd a
  clear_each (f ∷ fs) p d g e h (inl a) =
      (λ i. clears (sym a.0 i) (sym a.1 i) p d) ∙ (and_true (clears f.position f.direction p d) _ h).0
  clear_each (f ∷ fs) p d g e h (inr a) = clear_each fs p d g e (and_true (clears f.position f.direction p d) _ h).1 a

  clear_all : (fs : List Fault) (p d : ℕ) → ((g e : ℕ) → Has fs g e → clears g e p d ≡ true) → clear_of clears fs p d ≡ true
  unfolding clear_of
  clear_all [] p d h = refl
  clear_all (f ∷ fs) p d h =
      and_both _ _ (h f.position f.direction (inl (refl, refl))) (clear_all fs p d (λ g e a. h g e (inr a)))

module _ (fault : ℕ → Bool) (part : ℕ → ℕ) (p : ℕ) where
  pub is_settled : settled_in fault part p ≡ true → (fault p ≡ true) × (part p ≡ 0 → ⊥)
  is_settled h =
      let a = and_true (fault p) (not (eqb (part p) 0)) h in
      (a.0, λ z. true≢false (sym a.1 ∙ ap not (eq-eqb (part p) 0 z)))

  pub is_left : left_in fault part p ≡ true → (fault p ≡ true) × (part p ≡ 0)
  is_left h =
      let a = and_true (fault p) (eqb (part p) 0) h in
      (a.0, eqb-true (part p) 0 a.1)

  pub left_or_settled : fault p ≡ true → (left_in fault part p ≡ true) ⊎ (settled_in fault part p ≡ true)
  left_or_settled h = by_eq (part p) 0 (λ e. inl (rw (h, eq-eqb (part p) 0 e))) (λ e. inr (rw (h, ne_eqb (part p) 0 e)))

module _ (fault : ℕ → Bool) (opens : ℕ → ℕ → Bool) (clears : ℕ → ℕ → ℕ → ℕ → Bool) (part : ℕ → ℕ) (kept : List Fault) (ps : List ℕ)
    (round : EitherFirst clears) (before : PlanAt (settled_in fault part) opens clears part) (keeps-settled : KeepsSettled fault part kept)
    (lists : Lists (left_in fault part) ps) where
  -- the directions of a plan that agrees with the kept paths, at the faults left
  abbrev rest_of : Agreeing fault opens clears part → List ℕ
  rest_of a = tabulate (λ k. a.dir (get_or ps k 0)) (length ps)

  agreeing_sound : (a : Agreeing fault opens clears part) → Sound opens clears kept ps (rest_of a)
  agreeing_sound a =
      let f : ℕ → ℕ = λ k. a.dir (get_or ps k 0) in
      let same : (k : ℕ) → k < length ps → get_or (rest_of a) k 0 ≡ a.dir (get_or ps k 0) = λ k h. tabulate_at f (length ps) k 0 h in
      record {
        along = at_along opens clears lists (rest_of a) a.dir (tabulate_length f (length ps)) same
            (plan_within (λ p h. (is_left fault part p h).0) a.plan);
        apart_at = λ k h.
            let l : k < length ps = omega (arith, h, tabulate_length f (length ps)) in
            let q = get_or ps k 0 in
            let w = is_left fault part q (lists.each k l) in
            clear_all clears kept q (get_or (rest_of a) k 0)
            (λ g d has.
            let x = keeps-settled.held g d has in
            let y = is_settled fault part g x.0 in
            (λ i. clears g ((x.1 ∙ sym (a.agrees g y.0 y.1)) i) q (same k l i))
            ∙ a.plan.clear_pair g q y.0 w.0 (λ z. y.1 (ap part z ∙ w.1)));
      }

  -- and back
  module _ (xs : List ℕ) (s : Sound opens clears kept ps xs) where
    abbrev all : ℕ → ℕ
    all = joined part ps xs

    abbrev found_at : ℕ → ℕ
    found_at = direction_of (paired ps xs)

    many : length xs ≡ length ps
    many = s.along.chosen.one_each

    there : (k : ℕ) → k < length ps → found_at (get_or ps k 0) ≡ get_or xs k 0
    there k l = direction_there ps xs k many lists.once l

    rest : PlanAt (left_in fault part) opens clears found_at
    rest = along_at opens clears lists xs found_at many (λ k l. sym (there k l)) round s.along

    at_settled : (p : ℕ) → settled_in fault part p ≡ true → all p ≡ part p
    at_settled p h = rw (ne_eqb (part p) 0 (is_settled fault part p h).1)

    at_left : (p : ℕ) → left_in fault part p ≡ true → all p ≡ found_at p
    at_left p h = rw (eq-eqb (part p) 0 (is_left fault part p h).1)

    -- a settled fault and one that is left
    across : (p q : ℕ) → settled_in fault part p ≡ true → left_in fault part q ≡ true → clears p (all p) q (all q) ≡ true
    across p q a b =
        let y = lists.all q b in
        let e : all q ≡ get_or xs y.k 0 = at_left q b ∙ ap found_at (sym y.is) ∙ there y.k y.below in
        (λ i. clears p (at_settled p a i) (sym y.is i) (e i))
        ∙ clear_each clears kept (get_or ps y.k 0) (get_or xs y.k 0) p (part p)
        (s.apart_at y.k (omega (arith, y.below, many))) (keeps-settled.holds p a)

    sound_plan_at : PlanAt fault opens clears all
    sound_plan_at =
        record {
          straight = λ p h.
              ⊎_elim
              (λ a. let z = at_left p a in let t = rest.straight p a in (omega (arith, t.0), omega (arith, t.1)))
              (λ a. let z = at_settled p a in let t = before.straight p a in (omega (arith, t.0), omega (arith, t.1)))
              (left_or_settled fault part p h);
          open_path = λ p h.
              ⊎_elim (λ a. ap (opens p) (at_left p a) ∙ rest.open_path p a) (λ a. ap (opens p) (at_settled p a) ∙ before.open_path p a)
              (left_or_settled fault part p h);
          clear_pair = λ p q h g ne.
              ⊎_elim
              (λ a.
              ⊎_elim (λ b. (λ i. clears p (at_left p a i) q (at_left q b i)) ∙ rest.clear_pair p q a b ne)
              (λ b. round q (all q) p (all p) (across q p b a)) (left_or_settled fault part q g))
              (λ a.
              ⊎_elim (λ b. across p q a b)
              (λ b. (λ i. clears p (at_settled p a i) q (at_settled q b i)) ∙ before.clear_pair p q a b ne)
              (left_or_settled fault part q g))
              (left_or_settled fault part p h);
        }

pub kept_completed : KeptCompleted
kept_completed fault opens clears part kept ps round before keeps-settled lists =
    let sound = agreeing_sound fault opens clears part kept ps round before keeps-settled lists in
    let plan = sound_plan_at fault opens clears part kept ps round before keeps-settled lists in
    record {
      completed = λ k xs e. plan xs (found_sound opens clears kept ps k xs e);
      first = λ k xs e a. found_first opens clears kept ps k xs e _ (sound a);
      none_agrees = λ k e a. exhausted_unsound opens clears kept ps k e _ (sound a);
      none_there = λ never.
          unsound_exhausted opens clears kept ps
          (λ xs s.
          never (record { dir = joined part ps xs; plan = plan xs s; agrees = λ p h np. rw (ne_eqb (part p) 0 np) }));
    }
