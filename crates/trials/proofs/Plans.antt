-- For any test of a path and any test of two paths: the directions that faults keep in turn are those whose paths are all open and all clear
-- of each other, and other directions have a path or a pair that says why not. So the trial rule finds the first of the former, or shows that
-- all directions are of the latter. Assumes nothing.
use Prim.Native.Nat.{ℕ, zero, suc, ◌≤◌, ◌<◌}
use mathlib.Core.Path.{◌≡◌, refl, ap, subst}
use mathlib.Core.Bool.{Bool, true, false, ◌&&◌}
use mathlib.Core.Logic.{◌⊎◌, inl, inr, ⊎_elim}
use mathlib.Core.List.{List, [], ◌∷◌}
use native.Mathlib.Nat.{le_of_suc-le-suc, not-suc-le-zero}
use native.Mathlib.Omega.{arith}
use lib.ListN.{length, get_or}
use Rattle.array.proofs.Bools.{and_true, and_both, by_bool}
use Rattle.plans.specs.Faults.{fault}
use Rattle.plans.specs.Plan.{Chosen, NotAfter}
use Rattle.plans.specs.PlanAt.{PlanAlong}
use Rattle.plans.specs.declared.Fault.{Fault}
use Rattle.trials.specs.Trials.{Search, found, exhausted, in_order, trials, count, clear_of, keeps}
use Rattle.trials.proofs.Laws.{In, Kept, Answers, answers}

-- one of the four directions
abbrev pub Straight : ℕ → Type 0
Straight d = (1 ≤ d) × (d ≤ 4)

in_straight : (d : ℕ) → In d in_order → Straight d
in_straight d m =
    ⊎_elim (λ e. (omega arith, omega arith))
    (⊎_elim (λ e. (omega arith, omega arith))
    (⊎_elim (λ e. (omega arith, omega arith)) (⊎_elim (λ e. (omega arith, omega arith)) (λ z. absurd z)))) m

straight_in : (d : ℕ) → Straight d → In d in_order
straight_in zero s = absurd (omega (arith, s.0))
straight_in (suc zero) s = inl refl
straight_in (suc (suc zero)) s = inr (inl refl)
straight_in (suc (suc (suc zero))) s = inr (inr (inl refl))
straight_in (suc (suc (suc (suc zero)))) s = inr (inr (inr (inl refl)))
straight_in (suc (suc (suc (suc (suc d))))) s = absurd (omega (arith, s.1))

-- what holds of the first element, and of each after it, holds of each; and so of pairs
each : {n : ℕ} (P : ℕ → Type 0) → P 0 → ((k : ℕ) → k < n → P (suc k)) → (k : ℕ) → k < suc n → P k
each P a f zero h = a
each P a f (suc k) h = f k (le_of_suc-le-suc h)

pairs : {n : ℕ} (P : ℕ → ℕ → Type 0)
    → ((j : ℕ) → j < n → P 0 (suc j)) → ((i j : ℕ) → i < j → j < n → P (suc i) (suc j))
    → (i j : ℕ) → i < j → j < suc n → P i j
pairs P a f i zero l h = absurd (not-suc-le-zero l)
pairs P a f zero (suc j) l h = a j (le_of_suc-le-suc h)
pairs P a f (suc i) (suc j) l h = f i j (le_of_suc-le-suc l) (le_of_suc-le-suc h)

and_split : (a b : Bool) → (a && b) ≡ false → (a ≡ false) ⊎ (b ≡ false)
and_split true b e = inr e
and_split false b e = inl refl

chosen_none : Chosen [] []
chosen_none = record { one_each = refl; straight = λ k h. absurd (not-suc-le-zero h) }

chosen_more : (p d : ℕ) (ps xs : List ℕ) → Straight d → Chosen ps xs → Chosen (p ∷ ps) (d ∷ xs)
chosen_more p d ps xs s h =
    record { one_each = ap suc h.one_each; straight = each (λ k. Straight (get_or (d ∷ xs) k 0)) s h.straight }

chosen_less : (p d : ℕ) (ps xs : List ℕ) → Chosen (p ∷ ps) (d ∷ xs) → Chosen ps xs
chosen_less p d ps xs h =
    record { one_each = omega (arith, h.one_each); straight = λ k l. h.straight (suc k) (omega arith) }

module _ (opens : ℕ → ℕ → Bool) (clear : ℕ → ℕ → ℕ → ℕ → Bool) where
  abbrev Open : List ℕ → List ℕ → ℕ → Bool
  Open ps xs k = opens (get_or ps k 0) (get_or xs k 0)

  abbrev Clear : List ℕ → List ℕ → ℕ → ℕ → Bool
  Clear ps xs i j = clear (get_or ps i 0) (get_or xs i 0) (get_or ps j 0) (get_or xs j 0)

  -- the path of fault k is clear of those of the faults before them all
  abbrev Apart : List Fault → List ℕ → List ℕ → ℕ → Bool
  Apart kept ps xs k = clear_of clear kept (get_or ps k 0) (get_or xs k 0)

  pub record Sound (kept : List Fault) (ps xs : List ℕ) : Type 0 where
    pub along : PlanAlong opens clear ps xs
    pub apart_at : (k : ℕ) → k < length xs → Apart kept ps xs k ≡ true

  pub data Wrong (kept : List Fault) (ps xs : List ℕ) : Type 0 where
    shut : (k : ℕ) → k < length xs → Open ps xs k ≡ false → Wrong kept ps xs
    clash_before : (k : ℕ) → k < length xs → Apart kept ps xs k ≡ false → Wrong kept ps xs
    clash : (i j : ℕ) → i < j → j < length xs → Clear ps xs i j ≡ false → Wrong kept ps xs

  pub kept_sound : (ps xs : List ℕ) (kept : List Fault) → Kept (keeps opens clear) kept ps xs → Sound kept ps xs
  unfolding keeps clear_of
  kept_sound [] [] kept v =
      record {
        along = record {
          chosen = chosen_none;
          open_path = λ k h. absurd (not-suc-le-zero h);
          clear_pair = λ i j l h. absurd (not-suc-le-zero h);
        };
        apart_at = λ k h. absurd (not-suc-le-zero h);
      }
  kept_sound [] (d ∷ xs) kept v = absurd v
  kept_sound (p ∷ ps) [] kept v = absurd v
  kept_sound (p ∷ ps) (d ∷ xs) kept v =
      let s = kept_sound ps xs (fault p d ∷ kept) v.2 in
      let e = and_true (opens p d) (clear_of clear kept p d) v.1 in
      let later : (k : ℕ) → k < length xs → (Clear (p ∷ ps) (d ∷ xs) 0 (suc k) ≡ true) × (Apart kept ps xs k ≡ true)
      = λ k h. and_true (Clear (p ∷ ps) (d ∷ xs) 0 (suc k)) (Apart kept ps xs k) (s.apart_at k h) in
      record {
        along = record {
          chosen = chosen_more p d ps xs (in_straight d v.0) s.along.chosen;
          open_path = each (λ k. Open (p ∷ ps) (d ∷ xs) k ≡ true) e.0 s.along.open_path;
          clear_pair = pairs (λ i j. Clear (p ∷ ps) (d ∷ xs) i j ≡ true) (λ j h. (later j h).0) s.along.clear_pair;
        };
        apart_at = each (λ k. Apart kept (p ∷ ps) (d ∷ xs) k ≡ true) e.1 (λ k h. (later k h).1);
      }

  pub sound_kept : (ps xs : List ℕ) (kept : List Fault) → Sound kept ps xs → Kept (keeps opens clear) kept ps xs
  unfolding keeps clear_of
  sound_kept [] [] kept s = tt
  sound_kept [] (d ∷ xs) kept s = absurd (omega (arith, s.along.chosen.one_each))
  sound_kept (p ∷ ps) [] kept s = absurd (omega (arith, s.along.chosen.one_each))
  sound_kept (p ∷ ps) (d ∷ xs) kept s = (
    straight_in d (s.along.chosen.straight 0 (omega arith)),
    and_both _ _ (s.along.open_path 0 (omega arith)) (s.apart_at 0 (omega arith)),
    sound_kept ps xs (fault p d ∷ kept)
        (record {
          along = record {
            chosen = chosen_less p d ps xs s.along.chosen;
            open_path = λ k h. s.along.open_path (suc k) (omega arith);
            clear_pair = λ i j l h. s.along.clear_pair (suc i) (suc j) (omega arith) (omega arith);
          };
          apart_at = λ k h. and_both _ _ (s.along.clear_pair 0 (suc k) (omega arith) (omega arith)) (s.apart_at (suc k) (omega arith));
        }),
  )

  wrong_after : (p d : ℕ) (ps xs : List ℕ) (kept : List Fault) → Wrong (fault p d ∷ kept) ps xs → Wrong kept (p ∷ ps) (d ∷ xs)
  unfolding clear_of
  wrong_after p d ps xs kept (shut k h e) = shut (suc k) (omega arith) e
  wrong_after p d ps xs kept (clash_before k h e) =
      ⊎_elim
      (λ q. clash 0 (suc k) (omega arith) (omega arith) q)
      (λ q. clash_before (suc k) (omega arith) q)
      (and_split (Clear (p ∷ ps) (d ∷ xs) 0 (suc k)) (Apart kept ps xs k) e)
  wrong_after p d ps xs kept (clash i j l h e) = clash (suc i) (suc j) (omega arith) (omega arith) e

  -- directions are kept in turn, or one is wrong
  pub kept_or_wrong : (ps xs : List ℕ) (kept : List Fault) → Chosen ps xs
      → Kept (keeps opens clear) kept ps xs ⊎ Wrong kept ps xs
  unfolding keeps
  kept_or_wrong [] [] kept h = inl tt
  kept_or_wrong [] (d ∷ xs) kept h = absurd (omega (arith, h.one_each))
  kept_or_wrong (p ∷ ps) [] kept h = absurd (omega (arith, h.one_each))
  kept_or_wrong (p ∷ ps) (d ∷ xs) kept h =
      by_bool (opens p d)
      (λ o.
      by_bool (clear_of clear kept p d)
      (λ a.
      ⊎_elim
      (λ v. inl (straight_in d (h.straight 0 (omega arith)), and_both _ _ o a, v))
      (λ w. inr (wrong_after p d ps xs kept w))
      (kept_or_wrong ps xs (fault p d ∷ kept) (chosen_less p d ps xs h)))
      (λ a. inr (clash_before 0 (omega arith) a)))
      (λ o. inr (shut 0 (omega arith) o))

  -- the trial rule over faults at any positions, after those that have kept their directions
  module _ (kept : List Fault) (ps : List ℕ) where
    abbrev ended : Search
    ended = trials (keeps opens clear) kept ps

    said : (s : Search) → ended ≡ s → Answers (keeps opens clear) kept ps s
    said s e = subst (Answers (keeps opens clear) kept ps) e (answers (keeps opens clear) ps kept)

    -- what is found is sound, and nothing sound comes before it
    pub found_sound : (k : ℕ) (xs : List ℕ) → ended ≡ found k xs → Sound kept ps xs
    found_sound k xs e = kept_sound ps xs kept (said (found k xs) e).0

    pub found_first : (k : ℕ) (xs : List ℕ) → ended ≡ found k xs → (ys : List ℕ) → Sound kept ps ys → NotAfter xs ys
    found_first k xs e ys s = (said (found k xs) e).1 ys (sound_kept ps ys kept s)

    -- where nothing is found, no directions are sound, and each choice of them is wrong
    pub exhausted_unsound : (k : ℕ) → ended ≡ exhausted k → (xs : List ℕ) → Sound kept ps xs → ⊥
    exhausted_unsound k e xs s = said (exhausted k) e xs (sound_kept ps xs kept s)

    pub exhausted_wrong : (k : ℕ) → ended ≡ exhausted k → (xs : List ℕ) → Chosen ps xs → Wrong kept ps xs
    exhausted_wrong k e xs h = ⊎_elim (λ v. absurd (said (exhausted k) e xs v)) (λ w. w) (kept_or_wrong ps xs kept h)

    -- and where no directions are sound, nothing is found
    pub unsound_exhausted : ((xs : List ℕ) → Sound kept ps xs → ⊥) → ended ≡ exhausted (count ended)
    unsound_exhausted none = by ended refl
      where
        by : (s : Search) → ended ≡ s → s ≡ exhausted (count s)
        by (found k xs) e = absurd (none xs (found_sound k xs e))
        by (exhausted k) e = refl
