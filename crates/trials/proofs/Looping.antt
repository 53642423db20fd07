-- The invariant of the search's loop, how each turn keeps it, and what it says at each way out. For any test of a trial.
-- Assumes nothing.
use Prim.Native.Nat.{ℕ, zero, suc, ◌+◌, ◌≤◌, ◌<◌, ◌-◌}
use mathlib.Core.Path.{◌≡◌, refl, ap, sym, subst, ◌∙◌}
use mathlib.Core.Bool.{Bool, true, false}
use mathlib.Core.Logic.{⊎_elim}
use mathlib.Core.List.{List, [], ◌∷◌, ◌++◌, append_assoc, append-nil}
use native.Mathlib.Nat.{add-zero, eq-or-lt_of_le}
use native.Mathlib.Numerals.{add-one}
use native.Mathlib.Omega.{arith}
use borrow.Author.Tests.{le-leb, lt-leb}
use lib.ListN.{length, get_or, set, take, drop, length-set}
use lib.Seq.{get_or-set_same, get_or-set_other, take-suc, drop-cons, drop-length}
use Rattle.plans.specs.Faults.{fault}
use Rattle.plans.specs.declared.Fault.{Fault}
use Rattle.trials.specs.declared.Outcome.{Outcome}
use Rattle.trials.specs.declared.Outcome.TheVariants.{Repaired, Beyond, Spent}
use Rattle.trials.specs.Trials.{Search, found, exhausted, more, in_order, trials}
use Rattle.trials.specs.Search.{outcome}
use Rattle.trials.specs.Inner.{kept_in, KeptFront, Holds}
use Rattle.trials.proofs.Rest.{left, left_one, left_none, left_next, onto, rest, rest_start, rest_done, rest_no, rest_yes, rest_up, rest_over, more_more, more_zero}

-- the first k faults with their directions depend on nothing past them
pub kept_same : (ps qs xs ys : List ℕ) (k : ℕ) → ((i : ℕ) → i < k → get_or ps i 0 ≡ get_or qs i 0)
    → ((i : ℕ) → i < k → get_or xs i 0 ≡ get_or ys i 0) → kept_in ps xs k ≡ kept_in qs ys k
unfolding kept_in
kept_same ps qs xs ys zero f g = refl
kept_same ps qs xs ys (suc k) f g =
    let same = kept_same ps qs xs ys k (λ i h. f i (omega arith)) (λ i h. g i (omega arith)) in
    rw (f k (omega arith), g k (omega arith), same)

kept_store : (starts chosen : List ℕ) (k d : ℕ) → k < length chosen
    → kept_in starts (set chosen k d) (suc k) ≡ fault (get_or starts k 0) d ∷ kept_in starts chosen k
unfolding kept_in
kept_store starts chosen k d h =
    let same = kept_same starts starts (set chosen k d) chosen k (λ i l. refl)
    (λ i l. get_or-set_other chosen k i d 0 (λ e. omega arith)) in
    rw (get_or-set_same chosen k d 0 h, same)

-- the directions kept, in fault order
onto_append : (starts chosen : List ℕ) (k : ℕ) (xs : List ℕ) → k ≤ length chosen
    → onto (kept_in starts chosen k) xs ≡ take k chosen ++ xs
unfolding kept_in
onto_append starts chosen zero xs h = refl
onto_append starts chosen (suc k) xs h =
    onto_append starts chosen k (get_or chosen k 0 ∷ xs) (omega arith) ∙ sym (rw (take-suc chosen k 0, append_assoc))

onto_take : (starts chosen : List ℕ) (k : ℕ) → k ≤ length chosen → onto (kept_in starts chosen k) [] ≡ take k chosen
onto_take starts chosen k h = onto_append starts chosen k [] h ∙ append-nil (take k chosen)

-- a result r and the directions xs, at the end s of the trials
abbrev pub Ends : ℕ → Search → Outcome → List ℕ → Type 0
Ends limit s r xs = (r ≡ outcome limit s) × Holds limit s xs

ends_exhausted : (limit t : ℕ) (s : Search) (xs : List ℕ) → exhausted t ≡ s → t ≤ limit → Ends limit s (Beyond t) xs
unfolding outcome
ends_exhausted limit t s xs e h = subst (λ (q : Search). Ends limit q (Beyond t) xs) e (rw (le-leb t limit h), tt)

ends_found : (limit t : ℕ) (s : Search) (xs ys : List ℕ) → found t ys ≡ s → xs ≡ ys → t ≤ limit → Ends limit s (Repaired t) xs
unfolding outcome
ends_found limit t s xs ys e p h =
    subst (λ (q : Search). Ends limit q (Repaired t) xs) e (rw (le-leb t limit h), λ _. p)

ends_spent : (limit : ℕ) (s q : Search) (xs : List ℕ) → more (suc limit) q ≡ s → Ends limit s (Spent limit) xs
unfolding outcome
ends_spent limit s q xs e = subst (λ (z : Search). Ends limit z (Spent limit) xs) e (by q)
  where
    by : (q : Search) → Ends limit (more (suc limit) q) (Spent limit) xs
    by (found k ys) = (rw (lt-leb (suc limit + k) limit (omega arith)), λ h. absurd (omega arith))
    by (exhausted k) = (rw (lt-leb (suc limit + k) limit (omega arith)), tt)

module _ (keep : List Fault → ℕ → ℕ → Bool) (starts : List ℕ) where
  -- what is left, where fault k is offered direction d next
  abbrev left_at : List ℕ → ℕ → ℕ → Search
  left_at chosen k d = rest keep (kept_in starts chosen k) (left d) (drop k starts)

  -- the test of that trial
  abbrev keep_at : List ℕ → ℕ → ℕ → Bool
  keep_at chosen k d = keep (kept_in starts chosen k) (get_or starts k 0) d

  left_back : (chosen : List ℕ) (j d : ℕ) → suc j < length starts → 4 < d → d ≤ 5
      → left_at chosen (suc j) d ≡ left_at chosen j (get_or chosen j 0 + 1)
  unfolding kept_in
  left_back chosen j d h a b =
      let z : d ≡ 5 = omega arith in
      rw (z, left_none, drop-cons starts j 0 (omega arith), drop-cons starts (suc j) 0 h, add-one (get_or chosen j 0))
      (rest_up keep (fault (get_or starts j 0) (get_or chosen j 0)) (kept_in starts chosen j) (get_or starts (suc j) 0)
      (drop (suc (suc j)) starts))

  left_over : (chosen : List ℕ) (d : ℕ) → 0 < length starts → 4 < d → d ≤ 5 → left_at chosen 0 d ≡ exhausted 0
  unfolding kept_in
  left_over chosen d h a b =
      let z : d ≡ 5 = omega arith in
      rw (z, left_none)
      (ap (rest keep [] []) (drop-cons starts 0 0 h) ∙ rest_over keep (get_or starts 0 0) (drop 1 starts))

  module _ (chosen : List ℕ) (k d spent : ℕ) (h : k < length starts) (a : 1 ≤ d) (b : d ≤ 4) where
    more_no : keep_at chosen k d ≡ false → more (spent + 1) (left_at chosen k (d + 1)) ≡ more spent (left_at chosen k d)
    more_no f =
        rw (drop-cons starts k 0 h, add-one d, left_next d a b)
        (more_more spent 1 (rest keep (kept_in starts chosen k) (left (suc d)) (get_or starts k 0 ∷ drop (suc k) starts))
        ∙ ap (more spent)
        (sym (rest_no keep (kept_in starts chosen k) (get_or starts k 0) d (drop (suc k) starts) (left (suc d)) f)))

    more_yes : k < length chosen → keep_at chosen k d ≡ true
        → more (spent + 1) (left_at (set chosen k d) (k + 1) 1) ≡ more spent (left_at chosen k d)
    more_yes l f =
        rw (add-one k, drop-cons starts k 0 h, left_next d a b, left_one, kept_store starts chosen k d l)
        (more_more spent 1 (rest keep (fault (get_or starts k 0) d ∷ kept_in starts chosen k) in_order (drop (suc k) starts))
        ∙ ap (more spent) (sym (rest_yes keep (kept_in starts chosen k) (get_or starts k 0) d (drop (suc k) starts) f)))

-- fault k is offered direction d next, after `spent` trials; `chosen` has the directions of the faults before it
pub record State (keep : List Fault → ℕ → ℕ → Bool) (opens : ℕ → ℕ → Bool) (starts : List ℕ) (limit len : ℕ) (chosen : List ℕ)
    (k d spent : ℕ) : Type 0 where
  pub same : length chosen ≡ len
  pub fault_within : k ≤ length starts
  pub room : length starts ≤ len
  pub low : 1 ≤ d
  pub high : d ≤ 5
  pub within : spent ≤ limit
  pub kept : KeptFront opens starts chosen k
  pub total : more spent (left_at keep starts chosen k d) ≡ trials keep [] starts

module _ (keep : List Fault → ℕ → ℕ → Bool) (opens : ℕ → ℕ → Bool) (starts : List ℕ) (limit len : ℕ) where
  pub enter : (chosen : List ℕ) → length chosen ≡ len → length starts ≤ len → State keep opens starts limit len chosen 0 1 0
  unfolding kept_in
  enter chosen e h =
      record {
        same = e;
        fault_within = omega arith;
        room = h;
        low = omega arith;
        high = omega arith;
        within = omega arith;
        kept = λ i l. absurd (omega arith);
        total = rw left_one (more_zero (rest keep [] in_order starts) ∙ rest_start keep starts);
      }

  module _ {chosen : List ℕ} {k d spent : ℕ} (s : State keep opens starts limit len chosen k d spent) (in-loop : k < length starts) where
    -- no direction is left, and there is a fault before
    pub up : 4 < d → (k ≡ 0 → ⊥) → State keep opens starts limit len chosen (k - 1) (get_or chosen (k - 1) 0 + 1) spent
    up h z =
        let e : k ≡ suc (k - 1) = omega arith in
        let l : k - 1 < k = omega arith in
        record {
          same = s.same;
          fault_within = omega arith;
          room = s.room;
          low = omega arith;
          high = omega (arith, (s.kept (k - 1) l).1);
          within = s.within;
          kept = λ i m. s.kept i (omega arith);
          total =
              ap (more spent)
              (sym
              (ap (λ (j : ℕ). left_at keep starts chosen j d) e
              ∙ left_back keep starts chosen (k - 1) d (omega arith) h s.high))
              ∙ s.total;
        }

    -- no direction is left, and there is no fault before
    pub over : 4 < d → k ≡ 0 → (xs : List ℕ) → Ends limit (trials keep [] starts) (Beyond spent) xs
    over h z xs =
        ends_exhausted limit spent (trials keep [] starts) xs
        (ap exhausted (sym (add-zero spent))
        ∙ ap (more spent)
        (sym
        (ap (λ (j : ℕ). left_at keep starts chosen j d) z
        ∙ left_over keep starts chosen d (omega arith) h s.high))
        ∙ s.total)
        s.within

    module _ (dir : d ≤ 4) where
      pub no : (spent ≡ limit → ⊥) → keep_at keep starts chosen k d ≡ false
          → State keep opens starts limit len chosen k (d + 1) (spent + 1)
      no l f =
          record {
            same = s.same;
            fault_within = s.fault_within;
            room = s.room;
            low = omega arith;
            high = omega arith;
            within = omega arith;
            kept = s.kept;
            total = more_no keep starts chosen k d spent in-loop s.low dir f ∙ s.total;
          }

      pub yes : (spent ≡ limit → ⊥) → opens (get_or starts k 0) d ≡ true → keep_at keep starts chosen k d ≡ true
          → State keep opens starts limit len (set chosen k d) (k + 1) 1 (spent + 1)
      yes l o f =
          record {
            same = length-set chosen k d ∙ s.same;
            fault_within = omega arith;
            room = s.room;
            low = omega arith;
            high = omega arith;
            within = omega arith;
            kept = λ i m. ⊎_elim (here i) (there i) (eq-or-lt_of_le (below i m));
            total = more_yes keep starts chosen k d spent in-loop s.low dir (omega arith) f ∙ s.total;
          }
        where
          below : (i : ℕ) → i < k + 1 → i ≤ k
          below i m = omega arith

          KeptAt : ℕ → Type 0
          KeptAt i =
              (1 ≤ get_or (set chosen k d) i 0) × (get_or (set chosen k d) i 0 ≤ 4)
              × (opens (get_or starts i 0) (get_or (set chosen k d) i 0) ≡ true)

          here : (i : ℕ) → i ≡ k → KeptAt i
          here i e = rw (e, get_or-set_same chosen k d 0 (omega arith)) (s.low, dir, o)

          there : (i : ℕ) → i < k → KeptAt i
          there i m = rw (get_or-set_other chosen k i d 0 (λ e. omega arith)) (s.kept i m)

      -- a trial is due, and the limit is reached
      pub out : spent ≡ limit → (xs : List ℕ) → Ends limit (trials keep [] starts) (Spent limit) xs
      out e xs = by (keep_at keep starts chosen k d) refl
        where
          spent_by : (q : Search) → more (spent + 1) q ≡ more spent (left_at keep starts chosen k d)
              → Ends limit (trials keep [] starts) (Spent limit) xs
          spent_by q f =
              ends_spent limit (trials keep [] starts) q xs
              (ap (λ (t : ℕ). more t q) (omega arith) ∙ f ∙ s.total)

          by : (b : Bool) → keep_at keep starts chosen k d ≡ b → Ends limit (trials keep [] starts) (Spent limit) xs
          by true f =
              spent_by (left_at keep starts (set chosen k d) (k + 1) 1)
              (more_yes keep starts chosen k d spent in-loop s.low dir (omega arith) f)
          by false f =
              spent_by (left_at keep starts chosen k (d + 1))
              (more_no keep starts chosen k d spent in-loop s.low dir f)

  -- every fault has its direction
  pub done : {chosen : List ℕ} {k d spent : ℕ} → State keep opens starts limit len chosen k d spent → length starts ≤ k
      → Ends limit (trials keep [] starts) (Repaired spent) (take (length starts) chosen)
  done {chosen} {k} {d} {spent} s h =
      let e : k ≡ length starts = omega arith in
      let kept = kept_in starts chosen (length starts) in
      ends_found limit spent (trials keep [] starts) (take (length starts) chosen) (onto kept [])
      (ap (λ (t : ℕ). found t (onto kept [])) (sym (add-zero spent))
      ∙ ap (more spent)
      (sym
      (ap (λ (j : ℕ). left_at keep starts chosen j d) e
      ∙ ap (rest keep kept (left d)) (drop-length starts)
      ∙ rest_done keep kept (left d)))
      ∙ s.total)
      (sym (onto_take starts chosen (length starts) (omega arith)))
      s.within
