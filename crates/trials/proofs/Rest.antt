-- What is left of the trials from any trial on, and how each trial changes it. For any test of a trial.
-- Assumes nothing.
use Prim.Native.Nat.{ℕ, zero, suc, ◌+◌, ◌≤◌, ◌-◌}
use mathlib.Core.Path.{◌≡◌, refl, ap, sym, ◌∙◌}
use mathlib.Core.Bool.{Bool, true, false}
use mathlib.Core.List.{List, [], ◌∷◌}
use native.Mathlib.Nat.{add_assoc, zero-add, add-zero}
use native.Mathlib.Omega.{arith}
use lib.ListN.{drop}
use Rattle.plans.specs.Faults.{fault}
use Rattle.plans.specs.declared.Fault.{Fault}
use Rattle.trials.specs.Trials.{Search, found, exhausted, more, in_order, offer, trials}
use Rattle.trials.proofs.Offers.{next, offer_next}

-- the first, and where it is exhausted the second, with the trials of both
abbrev or_then : Search → Search → Search
or_then (found k xs) s = found k xs
or_then (exhausted k) s = more k s

pub more_more : (a b : ℕ) (s : Search) → more (a + b) s ≡ more a (more b s)
more_more a b (found k xs) = rw add_assoc
more_more a b (exhausted k) = rw add_assoc

more_then : (a : ℕ) (s r : Search) → or_then (more a s) r ≡ more a (or_then s r)
more_then a (found k xs) r = refl
more_then a (exhausted k) r = more_more a k r

then_assoc : (s r q : Search) → or_then (or_then s r) q ≡ or_then s (or_then r q)
then_assoc (found k xs) r q = refl
then_assoc (exhausted k) r q = more_then k r q

pub more_zero : (s : Search) → more 0 s ≡ s
more_zero (found k xs) = rw zero-add
more_zero (exhausted k) = rw zero-add

then_none : (s : Search) → or_then s (exhausted 0) ≡ s
then_none (found k xs) = refl
then_none (exhausted k) = rw add-zero

-- the directions of these faults, latest first, in fault order before xs
abbrev pub onto : List Fault → List ℕ → List ℕ
onto [] xs = xs
onto (f ∷ kept) xs = onto kept (f.direction ∷ xs)

abbrev under : List Fault → Search → Search
under kept (found k xs) = found k (onto kept xs)
under kept (exhausted k) = exhausted k

under_nil : (s : Search) → under [] s ≡ s
under_nil (found k xs) = refl
under_nil (exhausted k) = refl

under_more : (kept : List Fault) (a : ℕ) (s : Search) → under kept (more a s) ≡ more a (under kept s)
under_more kept a (found k xs) = refl
under_more kept a (exhausted k) = refl

-- the directions from d on
pub left : ℕ → List ℕ
left d = drop (d - 1) in_order

pub left_one : left 1 ≡ in_order
unfolding left
left_one = refl

pub left_none : left 5 ≡ []
unfolding left
left_none = refl

pub left_next : (d : ℕ) → 1 ≤ d → d ≤ 4 → left d ≡ d ∷ left (suc d)
unfolding left
left_next zero a b = absurd (omega arith)
left_next (suc zero) a b = refl
left_next (suc (suc zero)) a b = refl
left_next (suc (suc (suc zero))) a b = refl
left_next (suc (suc (suc (suc zero)))) a b = refl
left_next (suc (suc (suc (suc (suc d))))) a b = absurd (omega arith)

module _ (keep : List Fault → ℕ → ℕ → Bool) where
  -- the faults at ps are without a direction, and the first of them has the directions l left
  level : List Fault → List ℕ → List ℕ → Search
  level kept l [] = found 0 []
  level kept l (p ∷ ps) = offer (keep kept p) (λ d. trials keep (fault p d ∷ kept) ps) l

  -- what follows where no direction is left: the faults that have kept theirs go on, the latest first
  back : List Fault → List ℕ → Search
  back [] ps = exhausted 0
  back (f ∷ kept) ps =
      or_then (under kept (level kept (left (suc f.direction)) (f.position ∷ ps))) (back kept (f.position ∷ ps))

  pub rest : List Fault → List ℕ → List ℕ → Search
  rest kept l ps = or_then (under kept (level kept l ps)) (back kept ps)

  level_all : (kept : List Fault) (ps : List ℕ) → level kept in_order ps ≡ trials keep kept ps
  unfolding level trials
  level_all kept [] = refl
  level_all kept (p ∷ ps) = refl

  -- at the beginning
  pub rest_start : (ps : List ℕ) → rest [] in_order ps ≡ trials keep [] ps
  unfolding rest back
  rest_start ps = then_none (under [] (level [] in_order ps)) ∙ under_nil (level [] in_order ps) ∙ level_all [] ps

  -- no fault is left: a plan is found
  pub rest_done : (kept : List Fault) (l : List ℕ) → rest kept l [] ≡ found 0 (onto kept [])
  unfolding rest level
  rest_done kept l = refl

  module _ (kept : List Fault) (p d : ℕ) (ps : List ℕ) where
    -- how the faults after p end, once it has kept y
    abbrev go : ℕ → Search
    go y = trials keep (fault p y ∷ kept) ps

    abbrev then_back : Search → Search
    then_back s = or_then (under kept s) (back kept (p ∷ ps))

    turn : (l : List ℕ) (b : Bool) → keep kept p d ≡ b
        → rest kept (d ∷ l) (p ∷ ps) ≡ then_back (next b (go d) d (level kept l (p ∷ ps)))
    unfolding rest level
    turn l b e =
        ap then_back
        (offer_next (keep kept p) go d l
        ∙ ap (λ (x : Bool). next x (go d) d (offer (keep kept p) go l)) e)

    -- a trial that is not kept
    pub rest_no : (l : List ℕ) → keep kept p d ≡ false → rest kept (d ∷ l) (p ∷ ps) ≡ more 1 (rest kept l (p ∷ ps))
    unfolding rest
    rest_no l e =
        turn l false e
        ∙ ap (λ (s : Search). or_then s (back kept (p ∷ ps))) (under_more kept 1 (level kept l (p ∷ ps)))
        ∙ more_then 1 (under kept (level kept l (p ∷ ps))) (back kept (p ∷ ps))

    keep_under : (s r : Search) → under kept (next true s d r) ≡ more 1 (or_then (under (fault p d ∷ kept) s) (under kept r))
    keep_under (found k xs) r = refl
    keep_under (exhausted k) r = under_more kept (1 + k) r ∙ more_more 1 k (under kept r)

    -- a trial that is kept
    pub rest_yes : keep kept p d ≡ true
        → rest kept (d ∷ left (suc d)) (p ∷ ps) ≡ more 1 (rest (fault p d ∷ kept) in_order ps)
    unfolding rest back
    rest_yes e =
        let r = level kept (left (suc d)) (p ∷ ps) in
        let s = under (fault p d ∷ kept) (go d) in
        turn (left (suc d)) true e
        ∙ ap (λ (q : Search). or_then q (back kept (p ∷ ps))) (keep_under (go d) r)
        ∙ more_then 1 (or_then s (under kept r)) (back kept (p ∷ ps))
        ∙ ap (more 1) (then_assoc s (under kept r) (back kept (p ∷ ps)))
        ∙ ap (λ (q : Search). more 1 (or_then (under (fault p d ∷ kept) q) (back (fault p d ∷ kept) ps)))
        (sym (level_all (fault p d ∷ kept) ps))

  -- no direction is left: the fault before goes on
  pub rest_up : (f : Fault) (kept : List Fault) (p : ℕ) (ps : List ℕ)
      → rest (f ∷ kept) [] (p ∷ ps) ≡ rest kept (left (suc f.direction)) (f.position ∷ p ∷ ps)
  unfolding rest level back offer
  rest_up f kept p ps = more_zero (rest kept (left (suc f.direction)) (f.position ∷ p ∷ ps))

  -- and there is none before
  pub rest_over : (p : ℕ) (ps : List ℕ) → rest [] [] (p ∷ ps) ≡ exhausted 0
  unfolding rest level back offer
  rest_over p ps = refl
