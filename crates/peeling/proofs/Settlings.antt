-- The quick planner's settlings: each is one, and they stop only where nothing more can be settled.
-- Assumes nothing.
use Prim.Native.Nat.{ℕ, zero, suc, ◌≤◌, ◌<◌}
use mathlib.Core.Path.{◌≡◌, refl, sym, ap, subst, ◌∙◌}
use mathlib.Core.Bool.{Bool}
use mathlib.Core.List.{List, [], ◌∷◌}
use native.Mathlib.Omega.{arith}
use borrow.Author.Tests.{eq-eqb}
use lib.ListN.{length, length-append, length-take, length-drop}
use Rattle.array.specs.Map.{inner_fault}
use Rattle.array.proofs.Bools.{and_both}
use Rattle.paths.specs.Path.{is_open}
use Rattle.paths.proofs.Ways.{way}
use Rattle.plans.specs.Faults.{faults, fault as fault-with}
use Rattle.plans.specs.declared.Fault.{Fault}
use Rattle.trials.specs.Search.{direction_of}
use Rattle.trials.specs.Completing.{left_in}
use Rattle.trials.proofs.Completing.{is_left}
use Rattle.peeling.specs.Peel.{Pick, settles, stops, pick, peel, left_on, peeled_on, unpeeled_on}
use Rattle.peeling.specs.Settling.{Outer, Peeled, none, more, settled_faults}
use Rattle.peeling.specs.Inner.{without}
use Rattle.peeling.proofs.Picking.{outermost_at, Picked, Picks, picks, nothing_picked}
use Rattle.peeling.proofs.Picking.{left_lists, left_first, left_next}

module _ (n m : ℕ) (grid : List ℕ) where
  abbrev fault : ℕ → Bool
  fault = inner_fault n m grid

  abbrev opens : ℕ → ℕ → Bool
  opens = is_open n m grid

  abbrev left : List Fault → List ℕ
  left = left_on n m grid

  -- these faults are settled
  pub record Reached (kept : List Fault) : Type 0 where
    pub peeled : Peeled fault opens (direction_of kept)
    pub same : settled_faults peeled ≡ kept

  begun : Reached []
  unfolding direction_of
  begun = record { peeled = none; same = refl }

  further : (kept : List Fault) (f d : ℕ) → Reached kept → Picked opens (left kept) f d
      → Reached (fault-with f d ∷ kept)
  unfolding direction_of
  further kept f d r p =
      let i = p.among in
      let lists = left_lists n m grid kept in
      let a = is_left fault (direction_of kept) f
      (ap (left_in fault (direction_of kept)) (sym i.is) ∙ lists.each i.k i.below) in
      record {
        peeled =
            more f d r.peeled
            (record {
              is_fault = a.0;
              free = a.1;
              low = p.low;
              high = p.high;
              outermost = λ q fq z.
                  let x = lists.all q (and_both _ _ fq (eq-eqb (direction_of kept q) 0 z)) in
                  subst (λ (y : ℕ). Outer d f y) x.is
                  (outermost_at d f (left kept) x.k (way d p.low p.high) p.outer x.below);
              open_path = p.open_path;
            });
        same = ap (λ (l : List Fault). fault-with f d ∷ l) r.same;
      }

  peel_reaches : (k : ℕ) (kept : List Fault) → Reached kept → Reached (peel opens left k kept)
  unfolding peel
  peel_reaches zero kept r = r
  peel_reaches (suc k) kept r = by (pick opens (left kept)) (picks opens (left kept)) (peel_reaches k)
    where
      by : (c : Pick) → Picks opens (left kept) c → ((l : List Fault) → Reached l → Reached (peel opens left k l))
          → Reached (elim c [ settles p d ↦ peel opens left k (fault-with p d ∷ kept) | stops ↦ kept ])
      by (settles p d) g go = go (fault-with p d ∷ kept) (further kept p d r g)
      by stops g go = r

  pub reached_on : Reached (peeled_on n m grid)
  unfolding peeled_on
  reached_on = peel_reaches (length (faults n m grid)) [] begun

  -- each settling leaves fewer, so as many settlings as there are faults suffice
  fewer : (kept : List Fault) (f d : ℕ) → Picked opens (left kept) f d
      → length (left (fault-with f d ∷ kept)) < length (left kept)
  fewer kept f d p =
      let i = p.among in
      let l = i.below in
      let e : left (fault-with f d ∷ kept) ≡ without i.k (left kept) =
      ap (λ (q : ℕ). left (fault-with q d ∷ kept)) (sym i.is) ∙ left_next n m grid kept i.k d i.below p.low in
      omega (arith, simp (length-append, length-take, length-drop) at (ap length e))

  peel_stops : (k : ℕ) (kept : List Fault) → length (left kept) ≤ k → pick opens (left (peel opens left k kept)) ≡ stops
  unfolding peel
  peel_stops zero kept h = nothing_picked opens (left kept) h
  peel_stops (suc k) kept h = by (pick opens (left kept)) refl (picks opens (left kept)) (peel_stops k)
    where
      by : (c : Pick) → pick opens (left kept) ≡ c → Picks opens (left kept) c
          → ((l : List Fault) → length (left l) ≤ k → pick opens (left (peel opens left k l)) ≡ stops)
          → pick opens (left (elim c [ settles p d ↦ peel opens left k (fault-with p d ∷ kept) | stops ↦ kept ])) ≡ stops
      by (settles p d) e g go = go (fault-with p d ∷ kept) (omega (arith, fewer kept p d g))
      by stops e g go = e

  pub settled_all : pick opens (unpeeled_on n m grid) ≡ stops
  unfolding peeled_on
  settled_all = peel_stops (length (faults n m grid)) [] (omega (arith, ap length (left_first n m grid)))
