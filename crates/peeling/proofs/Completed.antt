-- The direction buffer of the settled faults and of those that the trials then found.
-- Assumes nothing.
use Rattle.std.specs.Prelude.{Ok}
use Prim.Native.Nat.{ℕ, ◌<◌}
use mathlib.Core.Path.{◌≡◌, refl, sym, ap, subst, ◌∙◌}
use mathlib.Core.Bool.{Bool, true, false, cond, false≢true}
use mathlib.Core.List.{List, ◌++◌}
use native.Mathlib.Omega.{arith}
use borrow.Author.Tests.{ne_eqb}
use lib.Dec.{eqb}
use lib.ListN.{length, get_or}
use lib.Seq.{ext_get_or}
use Rattle.array.specs.Place.{inner}
use Rattle.array.specs.Map.{inner_fault, well_formed}
use Rattle.array.proofs.Bools.{and_true}
use Rattle.array.proofs.Fills.{tabulate_length, tabulate_at}
use Rattle.array.proofs.Formed.{formed}
use Rattle.array.proofs.Marks.{faulty_below}
use Rattle.paths.specs.Path.{is_open, clear}
use Rattle.plans.specs.Faults.{faults, paired, directions_at}
use Rattle.plans.specs.Check.{HoldsPlan}
use Rattle.plans.specs.declared.Fault.{Fault}
use Rattle.plans.proofs.ByPosition.{faults_list, clear_either, on_plan}
use Rattle.plans.proofs.Pairing.{directions_length, direction_at}
use Rattle.trials.specs.Trials.{found}
use Rattle.trials.specs.Search.{direction_of, searched}
use Rattle.trials.specs.Completing.{joined, KeepsSettled, Completes}
use Rattle.trials.proofs.Completing.{is_left, kept_completed}
use Rattle.trials.proofs.Plans.{found_sound}
use Rattle.trials.proofs.Written.{direction_there, direction_nowhere}
use Rattle.peeling.specs.Peel.{peeled_on, unpeeled_on, quick_planned}
use Rattle.peeling.specs.Settling.{Peeled, none, more, settled_faults}
use Rattle.peeling.specs.Theorems.{completed}
use Rattle.peeling.proofs.Exchange.{settle_off, kept_settled, peeled_plan, outward_clears_on}
use Rattle.peeling.proofs.Picking.{left_lists}
use Rattle.peeling.proofs.Settlings.{reached_on}

module _ {fault : ℕ → Bool} {opens : ℕ → ℕ → Bool} where
  -- no direction is settled elsewhere than at a fault
  settled_fault : {part : ℕ → ℕ} → Peeled fault opens part → (p : ℕ) → fault p ≡ false → part p ≡ 0
  settled_fault none p h = refl
  settled_fault (more {part = part} f d s o) p h =
      settle_off part f d p (λ e. false≢true (sym h ∙ ap fault e ∙ o.is_fault)) ∙ settled_fault s p h

  -- the list of the settled faults, with others after it, by position
  kept_joined : {part : ℕ → ℕ} (s : Peeled fault opens part) (ps xs : List ℕ) (p : ℕ)
      → direction_of (settled_faults s ++ paired ps xs) p ≡ joined part ps xs p
  unfolding direction_of
  kept_joined none ps xs p = refl
  kept_joined (more {part = part} f d s o) ps xs p = by (eqb p f) (kept_joined s ps xs p)
    where
      by : (b : Bool) → direction_of (settled_faults s ++ paired ps xs) p ≡ joined part ps xs p
          → cond b d (direction_of (settled_faults s ++ paired ps xs) p)
          ≡ cond (eqb (cond b d (part p)) 0) (direction_of (paired ps xs) p) (cond b d (part p))
      by true h = rw (ne_eqb d 0 (λ z. omega (arith, o.low)))
      by false h = h

-- A map.
module _ (n m : ℕ) (grid : List ℕ) where
  abbrev kept : List Fault
  kept = peeled_on n m grid

  abbrev ps : List ℕ
  ps = unpeeled_on n m grid

  -- the direction at each position
  abbrev dir : List ℕ → ℕ → ℕ
  dir xs = direction_of (kept ++ paired ps xs)

  joined_on : (xs : List ℕ) (p : ℕ) → dir xs p ≡ joined (direction_of kept) ps xs p
  joined_on xs p =
      let r = reached_on n m grid in
      ap (λ (l : List Fault). direction_of (l ++ paired ps xs) p) (sym r.same) ∙ kept_joined r.peeled ps xs p

  left_fault : (k : ℕ) → k < length ps
      → (inner_fault n m grid (get_or ps k 0) ≡ true) × (direction_of kept (get_or ps k 0) ≡ 0)
  left_fault k l = is_left (inner_fault n m grid) (direction_of kept) (get_or ps k 0) ((left_lists n m grid kept).each k l)

  fault_in : (p : ℕ) → length grid ≡ 1024 → inner_fault n m grid p ≡ true → p < 1024
  fault_in p long h = omega (arith, faulty_below grid p (and_true (inner n m p) _ h).1)

  keeps_on : KeepsSettled (inner_fault n m grid) (direction_of kept) kept
  keeps_on =
      let r = reached_on n m grid in
      subst (λ (l : List Fault). KeepsSettled (inner_fault n m grid) (direction_of kept) l) r.same
      (kept_settled (inner_fault n m grid) (is_open n m grid) r.peeled)

  -- what the trials over the rest give
  pub completes_on : well_formed n m grid ≡ Ok tt
      → Completes (inner_fault n m grid) (is_open n m grid) (clear n m) (direction_of kept) kept ps
  completes_on map =
      let s = (formed n m grid map).sizes in
      let round = clear_either n m grid in
      kept_completed (inner_fault n m grid) (is_open n m grid) (clear n m) (direction_of kept) kept ps round
      (peeled_plan (outward_clears_on n m grid s.rows_high s.columns_high) round (reached_on n m grid).peeled)
      keeps_on (left_lists n m grid kept)

  -- Of a well-formed map, where the trials find these directions.
  module _ (map : well_formed n m grid ≡ Ok tt) (k : ℕ) (xs : List ℕ) (e : quick_planned n m grid ≡ found k xs) where
    long : length grid ≡ 1024
    long = (formed n m grid map).length_is

    one_each : length xs ≡ length ps
    unfolding quick_planned searched
    one_each = (found_sound (is_open n m grid) (clear n m) kept ps k xs e).along.chosen.one_each

    pub rest_again : directions_at (completed n m grid xs) ps ≡ xs
    rest_again =
        ext_get_or 0 (directions_at (completed n m grid xs) ps) xs
        (directions_length (completed n m grid xs) ps ∙ sym one_each)
        (λ j h.
        let l : j < length ps = omega (arith, directions_length (completed n m grid xs) ps) in
        let p = get_or ps j 0 in
        let a = left_fault j l in
        direction_at (completed n m grid xs) ps j l ∙ tabulate_at (dir xs) 1024 p 0 (fault_in p long a.0)
        ∙ joined_on xs p ∙ rw a.1 (direction_there ps xs j one_each (left_lists n m grid kept).once l))

    elsewhere : (p : ℕ) → inner_fault n m grid p ≡ false → dir xs p ≡ 0
    elsewhere p f =
        joined_on xs p
        ∙ rw (
          settled_fault (reached_on n m grid).peeled p f,
          direction_nowhere ps xs p
              (λ j l z. false≢true (sym f ∙ ap (inner_fault n m grid) (sym z) ∙ (left_fault j l).0)),
        )

    pub holds_completed : HoldsPlan n m grid (completed n m grid xs)
    unfolding quick_planned searched
    holds_completed =
        let directions = completed n m grid xs in
        let fs = faults n m grid in
        record {
          map = map;
          length_right = tabulate_length (dir xs) 1024;
          plan =
              on_plan n m grid (directions_at directions fs) (joined (direction_of kept) ps xs)
              (directions_length directions fs)
              (λ j l.
              let p = get_or fs j 0 in
              direction_at directions fs j l
              ∙ tabulate_at (dir xs) 1024 p 0 (fault_in p long ((faults_list n m grid).each j l)) ∙ joined_on xs p)
              ((completes_on map).completed k xs e);
          elsewhere = λ p l f. tabulate_at (dir xs) 1024 p 0 l ∙ elsewhere p f;
        }
