-- What is settled next: the laws of the loop along one side and of the loop over the sides.
-- Assumes nothing.
use Prim.Native.Nat.{ℕ, zero, suc, ◌+◌, ◌-◌, ◌≤◌, ◌<◌}
use mathlib.Core.Path.{◌≡◌, refl, sym, ap, ◌∙◌}
use mathlib.Core.Bool.{Bool, true, false, ◌&&◌}
use mathlib.Core.List.{List}
use native.Mathlib.Numerals.{add-one}
use native.Mathlib.Omega.{arith}
use borrow.Author.Tests.{lt-ltb, le-ltb}
use lib.Dec.{eqb}
use lib.ListN.{length, get_or, drop, drop_of_length-le}
use lib.Seq.{drop-cons}
use Rattle.paths.proofs.Ways.{Way}
use Rattle.peeling.specs.Peel.{outermost, Pick, settles, stops, pick_along, pick}
use Rattle.peeling.specs.Inner.{Positions, depth, Least, or_others, SideSays}
use Rattle.peeling.proofs.Depths.{outermost_least}

module _ (opens : ℕ → ℕ → Bool) (left : List ℕ) (d : ℕ) where
  -- whether the k-th fault left qualifies on the side d
  abbrev pub outward : ℕ → Bool
  outward k = outermost d (get_or left k 0) left && opens (get_or left k 0) d

  -- it does by its depth, where `least` is the least of them, and its path
  pub outward_by : (least k : ℕ) → Way d → Positions left → Least d left (length left) least → k < length left
      → (eqb (depth d (get_or left k 0)) least && opens (get_or left k 0) d) ≡ outward k
  outward_by least k w below s h =
      ap (λ (b : Bool). b && opens (get_or left k 0) d) (sym (outermost_least d left least k w below s h))

  -- the same of a position p that the list holds there, by what was answered of it
  pub outward_asked : (least k : ℕ) {p : ℕ} {r : Bool} → Way d → Positions left → Least d left (length left) least → k < length left
      → p ≡ get_or left k 0 → r ≡ (eqb (depth d p) least && opens p d) → r ≡ outward k
  outward_asked least k w below s h e q =
      q ∙ ap (λ (x : ℕ). eqb (depth d x) least && opens x d) e ∙ outward_by least k w below s h

  -- the invariant of the loop along the side: none of the first k does
  pub record Along (k : ℕ) : Type 0 where
    pub within : k ≤ length left
    pub same : (others : Pick) → pick_along opens left d left others ≡ pick_along opens left d (drop k left) others

  pub along_start : Along 0
  along_start = record { within = omega arith; same = λ others. refl }

module _ {opens : ℕ → ℕ → Bool} {left : List ℕ} {d k : ℕ} (s : Along opens left d k) where
  pub along_pass : k < length left → outward opens left d k ≡ false → Along opens left d (k + 1)
  unfolding pick_along
  along_pass h e =
      record { within = omega arith; same = λ others. s.same others ∙ rw (drop-cons left k 0 h, e, add-one k) }

  pub along_here : k < length left → outward opens left d k ≡ true → SideSays opens left d k
  unfolding pick_along
  along_here h e others = s.same others ∙ rw (drop-cons left k 0 h, e, lt-ltb k (length left) h)

  pub along_none : length left ≤ k → SideSays opens left d (length left)
  unfolding pick_along
  along_none h others = s.same others ∙ rw (drop_of_length-le left h, le-ltb (length left) (length left) (omega arith))

module _ (opens : ℕ → ℕ → Bool) (left : List ℕ) where
  -- what the sides from d down to 1 say
  abbrev pick_from : ℕ → Pick
  pick_from zero = stops
  pick_from (suc d) = pick_along opens left (suc d) left (pick_from d)

  -- the invariant of the loop over the sides
  pub record Sides (d : ℕ) : Type 0 where
    pub high : d ≤ 4
    pub same : pick opens left ≡ pick_from d

  pub sides_start : Sides 4
  sides_start = record { high = omega arith; same = refl }

  from_turn : (d at : ℕ) → 0 < d → SideSays opens left d at → pick_from d ≡ or_others left d at (pick_from (d - 1))
  from_turn zero at h says = absurd (omega arith)
  from_turn (suc d) at h says =
      let z : suc d - 1 ≡ d = omega arith in
      says (pick_from d) ∙ ap (λ (k : ℕ). or_others left (suc d) at (pick_from k)) (sym z)

module _ {opens : ℕ → ℕ → Bool} {left : List ℕ} {d : ℕ} (s : Sides opens left d) where
  pub sides_pass : (at : ℕ) → 0 < d → SideSays opens left d at → length left ≤ at → Sides opens left (d - 1)
  sides_pass at h says l =
      record {
        high = omega (arith, s.high);
        same = s.same ∙ from_turn opens left d at h says ∙ rw (le-ltb at (length left) l);
      }

  pub sides_here : (at : ℕ) → 0 < d → SideSays opens left d at → at < length left
      → pick opens left ≡ settles (get_or left at 0) d
  sides_here at h says l = s.same ∙ from_turn opens left d at h says ∙ rw (lt-ltb at (length left) l)

  pub sides_none : d ≤ 0 → pick opens left ≡ stops
  sides_none h =
      let z : d ≡ 0 = omega arith in
      s.same ∙ ap (pick_from opens left) z
