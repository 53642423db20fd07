-- The parts of the quick planner put together: the settled faults, the search over the rest, and the direction buffer.
-- Assumes nothing.
use Rattle.peeling.specs.declared.Settled.{Settled}
use Rattle.peeling.proofs.Fields.{of_length, of_take}
use Prim.Native.Nat.{ℕ, ◌-◌, ◌≤◌, ◌<◌}
use mathlib.Core.Path.{◌≡◌, refl, ap, sym, subst, ◌∙◌}
use mathlib.Core.List.{List, [], ◌++◌}
use native.Mathlib.Omega.{arith}
use lib.ListN.{length, take, length-append}
use lib.Seq.{length-take-le, take-append-le}
use Rattle.plans.specs.declared.Fault.{Fault}
use Rattle.trials.specs.Search.{searched, outcome, directions_written}
use Rattle.trials.specs.Inner.{kept_in, Searchable, Holds, finished}
use Rattle.trials.specs.declared.Outcome.{Outcome}
use Rattle.trials.proofs.Looping.{kept_same}
use Rattle.trials.proofs.Writing.{first_written}
use Rattle.peeling.specs.Peel.{peeled_on, unpeeled_on, quick_planned}
use Rattle.peeling.specs.Inner.{Split, positions, directions, held_faults, Positions, completed_by}
use Rattle.peeling.proofs.Looping.{left_searchable}
use Rattle.peeling.proofs.Held.{completed_written}
use Rattle.peeling.proofs.Unhindered.{unhindered_on}

module _ {n m : ℕ} {grid left held ways : List ℕ} {settled : ℕ} (s : Split n m grid left held ways settled) where
  -- The rest, in front of a longer buffer.
  module _ (count : ℕ) (long : length left ≡ count) (tail : List ℕ) where
    abbrev starts : List ℕ
    starts = take (count - settled) (left ++ tail)

    pub starts_fit : count - settled ≤ length (left ++ tail)
    starts_fit = omega (arith, length-append left tail)

    pub starts_size : length starts ≡ count - settled
    starts_size = length-take-le (count - settled) (left ++ tail) starts_fit

    pub starts_short : count ≤ 1024 → length starts ≤ 1024
    starts_short h = omega (arith, starts_size)

    -- as many of the directions chosen
    pub starts_room : (chosen : List ℕ) → count - settled ≤ length chosen
        → length starts ≤ length (take (count - settled) chosen)
    starts_room chosen h = omega (arith, starts_size, length-take-le (count - settled) chosen h)

    pub starts_are : starts ≡ unpeeled_on n m grid
    starts_are =
        take-append-le (count - settled) left tail (omega arith)
        ∙ ap (λ (k : ℕ). take (k - settled) left) (sym long)
        ∙ s.rest

    pub starts_searchable : n ≤ 30 → m ≤ 30 → length grid ≡ 1024 → Searchable n m grid starts
    starts_searchable a b g =
        subst (Searchable n m grid) (sym starts_are) (left_searchable n m grid a b g (peeled_on n m grid))

-- The settled faults, in front of a longer array.
module _ {n m : ℕ} {grid left : List ℕ} (held : List Settled) {settled : ℕ}
    (s : Split n m grid left (positions held) (directions held) settled) (room : settled ≤ length held) where
  as_many : length (positions (take settled held)) ≡ settled
  as_many = of_length (λ (f : Settled). f.position) refl (take settled held) ∙ length-take-le settled held room

  pub held_low : Positions (positions (take settled held))
  held_low i a =
      let z : i < settled = omega (arith, as_many) in
      omega (arith, of_take (λ (f : Settled). f.position) refl held settled i z, s.below i z)

  pub held_are : held_faults (take settled held) ≡ peeled_on n m grid
  held_are =
      ap (kept_in (positions (take settled held)) (directions (take settled held))) as_many
      ∙ kept_same _ (positions held) _ (directions held) settled
      (of_take (λ (f : Settled). f.position) refl held settled)
      (of_take (λ (f : Settled). f.direction) refl held settled)
      ∙ s.kept

-- What the parts have answered and written.
module _ (n m : ℕ) (grid starts : List ℕ) (kept : List Fault) (limit k : ℕ) (chosen found_in directions : List ℕ)
    (o : Outcome) where
  pub quick_end : n ≤ 30 → m ≤ 30 → starts ≡ unpeeled_on n m grid → kept ≡ peeled_on n m grid → k ≡ length starts
      → o ≡ outcome limit (searched n m grid [] starts)
      → Holds limit (searched n m grid [] starts) (take (length starts) chosen)
      → found_in ≡ finished starts (take k chosen) o → directions ≡ completed_by kept found_in o
      → (o ≡ outcome limit (quick_planned n m grid))
      × (directions ≡ directions_written limit (peeled_on n m grid) (unpeeled_on n m grid) (quick_planned n m grid))
  quick_end a b rest settled z p h q r =
      let t = searched n m grid [] starts in
      let same : t ≡ quick_planned n m grid = ap (searched n m grid []) rest ∙ sym (unhindered_on n m grid a b) in (
        p ∙ ap (outcome limit) same,
        r
            ∙ (λ i. completed_by kept (first_written limit k starts chosen found_in t o z p h q i) (p i))
            ∙ completed_written limit kept starts t
            ∙ (λ i. directions_written limit (settled i) (rest i) (same i)),
      )
