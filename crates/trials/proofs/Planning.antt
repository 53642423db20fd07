-- The parts of the planner put together: from the listed faults to the search, and from its outcome to the whole direction buffer.
-- Assumes nothing.
use Prim.Native.Nat.{ℕ, ◌≤◌, ◌<◌}
use mathlib.Core.Path.{◌≡◌, sym, subst}
use mathlib.Core.Bool.{true}
use mathlib.Core.List.{List, []}
use native.Mathlib.Omega.{arith}
use lib.ListN.{length, get_or, take}
use Rattle.array.specs.Map.{inner_fault}
use Rattle.array.specs.Buffer.{Ascending}
use Rattle.plans.specs.Faults.{faults}
use Rattle.plans.specs.Inner.{Listed}
use Rattle.plans.proofs.Facts.{fault_hit, hit_inner_fault, faults_rise}
use Rattle.trials.specs.declared.Outcome.{Outcome}
use Rattle.trials.specs.Search.{searched, planned, outcome, directions_written}
use Rattle.trials.specs.Inner.{Searchable, Holds, finished}
use Rattle.trials.proofs.Writing.{first_written}

module _ {n m : ℕ} {grid old out : List ℕ} {count : ℕ} (s : Listed n m grid old out count) where
  pub ready : n ≤ 30 → m ≤ 30 → length grid ≡ 1024 → Searchable n m grid (take count out)
  ready a b g =
      record {
        rows = a;
        columns = b;
        marks = g;
        each =
            subst (λ (fs : List ℕ). (i : ℕ) → i < length fs → inner_fault n m grid (get_or fs i 0) ≡ true) (sym s.front)
            (λ i h. hit_inner_fault n m grid (get_or (faults n m grid) i 0) (fault_hit n m grid i h));
        ascend = subst Ascending (sym s.front) (faults_rise n m grid);
      }

  pub starts_below : length grid ≡ 1024 → (i : ℕ) → i < length (take count out) → get_or (take count out) i 0 < 1024
  starts_below g =
      subst (λ (fs : List ℕ). (i : ℕ) → i < length fs → get_or fs i 0 < 1024) (sym s.front)
      (λ i h. omega (arith, (fault_hit n m grid i h).below))

  pub planned_end : (limit : ℕ) (chosen directions : List ℕ) (o : Outcome)
      → o ≡ outcome limit (searched n m grid [] (take count out))
      → Holds limit (searched n m grid [] (take count out)) (take (length (take count out)) chosen)
      → directions ≡ finished (take count out) (take count chosen) o
      → (o ≡ outcome limit (planned n m grid))
      × (directions ≡ directions_written limit [] (faults n m grid) (planned n m grid))
  unfolding planned
  planned_end limit chosen directions o p h q =
      subst
      (λ (l : List ℕ).
      (o ≡ outcome limit (searched n m grid [] l)) × (directions ≡ directions_written limit [] l (searched n m grid [] l)))
      s.front (p, first_written limit count (take count out) chosen directions _ o s.size p h q)
