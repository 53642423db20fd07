-- What the passed tests say of the faults, for the paths' tests.
-- Assumes nothing.
use mathlib.Core.Path.{◌≡◌, sym, ap, subst, ◌∙◌}
use mathlib.Core.Bool.{Bool, true, false, ◌&&◌, ◌||◌}
use mathlib.Core.List.{List, ◌++◌}
use Prim.Native.Nat.{ℕ, ◌+◌, ◌<◌, ◌≤◌}
use native.Mathlib.Omega.{arith}
use borrow.Author.Tests.{ltb-false, eqb-false}
use lib.Dec.{eqb, ltb}
use lib.ListN.{length, get_or, take, drop, length-append}
use lib.Seq.{take_at, drop_at}
use Rattle.array.specs.Place.{inner}
use Rattle.array.specs.Buffer.{Ascending}
use Rattle.array.specs.Map.{inner_faulty, inner_fault}
use Rattle.array.proofs.Bools.{and_true, or_false, by_lt}
use Rattle.array.proofs.Verdicts.{accepted_false}
use Rattle.array.proofs.Scans.{buffer_scan, scan_each}
use Rattle.array.proofs.Filters.{Hit, position_at, positions_short}
use Rattle.array.proofs.Marks.{inner_fault_read}
use Rattle.array.proofs.Positions.{positions_rise}
use Rattle.paths.specs.Path.{Start}
use Rattle.plans.specs.Faults.{faults, directions_at}
use Rattle.plans.specs.Check.{wrong_direction, direction_test}
use Rattle.plans.specs.Inner.{Listed, Starts, Directed}
use Rattle.plans.proofs.Pairing.{directions_length, direction_at}

-- no position stands twice in an ascending list
pub ascending_distinct : (ps : List ℕ) → Ascending ps → (i j : ℕ) → (i ≡ j → ⊥) → i < length ps → j < length ps
    → get_or ps i 0 ≡ get_or ps j 0 → ⊥
ascending_distinct ps up i j ne h l e =
    by_lt i j (λ a. omega (arith, up i j a l)) (λ a. omega (arith, up j i (omega arith) h))

-- a direction that is not wrong at a fault
right_at_fault : (fault : Bool) (d : ℕ) → fault ≡ true → wrong_direction fault d ≡ false → (1 ≤ d) × (d ≤ 4)
right_at_fault fault d f h =
    let x = or_false (ltb 4 d || (fault && eqb d 0)) _ h in
    let y = or_false (ltb 4 d) _ x.0 in
    let z : eqb d 0 ≡ false = ap (λ (t : Bool). t && eqb d 0) (sym f) ∙ y.1 in
    let u : d ≡ 0 → ⊥ = eqb-false d 0 z in
    let v : d ≤ 4 = ltb-false 4 d y.0 in
    (omega arith, v)

-- the k-th fault is an inner position marked 1
pub fault_hit : (n m : ℕ) (grid : List ℕ) (k : ℕ) → k < length (faults n m grid)
    → Hit (inner_faulty n m) grid (get_or (faults n m grid) k 0)
unfolding faults
fault_hit n m grid k h = position_at (inner_faulty n m) grid k h

pub faults_rise : (n m : ℕ) (grid : List ℕ) → Ascending (faults n m grid)
unfolding faults
faults_rise n m grid = positions_rise (inner_faulty n m) grid

pub faults_short : (n m : ℕ) (grid : List ℕ) → length (faults n m grid) ≤ length grid
unfolding faults
faults_short n m grid = positions_short (inner_faulty n m) grid

-- a buffer whose front lists the faults
pub listing : {n m : ℕ} {grid old new : List ℕ} {count : ℕ} → length grid ≡ 1024 → count ≡ length (faults n m grid)
    → new ≡ faults n m grid ++ drop count old → Listed n m grid old new count
listing {n} {m} {grid} {old} {new} {count} g c e =
    let f = ap (take count) e ∙ take_at (faults n m grid) (drop count old) count (sym c) in
    let l : length new ≡ length (faults n m grid) + length (drop count old) = ap length e ∙ length-append (faults n m grid) (drop count old) in
    record {
      front = f;
      rest = ap (drop count) e ∙ drop_at (faults n m grid) (drop count old) count (sym c);
      size = c ∙ sym (ap length f);
      fits = omega arith;
      short = omega (arith, faults_short n m grid);
    }

pub hit_inner_fault : (n m : ℕ) (grid : List ℕ) (p : ℕ) → Hit (inner_faulty n m) grid p → inner_fault n m grid p ≡ true
hit_inner_fault n m grid p x = inner_fault_read n m grid p x.below ∙ x.passes

pub fault_below : (n m : ℕ) (grid : List ℕ) → length grid ≡ 1024 → (k : ℕ) → k < length (faults n m grid)
    → get_or (faults n m grid) k 0 < 1024
fault_below n m grid e k h = omega (arith, (fault_hit n m grid k h).below)

module _ (n m : ℕ) (grid directions : List ℕ) (t : Directed n m grid directions) where
  fault_start : (k : ℕ) → k < length (faults n m grid)
      → Start n m (get_or (faults n m grid) k 0) (get_or directions (get_or (faults n m grid) k 0) 0)
  fault_start k h =
      let p = get_or (faults n m grid) k 0 in
      let d = get_or directions p 0 in
      let x = fault_hit n m grid k h in
      let l : p < length directions = omega (arith, fault_below n m grid t.sound.grid_long k h, t.sound.directions_long) in
      let f = hit_inner_fault n m grid p x in
      let w = accepted_false (wrong_direction (inner_fault n m grid p) d) 4 p 0
      (scan_each (buffer_scan (direction_test n m grid) directions) t.right p l) in
      let r = right_at_fault (inner_fault n m grid p) d f w in
      record {
        rows = t.sound.rows;
        columns = t.sound.columns;
        at = (and_true (inner n m p) _ x.passes).0;
        low = r.0;
        high = r.1;
      }

  pub fault_starts : Starts n m (faults n m grid) (directions_at directions (faults n m grid))
  fault_starts =
      record {
        same = directions_length directions (faults n m grid);
        each = λ k h.
            subst (λ (d : ℕ). Start n m (get_or (faults n m grid) k 0) d) (sym (direction_at directions (faults n m grid) k h))
            (fault_start k h);
        ascend = faults_rise n m grid;
      }
