-- The clash table serves the plan check: between distinct starts its entry says what tests 6 and 7 say, at every size.
-- Assumes nothing.
use Rattle.std.specs.Prelude.{Ok}
use mathlib.Core.Path.{◌≡◌, sym, ap, subst, ◌∙◌}
use mathlib.Core.Bool.{true}
use mathlib.Core.List.{List}
use Prim.Native.Nat.{ℕ, ◌<◌}
use native.Mathlib.Omega.{arith}
use lib.ListN.{length, get_or}
use Rattle.array.specs.Place.{row, column, inner}
use Rattle.array.specs.Map.{faulty}
use Rattle.array.proofs.Bools.{and_true}
use Rattle.array.proofs.Verdicts.{accepted_not}
use Rattle.array.proofs.Scans.{scan_each}
use Rattle.paths.specs.Path.{is_open, clash, pair_test, refuse_clash, Start}
use Rattle.paths.specs.Table.{class, entry, byte_of}
use Rattle.paths.specs.Inner.{clash_of, PathAt}
use Rattle.paths.proofs.Ways.{start_inner}
use Rattle.paths.proofs.Agreement.{entry_is_clash}
use Rattle.paths.proofs.Entries.{clash_of_byte}
use Rattle.paths.proofs.South.{open_clear_south}
use Rattle.paths.proofs.Clashes.{clear_accepted}
use Rattle.plans.specs.Faults.{faults, fault_at, paired}
use Rattle.plans.specs.Check.{open_test, opens_test, clash_test}
use Rattle.plans.specs.Inner.{Starts, Beside, PathsAt, OpenFaults}
use Rattle.plans.proofs.Pairing.{faults_scan}
use Rattle.plans.proofs.Facts.{fault_hit, hit_inner_fault}

-- what passes test 5 is open
pub opens_passed : (n m : ℕ) (grid starts ds : List ℕ) → length ds ≡ length starts → opens_test n m grid (paired starts ds) ≡ Ok tt
    → (k : ℕ) → k < length starts → is_open n m grid (get_or starts k 0) (get_or ds k 0) ≡ true
opens_passed n m grid starts ds same h k l =
    accepted_not (is_open n m grid (get_or starts k 0) (get_or ds k 0)) 5 (get_or starts k 0) 0
    (scan_each (faults_scan starts ds same (open_test n m grid)) h k l)

-- the inner faults, where their paths have passed it
pub open_faults : {n m : ℕ} {grid starts ds : List ℕ} → Starts n m starts ds → starts ≡ faults n m grid
    → opens_test n m grid (paired starts ds) ≡ Ok tt → OpenFaults n m grid starts ds
open_faults {n} {m} {grid} {starts} {ds} s e h =
    record {
      each =
          subst (λ (fs : List ℕ). (k : ℕ) → k < length fs → faulty grid (get_or fs k 0) ≡ true) (sym e)
          (λ k l.
          let p = get_or (faults n m grid) k 0 in
          (and_true (inner n m p) (faulty grid p) (hit_inner_fault n m grid p (fault_hit n m grid k l))).1);
      opens = opens_passed n m grid starts ds s.same h;
    }

-- a start as the table takes it
pub start_path : {n m p d : ℕ} → Start n m p d → PathAt (row p) (column p) d
start_path t =
    let i = start_inner t in
    record { row_high = omega (arith, t.rows); column_high = omega arith; low = t.low; high = t.high }

-- By the rows and columns that stand beside the starts: a path as the table takes it, and the entry of two paths, which is their clash.
module _ {starts rows columns : List ℕ} (b : Beside starts rows columns) where
  pub path_beside : (k d : ℕ) → k < length starts → PathAt (row (get_or starts k 0)) (column (get_or starts k 0)) d
      → PathAt (get_or rows k 0) (get_or columns k 0) d
  path_beside k d h p = rw (b.row_at k h, b.column_at k h) p

  pub entry_beside : {n m : ℕ} (i j d e : ℕ) → i < length starts → j < length starts → Start n m (get_or starts i 0) d
      → Start n m (get_or starts j 0) e → (get_or starts i 0 ≡ get_or starts j 0 → ⊥)
      → entry d e (class (get_or rows i 0) (get_or rows j 0)) (class (get_or columns i 0) (get_or columns j 0))
      ≡ clash n m (get_or starts i 0) d (get_or starts j 0) e
  entry_beside {n} {m} i j d e h g s t ne =
      rw (b.row_at i h, b.row_at j g, b.column_at i h, b.column_at j g)
      (entry_is_clash n m (get_or starts i 0) d (get_or starts j 0) e s t ne)

module _ {n m : ℕ} {starts ds : List ℕ} (s : Starts n m starts ds) where
  pub starts_paths : PathsAt starts ds
  starts_paths = record { same = s.same; each = λ k h. start_path (s.each k h) }

  module _ (i j : ℕ) (l : i < j) (h : j < length starts) where
    -- what the code makes of the byte it read
    pub byte_is_test : {rows columns : List ℕ} → Beside starts rows columns → (found : ℕ)
        → found
        ≡ byte_of
        (entry (get_or ds i 0) (get_or ds j 0) (class (get_or rows i 0) (get_or rows j 0)) (class (get_or columns i 0) (get_or columns j 0)))
        → refuse_clash (get_or starts i 0) (get_or starts j 0) (clash_of found) ≡ clash_test n m (fault_at starts ds i) (fault_at starts ds j)
    unfolding pair_test
    byte_is_test b found e =
        let g : i < length starts = omega arith in
        let distinct : get_or starts i 0 ≡ get_or starts j 0 → ⊥ = λ z. omega (arith, z, s.ascend i j l h) in
        ap (refuse_clash (get_or starts i 0) (get_or starts j 0))
        (ap clash_of e ∙ clash_of_byte _ ∙ entry_beside b i j (get_or ds i 0) (get_or ds j 0) g h (s.each i g) (s.each j h) distinct)

    -- a later path that goes south is clear of an open one
    pub south_accepted : {grid : List ℕ} → OpenFaults n m grid starts ds → get_or ds j 0 ≡ 1
        → (Ok tt) ≡ clash_test n m (fault_at starts ds i) (fault_at starts ds j)
    south_accepted {grid} o e =
        let g : i < length starts = omega arith in
        let p = get_or starts i 0 in
        let q = get_or starts j 0 in
        let t = rw e at (s.each j h) in
        rw e
        (sym
        (clear_accepted n m p (get_or ds i 0) q 1
        (open_clear_south n m p (get_or ds i 0) q grid (s.each i g) t (o.opens i g) (o.each j h) (s.ascend i j l h))))
