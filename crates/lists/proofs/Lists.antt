-- Lists of faults: the test 4 by index, and what it says where it refuses nothing.
-- Assumes nothing.
use Rattle.std.specs.Prelude.{Ok}
use mathlib.Core.Path.{◌≡◌, refl, sym, ap, subst, ◌∙◌}
use mathlib.Core.Bool.{false, not, ◌||◌}
use mathlib.Core.List.{List, [], ◌∷◌}
use Prim.Native.Nat.{ℕ, zero, suc, ◌+◌, ◌<◌, ◌≤◌}
use native.Mathlib.Numerals.{add-one}
use native.Mathlib.Nat.{le_of_suc-le-suc, not-suc-le-zero}
use native.Mathlib.Omega.{arith}
use borrow.Author.Tests.{le-ltb, ltb-false, eqb-true, eqb-false, eq-eqb, ne_eqb, not-false}
use lib.Dec.{ltb, eqb}
use lib.ListN.{length, get_or, set, take, drop, drop_of_length-le}
use lib.Seq.{drop-cons, take_all, take-suc, take-suc-set}
use Rattle.array.specs.Place.{inner}
use Rattle.array.specs.Tests.{or_else, refuse}
use Rattle.array.specs.Tests.{Verdict}
use Rattle.array.proofs.Bools.{and_true, or_false, by_lt}
use Rattle.array.proofs.Places.{inner_holds}
use Rattle.array.proofs.Verdicts.{both_accepted, accept_both, accepted_false, false_accepted}
use Rattle.plans.specs.Faults.{faults, fault, paired}
use Rattle.plans.specs.Inner.{Starts}
use Rattle.plans.specs.declared.Fault.{Fault}
use Rattle.plans.proofs.Facts.{fault_hit, faults_rise}
use Rattle.lists.specs.FaultList.{lower, wrong_entry, entry_test, listed_test, positions_of, directions_of, FaultStarts}

-- The test 4 by index: what is left of it from index k on.
abbrev pub listed_from : List ℕ → List Fault → ℕ → Verdict
listed_from ps fs k = listed_test (drop k ps) (drop k fs)

module _ (ps : List ℕ) (fs : List Fault) (x : Fault) (k : ℕ) where
  pub listed_turn : k < length ps → k < length fs
      → listed_from ps fs k ≡ or_else (entry_test (get_or ps k 0) (get_or fs k x)) (listed_from ps fs (k + 1))
  unfolding listed_test
  listed_turn h l = rw (drop-cons ps k 0 h, drop-cons fs k x l, add-one k)

  pub listed_missing : k < length ps → length fs ≤ k → listed_from ps fs k ≡ refuse 4 (get_or ps k 0) 0
  unfolding listed_test
  listed_missing h l = rw (drop-cons ps k 0 h, drop_of_length-le fs l)

  pub listed_beyond : length ps ≤ k → k < length fs → listed_from ps fs k ≡ refuse 4 (get_or fs k x).position 0
  unfolding listed_test
  listed_beyond h l = rw (drop_of_length-le ps h, drop-cons fs k x l)

-- the same where the two of the k-th pair are named
pub pair_turn : (ps : List ℕ) (fs : List Fault) (k : ℕ) {p : ℕ} {f : Fault} → k < length ps → k < length fs
    → p ≡ get_or ps k 0 → f ≡ get_or fs k (fault 0 0) → listed_from ps fs k ≡ or_else (entry_test p f) (listed_from ps fs (k + 1))
pair_turn ps fs k h l e g = rw (e, g) (listed_turn ps fs (fault 0 0) k h l)

pub listed_end : (ps : List ℕ) (fs : List Fault) (k : ℕ) → length ps ≤ k → length fs ≤ k → listed_from ps fs k ≡ Ok tt
unfolding listed_test
listed_end ps fs k h l = rw (drop_of_length-le ps h, drop_of_length-le fs l)

-- An entry that is not wrong, and the other way round.
pub record RightEntry (p q d : ℕ) : Type 0 where
  pub same : q ≡ p
  pub low : 1 ≤ d
  pub high : d ≤ 4

right_entry : (p q d : ℕ) → wrong_entry p q d ≡ false → RightEntry p q d
right_entry p q d h =
    let a = or_false (not (eqb q p)) (eqb d 0 || ltb 4 d) h in
    let b = or_false (eqb d 0) (ltb 4 d) a.1 in
    let z = eqb-false d 0 b.0 in
    record { same = eqb-true q p (not-false (eqb q p) a.0); low = omega arith; high = ltb-false 4 d b.1 }

entry_right : (p q d : ℕ) → q ≡ p → 1 ≤ d → d ≤ 4 → wrong_entry p q d ≡ false
entry_right p q d e l h =
    let a = eq-eqb q p e in
    let b : eqb d 0 ≡ false = ne_eqb d 0 (λ z. omega arith) in
    rw (a, b, le-ltb 4 d h)

-- a listed fault that passes 4
entry_passes : (p : ℕ) (ps : List ℕ) (f : Fault) (fs : List Fault) → listed_test (p ∷ ps) (f ∷ fs) ≡ Ok tt
    → RightEntry p f.position f.direction × (listed_test ps fs ≡ Ok tt)
unfolding listed_test
entry_passes p ps f fs h =
    let a = both_accepted (entry_test p f) (listed_test ps fs) h in
    (right_entry p f.position f.direction (accepted_false (wrong_entry p f.position f.direction) 4 (lower p f.position) 0 a.0), a.1)

-- a list that passes 4 has the inner faults' positions and as many directions, each 1 to 4; and such a list passes
pub listed_positions : (ps : List ℕ) (fs : List Fault) → listed_test ps fs ≡ Ok tt → positions_of fs ≡ ps
unfolding listed_test
listed_positions [] [] h = refl
listed_positions [] (f ∷ fs) h = let z : ◌≡◌ {A = ℕ} 0 1 = cc in absurd (omega arith)
listed_positions (p ∷ ps) [] h = let z : ◌≡◌ {A = ℕ} 0 1 = cc in absurd (omega arith)
listed_positions (p ∷ ps) (f ∷ fs) h =
    let a = entry_passes p ps f fs h in
    rw (a.0.same, listed_positions ps fs a.1)

pub listed_straight : (ps : List ℕ) (fs : List Fault) → listed_test ps fs ≡ Ok tt → (k : ℕ) → k < length ps
    → (1 ≤ get_or (directions_of fs) k 0) × (get_or (directions_of fs) k 0 ≤ 4)
unfolding listed_test
listed_straight [] fs h k l = absurd (not-suc-le-zero l)
listed_straight (p ∷ ps) [] h k l = let z : ◌≡◌ {A = ℕ} 0 1 = cc in absurd (omega arith)
listed_straight (p ∷ ps) (f ∷ fs) h zero l = let a = (entry_passes p ps f fs h).0 in (a.low, a.high)
listed_straight (p ∷ ps) (f ∷ fs) h (suc k) l = listed_straight ps fs (entry_passes p ps f fs h).1 k (le_of_suc-le-suc l)

pub straight_listed : (ps ds : List ℕ) → length ds ≡ length ps
    → ((k : ℕ) → k < length ps → (1 ≤ get_or ds k 0) × (get_or ds k 0 ≤ 4)) → listed_test ps (paired ps ds) ≡ Ok tt
unfolding listed_test paired
straight_listed [] ds e h = refl
straight_listed (p ∷ ps) [] e h = absurd (omega arith)
straight_listed (p ∷ ps) (d ∷ ds) e h =
    let a = h 0 (omega arith) in
    accept_both (false_accepted 4 (lower p p) 0 (entry_right p p d refl a.0 a.1))
    (straight_listed ps ds (omega arith) (λ k l. h (suc k) (omega arith)))

-- The two lists of a list of faults.
pub positions_length : (fs : List Fault) → length (positions_of fs) ≡ length fs
positions_length [] = refl
positions_length (f ∷ fs) = ap suc (positions_length fs)

pub directions_as_many : (fs : List Fault) → length (directions_of fs) ≡ length (positions_of fs)
directions_as_many [] = refl
directions_as_many (f ∷ fs) = ap suc (directions_as_many fs)

pub paired_of : (fs : List Fault) → paired (positions_of fs) (directions_of fs) ≡ fs
unfolding paired
paired_of [] = refl
paired_of (f ∷ fs) = ap (λ (l : List Fault). f ∷ l) (paired_of fs)

pub directions_length : (fs : List Fault) → length (directions_of fs) ≡ length fs
directions_length fs = directions_as_many fs ∙ positions_length fs

direction_there : (fs : List Fault) (k : ℕ) (x : Fault) → k < length fs → get_or (directions_of fs) k 0 ≡ (get_or fs k x).direction
direction_there [] k x h = absurd (not-suc-le-zero h)
direction_there (f ∷ fs) zero x h = refl
direction_there (f ∷ fs) (suc k) x h = direction_there fs k x (le_of_suc-le-suc h)

-- one direction more is written
pub directions_more : (fs : List Fault) (xs : List ℕ) (k : ℕ) (x : Fault) → k < length fs → k < length xs
    → take k xs ≡ take k (directions_of fs) → take (k + 1) (set xs k (get_or fs k x).direction) ≡ take (k + 1) (directions_of fs)
directions_more fs xs k x h l e =
    rw (add-one k, take-suc-set xs k (get_or fs k x).direction l, e, ← direction_there fs k x h)
    (sym (take-suc (directions_of fs) k 0 (omega (arith, directions_length fs))))

-- all of them are
pub all_written : (fs : List Fault) (xs : List ℕ) (k : ℕ) → length fs ≤ k → k ≤ length fs
    → take k xs ≡ take k (directions_of fs) → take (length fs) xs ≡ directions_of fs
all_written fs xs k h l e =
    let z : k ≡ length fs = omega arith in
    subst (λ (j : ℕ). take j xs ≡ take j (directions_of fs)) z e
    ∙ take_all (length fs) (directions_of fs) (omega (arith, directions_length fs))

-- a list that passes is its positions with its directions
pub listed_paired : (ps : List ℕ) (fs : List Fault) → listed_test ps fs ≡ Ok tt → paired ps (directions_of fs) ≡ fs
listed_paired ps fs h = ap (λ (l : List ℕ). paired l (directions_of fs)) (sym (listed_positions ps fs h)) ∙ paired_of fs

-- the paths' tests may begin at a list that passes 4
pub list_starts : (n m : ℕ) (grid : List ℕ) {starts : List ℕ} → n ≤ 30 → m ≤ 30 → FaultStarts n m grid starts → (fs : List Fault)
    → listed_test starts fs ≡ Ok tt → Starts n m starts (directions_of fs)
list_starts n m grid a b s fs h =
    rw s (starts_of (rw s at h))
  where
    starts_of : listed_test (faults n m grid) fs ≡ Ok tt → Starts n m (faults n m grid) (directions_of fs)
    starts_of h = record {
      same = directions_as_many fs ∙ ap length (listed_positions (faults n m grid) fs h);
      each = λ k l.
          let x = fault_hit n m grid k l in
          let d = listed_straight (faults n m grid) fs h k l in
          record { rows = a; columns = b; at = (and_true (inner n m (get_or (faults n m grid) k 0)) _ x.passes).0; low = d.0; high = d.1 };
      ascend = faults_rise n m grid;
    }

-- There are fewer than 1,024 inner faults, since none stands at 0.
fault_above : (n m : ℕ) (grid : List ℕ) (k : ℕ) → k < length (faults n m grid) → k < get_or (faults n m grid) k 0
fault_above n m grid zero h =
    let p = get_or (faults n m grid) 0 0 in
    let x = inner_holds n m p (and_true (inner n m p) _ (fault_hit n m grid 0 h).passes).0 in
    omega (arith, x.row_low)
fault_above n m grid (suc k) h =
    omega (arith, fault_above n m grid k (omega arith), faults_rise n m grid k (suc k) (omega arith) h)

pub faults_few : (n m : ℕ) (grid : List ℕ) → length grid ≡ 1024 → length (faults n m grid) < 1024
faults_few n m grid e =
    by_lt (length (faults n m grid)) 1024 (λ h. h)
    (λ h. absurd (omega (arith, fault_above n m grid 1023 (omega arith), (fault_hit n m grid 1023 (omega arith)).below)))

-- a list that passes 4 has as many faults as the map, fewer than 1,024
pub listed_as_many : (ps : List ℕ) (fs : List Fault) → listed_test ps fs ≡ Ok tt → length fs ≡ length ps
listed_as_many ps fs h = sym (positions_length fs) ∙ ap length (listed_positions ps fs h)

pub starts_few : (n m : ℕ) (grid : List ℕ) {starts : List ℕ} → length grid ≡ 1024 → FaultStarts n m grid starts
    → length starts < 1024
starts_few n m grid e s = omega (arith, ap length s, faults_few n m grid e)
