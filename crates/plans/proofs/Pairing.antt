-- Faults given by a list of positions and a list of directions: their scans by index.
-- Assumes nothing.
use Rattle.std.specs.Prelude.{Ok}
use mathlib.Core.Path.{◌≡◌, refl, sym, ap, ◌∙◌}
use mathlib.Core.List.{List, [], ◌∷◌}
use Prim.Native.Nat.{ℕ, zero, suc, ◌+◌, ◌<◌, ◌≤◌}
use native.Mathlib.Numerals.{add-one}
use native.Mathlib.Nat.{le_of_suc-le-suc, not-suc-le-zero}
use native.Mathlib.Omega.{arith}
use lib.ListN.{length, get_or, drop, drop_of_length-le}
use lib.Seq.{drop-cons, ext_get_or}
use Rattle.array.specs.Tests.{or_else, first_of}
use Rattle.array.specs.Tests.{Verdict}
use Rattle.array.specs.Buffer.{tabulate}
use Rattle.array.proofs.Scans.{Scan, list_scan}
use Rattle.array.proofs.Fills.{tabulate_length, tabulate_at}
use Rattle.plans.specs.Faults.{fault, fault_at, paired, directions_at}
use Rattle.plans.specs.Check.{clash_test, pairs_test}
use Rattle.plans.specs.declared.Fault.{Fault}

pub paired_length : (ps ds : List ℕ) → length ds ≡ length ps → length (paired ps ds) ≡ length ps
unfolding paired
paired_length [] ds h = refl
paired_length (p ∷ ps) [] h = absurd (omega arith)
paired_length (p ∷ ps) (d ∷ ds) h = ap suc (paired_length ps ds (omega arith))

pub paired_at : (ps ds : List ℕ) (k : ℕ) (x : Fault) → length ds ≡ length ps → k < length ps
    → get_or (paired ps ds) k x ≡ fault_at ps ds k
unfolding paired
paired_at [] ds k x h l = absurd (not-suc-le-zero l)
paired_at (p ∷ ps) [] k x h l = absurd (omega arith)
paired_at (p ∷ ps) (d ∷ ds) zero x h l = refl
paired_at (p ∷ ps) (d ∷ ds) (suc k) x h l = paired_at ps ds k x (omega arith) (le_of_suc-le-suc l)

pub directions_length : (directions ps : List ℕ) → length (directions_at directions ps) ≡ length ps
unfolding directions_at
directions_length directions [] = refl
directions_length directions (p ∷ ps) = ap suc (directions_length directions ps)

pub direction_at : (directions ps : List ℕ) (k : ℕ) → k < length ps
    → get_or (directions_at directions ps) k 0 ≡ get_or directions (get_or ps k 0) 0
unfolding directions_at
direction_at directions [] k h = absurd (not-suc-le-zero h)
direction_at directions (p ∷ ps) zero h = refl
direction_at directions (p ∷ ps) (suc k) h = direction_at directions ps k (le_of_suc-le-suc h)

module _ (ps ds : List ℕ) (same : length ds ≡ length ps) where
  -- one test of each fault
  pub faults_scan : (f : Fault → Verdict)
      → Scan (λ i. f (fault_at ps ds i)) (λ i. first_of f (drop i (paired ps ds))) (length ps)
  faults_scan f =
      record {
        turn = λ i h.
            (list_scan f (paired ps ds) (fault 0 0)).turn i (omega (arith, paired_length ps ds same))
            ∙ ap (λ (x : Fault). or_else (f x) (first_of f (drop (i + 1) (paired ps ds)))) (paired_at ps ds i (fault 0 0) same h);
        end = λ i h. (list_scan f (paired ps ds) (fault 0 0)).end i (omega (arith, paired_length ps ds same));
      }

  module _ (n m : ℕ) where
    pairs_turn : (i : ℕ) → i < length ps
        → pairs_test n m (drop i (paired ps ds))
        ≡ or_else (first_of (clash_test n m (fault_at ps ds i)) (drop (i + 1) (paired ps ds))) (pairs_test n m (drop (i + 1) (paired ps ds)))
    unfolding pairs_test
    pairs_turn i h =
        let l : i < length (paired ps ds) = omega (arith, paired_length ps ds same) in
        rw (drop-cons (paired ps ds) i (fault 0 0) l, add-one i, paired_at ps ds i (fault 0 0) same h)

    pairs_end : (i : ℕ) → length ps ≤ i → pairs_test n m (drop i (paired ps ds)) ≡ Ok tt
    unfolding pairs_test
    pairs_end i h =
        let l : length (paired ps ds) ≤ i = omega (arith, paired_length ps ds same) in
        rw (drop_of_length-le (paired ps ds) l)

    -- the tests of each fault with the later ones
    pub pairs_scan : Scan (λ i. first_of (clash_test n m (fault_at ps ds i)) (drop (i + 1) (paired ps ds)))
        (λ i. pairs_test n m (drop i (paired ps ds))) (length ps)
    pairs_scan = record { turn = pairs_turn; end = pairs_end }

-- the direction that is filled in at index k
abbrev pub taken_at : List ℕ → List ℕ → ℕ → ℕ
taken_at directions ps k = get_or directions (get_or ps k 0) 0

pub directions_filled : (directions ps : List ℕ) → tabulate (taken_at directions ps) (length ps) ≡ directions_at directions ps
directions_filled directions ps =
    ext_get_or 0 (tabulate (taken_at directions ps) (length ps)) (directions_at directions ps)
    (tabulate_length (taken_at directions ps) (length ps) ∙ sym (directions_length directions ps))
    (λ k h.
    let l : k < length ps = omega (arith, h, tabulate_length (taken_at directions ps) (length ps)) in
    tabulate_at (taken_at directions ps) (length ps) k 0 l ∙ sym (direction_at directions ps k l))
