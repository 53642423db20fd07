-- The first offender over an index range: the law of every loop that stops at a refusal, for any kind of answer.
-- Assumes nothing.
use mathlib.Core.Path.{◌≡◌, refl, sym, ap, ◌∙◌}
use mathlib.Core.Bool.{Bool, true, false}
use mathlib.Core.List.{List}
use Prim.Native.Nat.{ℕ, zero, suc, ◌+◌, ◌-◌, ◌<◌, ◌≤◌}
use native.Mathlib.Numerals.{add-one}
use native.Mathlib.Omega.{arith}
use lib.ListN.{length, get_or, drop, drop_of_length-le}
use lib.Seq.{drop-cons}
use Rattle.array.specs.Tests.{or_else, refuse, refuse_if, first_of, first_along}
use Rattle.array.specs.Tests.{Verdict}
use Rattle.std.specs.Prelude.{Ok, Err}
use Rattle.array.proofs.Bools.{by_lt}
use Rattle.array.proofs.Verdicts.{both_accepted}

-- Answers of tests: one passes, others stop, each for a reason; of two answers the first that stops counts.
pub record Answers {T R : Type 0} (pass : T) (stop : R → T) (or : T → T → T) : Type 0 where
  pub passes_on : (later : T) → or pass later ≡ later
  pub stays : (r : R) (later : T) → or (stop r) later ≡ stop r

module _ {T R : Type 0} {pass : T} {stop : R → T} {or : T → T → T} where
  -- `rest i` is the first that stops among f i, f (i + 1), .. f (n - 1).
  pub record ScanOf (A : Answers pass stop or) (f rest : ℕ → T) (n : ℕ) : Type 0 where
    pub turn : (i : ℕ) → i < n → rest i ≡ or (f i) (rest (i + 1))
    pub end : (i : ℕ) → n ≤ i → rest i ≡ pass

  -- The invariant of such a loop at i: its answer v is still to be found from i on.
  pub record SeekingOf (A : Answers pass stop or) (f rest : ℕ → T) (n i : ℕ) (v : T) : Type 0 where
    pub scan : ScanOf A f rest n
    pub within : i ≤ n
    pub left : v ≡ rest i

  module _ {A : Answers pass stop or} {f rest : ℕ → T} {n : ℕ} where
    pub seek_start : ScanOf A f rest n → (i : ℕ) → i ≤ n → SeekingOf A f rest n i (rest i)
    seek_start s i h = record { scan = s; within = h; left = refl }

    module _ {i : ℕ} {v : T} (s : SeekingOf A f rest n i v) where
      here : {w : T} → i < n → w ≡ f i → v ≡ or w (rest (i + 1))
      here h e = s.left ∙ s.scan.turn i h ∙ ap (λ (x : T). or x (rest (i + 1))) (sym e)

      -- left where w stops
      pub seek_stop : {w : T} {r : R} → i < n → w ≡ f i → w ≡ stop r → w ≡ v
      seek_stop {r} h e t = t ∙ sym (here h (sym t ∙ e) ∙ A.stays r (rest (i + 1)))

      -- the next turn
      pub seek_pass : {w : T} → i < n → w ≡ f i → w ≡ pass → SeekingOf A f rest n (i + 1) v
      seek_pass h e t =
          record { scan = s.scan; within = omega arith; left = here h (sym t ∙ e) ∙ A.passes_on (rest (i + 1)) }

      pub seek_none : n ≤ i → pass ≡ v
      seek_none h = sym (s.left ∙ s.scan.end i h)

    -- Nothing stops where no index does.
    module _ (s : ScanOf A f rest n) where
      all_after : (d i : ℕ) → n ≤ i + d → ((k : ℕ) → i ≤ k → k < n → f k ≡ pass) → rest i ≡ pass
      all_after zero i e h = s.end i (omega arith)
      all_after (suc d) i e h =
          by_lt i n
          (λ l.
          (seek_pass (seek_start s i (omega arith)) l refl (h i (omega arith) l)).left
          ∙ all_after d (i + 1) (omega arith) (λ k a b. h k (omega arith) b))
          (λ l. s.end i l)

      pub scan_all_from : (i : ℕ) → ((k : ℕ) → i ≤ k → k < n → f k ≡ pass) → rest i ≡ pass
      scan_all_from i h = all_after n i (omega arith) h

      pub scan_all : ((k : ℕ) → k < n → f k ≡ pass) → rest 0 ≡ pass
      scan_all h = scan_all_from 0 (λ k i l. h k l)

-- The same of verdicts.
pub verdicts : Answers (Ok tt) Err or_else
verdicts = record { passes_on = λ later. refl; stays = λ r later. refl }

abbrev pub Scan : (ℕ → Verdict) → (ℕ → Verdict) → ℕ → Type 0
Scan = ScanOf verdicts

abbrev pub Seeking : (ℕ → Verdict) → (ℕ → Verdict) → ℕ → ℕ → Verdict → Type 0
Seeking = SeekingOf verdicts

module _ {f rest : ℕ → Verdict} {n i : ℕ} {v : Verdict} (s : Seeking f rest n i v) where
  -- where the test at i is a Bool that a callee answered as r
  module _ (k a q : ℕ) {b r : Bool} (h : i < n) (d : f i ≡ refuse_if b k a q) (e : r ≡ b) where
    pub seek_stop_if : r ≡ true → refuse k a q ≡ v
    seek_stop_if t = seek_stop s h (sym (d ∙ ap (λ (z : Bool). refuse_if z k a q) (sym e ∙ t))) refl

    pub seek_pass_if : r ≡ false → Seeking f rest n (i + 1) v
    seek_pass_if t = seek_pass s h (sym (d ∙ ap (λ (z : Bool). refuse_if z k a q) (sym e ∙ t))) refl

-- No index is refused where nothing is.
module _ {f rest : ℕ → Verdict} {n : ℕ} (s : Scan f rest n) where
  each_after : (d i k : ℕ) → i + d ≡ k → k < n → rest i ≡ Ok tt → f k ≡ Ok tt
  each_after zero i k e l h =
      let x = both_accepted (f i) (rest (i + 1)) (sym (s.turn i (omega arith)) ∙ h) in
      let y : k ≡ i = omega arith in
      ap f y ∙ x.0
  each_after (suc d) i k e l h =
      let x = both_accepted (f i) (rest (i + 1)) (sym (s.turn i (omega arith)) ∙ h) in
      each_after d (i + 1) k (omega arith) l x.1

  pub scan_each_from : (i : ℕ) → rest i ≡ Ok tt → (k : ℕ) → i ≤ k → k < n → f k ≡ Ok tt
  scan_each_from i h k g l = each_after (k - i) i k (omega arith) l h

  pub scan_each : rest 0 ≡ Ok tt → (k : ℕ) → k < n → f k ≡ Ok tt
  scan_each h k l = scan_each_from 0 h k (omega arith) l

-- Along a buffer, by position and element.
abbrev pub element_test : (ℕ → ℕ → Verdict) → List ℕ → ℕ → Verdict
element_test f b p = f p (get_or b p 0)

abbrev pub from_position : (ℕ → ℕ → Verdict) → List ℕ → ℕ → Verdict
from_position f b p = first_along f p (drop p b)

module _ (f : ℕ → ℕ → Verdict) (b : List ℕ) where
  along_turn : (i : ℕ) → i < length b → from_position f b i ≡ or_else (element_test f b i) (from_position f b (i + 1))
  unfolding first_along
  along_turn i h = rw (drop-cons b i 0 h, add-one i)

  along_end : (i : ℕ) → length b ≤ i → from_position f b i ≡ Ok tt
  unfolding first_along
  along_end i h = rw (drop_of_length-le b h)

  pub buffer_scan : Scan (element_test f b) (from_position f b) (length b)
  buffer_scan = record { turn = along_turn; end = along_end }

-- Along a list of any elements; x stands for what lies beyond its end.
module _ {A : Type 0} (f : A → Verdict) (l : List A) (x : A) where
  of_turn : (i : ℕ) → i < length l → first_of f (drop i l) ≡ or_else (f (get_or l i x)) (first_of f (drop (i + 1) l))
  unfolding first_of
  of_turn i h = rw (drop-cons l i x h, add-one i)

  of_end : (i : ℕ) → length l ≤ i → first_of f (drop i l) ≡ Ok tt
  unfolding first_of
  of_end i h = rw (drop_of_length-le l h)

  pub list_scan : Scan (λ i. f (get_or l i x)) (λ i. first_of f (drop i l)) (length l)
  list_scan = record { turn = of_turn; end = of_end }
