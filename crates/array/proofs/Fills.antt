-- A whole-buffer fill: the law of every loop that writes f p at each position p.
-- Assumes nothing.
use mathlib.Core.Path.{◌≡◌, refl, sym, ap, ◌∙◌}
use mathlib.Core.List.{List, [], ◌∷◌}
use Prim.Native.Nat.{ℕ, zero, suc, ◌+◌, ◌<◌, ◌≤◌}
use native.Mathlib.Omega.{arith}
use native.Mathlib.Nat.{add-zero, zero-add, add-suc, suc-add, le_of_suc-le-suc, not-suc-le-zero}
use lib.ListN.{length, get_or, set, length-set}
use lib.Seq.{ext_get_or, get_or-set_same, get_or-set_other}
use borrow.Author.Count.{below_more}
use Rattle.array.specs.Buffer.{span, tabulate}

span_length : (f : ℕ → ℕ) (i k : ℕ) → length (span f i k) ≡ k
unfolding span
span_length f i zero = refl
span_length f i (suc k) = ap suc (span_length f (suc i) k)

span_at : (f : ℕ → ℕ) (i k j d : ℕ) → j < k → get_or (span f i k) j d ≡ f (i + j)
unfolding span
span_at f i zero j d h = absurd (not-suc-le-zero h)
span_at f i (suc k) zero d h = ap f (sym (add-zero i))
span_at f i (suc k) (suc j) d h = span_at f (suc i) k j d (le_of_suc-le-suc h) ∙ ap f (suc-add i j ∙ sym (add-suc i j))

pub tabulate_length : (f : ℕ → ℕ) (n : ℕ) → length (tabulate f n) ≡ n
tabulate_length f n = span_length f 0 n

-- what a whole buffer holds, read with any default
pub tabulate_at : (f : ℕ → ℕ) (n j d : ℕ) → j < n → get_or (tabulate f n) j d ≡ f j
tabulate_at f n j d h = span_at f 0 n j d h ∙ ap f (zero-add j)

-- The invariant of a fill: the first i places of a buffer of n are right.
pub record Filling (f : ℕ → ℕ) (n i : ℕ) (new : List ℕ) : Type 0 where
  pub within : i ≤ n
  pub long : length new ≡ n
  pub front : (k : ℕ) → k < i → get_or new k 0 ≡ f k

pub fill_start : (f : ℕ → ℕ) {n : ℕ} (old : List ℕ) → length old ≡ n → Filling f n 0 old
fill_start f old h = record { within = omega arith; long = h; front = λ k l. absurd (not-suc-le-zero l) }

module _ {f : ℕ → ℕ} {n i : ℕ} {new : List ℕ} (s : Filling f n i new) where
  pub fill_step : (v : ℕ) → i < n → v ≡ f i → Filling f n (i + 1) (set new i v)
  fill_step v h e =
      let l : length new ≡ n = s.long in
      record {
        within = omega arith;
        long = length-set new i v ∙ s.long;
        front =
            below_more _ i (λ k m. get_or-set_other new i k v 0 (λ q. omega arith) ∙ s.front k m)
            (get_or-set_same new i v 0 (omega arith) ∙ e);
      }

  pub fill_end : n ≤ i → new ≡ tabulate f n
  fill_end h =
      ext_get_or 0 new (tabulate f n) (s.long ∙ sym (tabulate_length f n))
      (λ k m. let l : length new ≡ n = s.long in s.front k (omega arith) ∙ sym (tabulate_at f n k 0 (omega arith)))

-- an element that is there does not depend on the default
pub same_default : (l : List ℕ) (i a b : ℕ) → i < length l → get_or l i a ≡ get_or l i b
same_default l i a b h = defaults l i h
  where
    defaults : (l : List ℕ) (i : ℕ) → i < length l → get_or l i a ≡ get_or l i b
    defaults [] i h = absurd (not-suc-le-zero h)
    defaults (x ∷ xs) zero h = refl
    defaults (x ∷ xs) (suc i) h = defaults xs i (le_of_suc-le-suc h)
