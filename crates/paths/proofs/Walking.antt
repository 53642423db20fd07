-- A walk along a path after its start, as the openness loop makes it.
-- Assumes nothing.
use mathlib.Core.Path.{◌≡◌, sym, ap, ◌∙◌}
use mathlib.Core.Bool.{Bool, true, not, ◌&&◌}
use mathlib.Core.List.{List}
use Prim.Native.Nat.{ℕ, suc, ◌+◌, ◌-◌, ◌<◌, ◌≤◌}
use native.Mathlib.Numerals.{add-one}
use native.Mathlib.Omega.{arith}
use lib.ListN.{length, drop, get_or}
use Rattle.array.specs.Buffer.{span}
use Rattle.array.specs.Map.{faulty_mark, faulty}
use Rattle.array.proofs.Places.{Inner}
use Rattle.array.proofs.Marks.{faulty_read}
use Rattle.paths.specs.Path.{ahead, path_length, path, none_faulty, is_free}
use Rattle.paths.proofs.Ways.{Way, south, north, east, west}

-- a path has its fault and its spare, and at most 32 processors
pub path_long : (n m p d : ℕ) → n ≤ 30 → m ≤ 30 → Way d → Inner n m p → (2 ≤ path_length n m p d) × (path_length n m p d ≤ 32)
path_long n m p d hn hm south i = (omega arith, omega arith)
path_long n m p d hn hm north i = (omega arith, omega arith)
path_long n m p d hn hm east i = (omega arith, omega arith)
path_long n m p d hn hm west i = (omega arith, omega arith)

-- none of the processors from the k-th on is faulty
abbrev pub open_from : ℕ → ℕ → List ℕ → ℕ → ℕ → ℕ → Bool
open_from n m grid p d k = none_faulty grid (span (ahead p d) k (path_length n m p d - k))

module _ (n m : ℕ) (grid : List ℕ) (p d : ℕ) where
  pub open_start : 1 ≤ path_length n m p d → is_free n m grid p d ≡ open_from n m grid p d 1
  unfolding is_free path span
  open_start h =
      let e : path_length n m p d ≡ suc (path_length n m p d - 1) = omega arith in
      open_at_suc (path_length n m p d) (path_length n m p d - 1) e
    where
      open_at_suc : (l k : ℕ) → l ≡ suc k → none_faulty grid (drop 1 (span (ahead p d) 0 l)) ≡ none_faulty grid (span (ahead p d) 1 k)
      open_at_suc l k e = rw e

  pub open_turn : (k : ℕ) → k < path_length n m p d
      → open_from n m grid p d k ≡ (not (faulty grid (ahead p d k)) && open_from n m grid p d (k + 1))
  unfolding span none_faulty
  open_turn k h =
      let e : path_length n m p d - k ≡ suc (path_length n m p d - (k + 1)) = omega arith in
      rw (e, add-one k)

  pub open_end : (k : ℕ) → path_length n m p d ≤ k → open_from n m grid p d k ≡ true
  unfolding span none_faulty
  open_end k h =
      let e : path_length n m p d - k ≡ 0 = omega arith in
      rw e

  -- the k-th processor, which stands at q in the buffer, is faulty or not
  module _ (k q : ℕ) (l : k < path_length n m p d) (e : q ≡ ahead p d k) (h : q < length grid) where
    pub open_by_mark : {r b : Bool} → r ≡ faulty_mark (get_or grid q 0) → r ≡ b
        → open_from n m grid p d k ≡ (not b && open_from n m grid p d (k + 1))
    open_by_mark f t =
        open_turn k l
        ∙ ap (λ (z : Bool). not z && open_from n m grid p d (k + 1))
        (ap (faulty grid) (sym e) ∙ faulty_read grid q h ∙ sym f ∙ t)
