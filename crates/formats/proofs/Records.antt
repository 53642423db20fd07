-- The records along a list, where no element has one, where one is added above all others, and where only elements without
-- one differ. The positions along a list are the case in which a record is its position.
-- Assumes nothing.
use Prim.Native.Nat.{ℕ, zero, suc, ◌+◌, ◌<◌, ◌≤◌}
use mathlib.Core.Path.{◌≡◌, refl, sym, ap, ◌∙◌}
use mathlib.Core.Bool.{Bool, true, false, cond}
use mathlib.Core.Logic.{◌⊎◌, ⊎_elim}
use mathlib.Core.List.{List, [], ◌∷◌, ◌++◌, append_assoc, append-nil}
use native.Mathlib.Nat.{le_of_suc-le-suc, not-suc-le-zero, add-zero}
use native.Mathlib.Omega.{arith}
use lib.ListN.{length, get_or, set}
use Rattle.array.specs.Buffer.{positions_along}
use Rattle.array.proofs.Bools.{by_bool}
use Rattle.formats.specs.Records.{recorded, records_along, record_count}
use Rattle.formats.specs.declared.Record.{Record}

abbrev pub position_only : ℕ → ℕ → List ℕ
position_only i x = i ∷ []

pub positions_are : (t : ℕ → ℕ → Bool) (i : ℕ) (xs : List ℕ) → positions_along t i xs ≡ records_along t position_only i xs
unfolding positions_along records_along
positions_are t i [] = refl
positions_are t i (x ∷ xs) =
    let h = positions_are t (suc i) xs in
    by_bool (t i x) (λ c. rw c (ap (λ (l : List ℕ). i ∷ l) h)) (λ c. rw c h)

-- the records of a list none of whose elements has one; and with one more, higher than all of them
module _ (has : ℕ → ℕ → Bool) (bytes : ℕ → ℕ → List ℕ) where
  abbrev pub None : List ℕ → ℕ → ℕ → Type 0
  None xs i k = (j : ℕ) → k ≤ j → j < length xs → has (i + j) (get_or xs j 0) ≡ false

  next_none : (x : ℕ) (xs : List ℕ) (i k : ℕ) → None (x ∷ xs) i (suc k) → None xs (suc i) k
  next_none x xs i k f j l h =
      let e : suc i + j ≡ i + suc j = omega arith in
      ap (λ (z : ℕ). has z (get_or xs j 0)) e ∙ f (suc j) (omega arith) (omega arith)

  pub no_records : (xs : List ℕ) (i : ℕ) → None xs i 0 → records_along has bytes i xs ≡ []
  unfolding records_along
  no_records [] i f = refl
  no_records (x ∷ xs) i f =
      let a : has i x ≡ false = ap (λ (z : ℕ). has z x) (sym (add-zero i)) ∙ f 0 (omega arith) (omega arith) in
      rw a (no_records xs (suc i) (next_none x xs i 0 (λ j l. f j (omega arith))))

  pub records_set :
      (xs : List ℕ) (i k v : ℕ) →
      k < length xs →
      None xs i k →
      has (i + k) v ≡ true →
      records_along has bytes i (set xs k v) ≡ records_along has bytes i xs ++ bytes (i + k) v
  unfolding records_along
  records_set [] i k v l f g = absurd (not-suc-le-zero l)
  records_set (x ∷ xs) i zero v l f g =
      let e : i ≡ i + 0 = sym (add-zero i) in
      let a : has i v ≡ true = ap (λ (z : ℕ). has z v) e ∙ g in
      let b : has i x ≡ false = ap (λ (z : ℕ). has z x) e ∙ f 0 (omega arith) (omega arith) in
      let r = no_records xs (suc i) (next_none x xs i 0 (λ j h. f j (omega arith))) in
      rw (a, b, r) (append-nil (bytes i v) ∙ ap (λ (z : ℕ). bytes z v) e)
  records_set (x ∷ xs) i (suc k) v l f g =
      let e : suc i + k ≡ i + suc k = omega arith in
      let h =
      records_set xs (suc i) k v (le_of_suc-le-suc l) (next_none x xs i k f) (ap (λ (z : ℕ). has z v) e ∙ g)
      ∙ ap (λ (z : ℕ). records_along has bytes (suc i) xs ++ bytes z v) e in
      by_bool (has i x)
      (λ c. rw c (ap (λ (z : List ℕ). bytes i x ++ z) h ∙ sym (append_assoc (bytes i x) _ _)))
      (λ c. rw c h)

-- elements that are equal, or of which neither has a record; lists of such elements have the same records
abbrev pub Alike : (ℕ → ℕ → Bool) → ℕ → ℕ → ℕ → Type 0
Alike has i x y = (x ≡ y) ⊎ ((has i x ≡ false) × (has i y ≡ false))

pub records_alike :
    (has : ℕ → ℕ → Bool) (bytes : ℕ → ℕ → List ℕ) (xs ys : List ℕ) (i : ℕ) →
    length xs ≡ length ys →
    ((j : ℕ) → j < length xs → Alike has (i + j) (get_or xs j 0) (get_or ys j 0)) →
    records_along has bytes i xs ≡ records_along has bytes i ys
unfolding records_along
records_alike has bytes [] [] i w h = refl
records_alike has bytes [] (y ∷ ys) i w h = absurd (omega arith)
records_alike has bytes (x ∷ xs) [] i w h = absurd (omega arith)
records_alike has bytes (x ∷ xs) (y ∷ ys) i w h =
    let r =
    records_alike has bytes xs ys (suc i) (omega arith)
    (λ j l. let e : i + suc j ≡ suc i + j = omega arith in rw e at (h (suc j) (omega arith))) in
    ⊎_elim
    (λ e. ap (λ (z : ℕ). records_along has bytes i (z ∷ xs)) e ∙ ap (λ (l : List ℕ). cond (has i y) (bytes i y ++ l) l) r)
    (λ n. rw (n.0, n.1) r)
    (rw (add-zero i) at (h 0 (omega arith)))

-- the count of a buffer's records is the length of their positions
pub count_is : (kind : Record) (b : List ℕ) → record_count kind b ≡ length (records_along (recorded kind) position_only 0 b)
unfolding record_count
count_is kind b = ap length (positions_are (recorded kind) 0 b)
