-- On an open path no processor but the start is faulty, and a dead start is at the rim.
-- Assumes nothing.
use mathlib.Core.Path.{◌≡◌, sym, ap, ◌∙◌}
use mathlib.Core.Bool.{true, false, not, false≢true}
use mathlib.Core.List.{List, [], ◌∷◌}
use mathlib.Core.Logic.{⊎_elim}
use Prim.Native.Nat.{ℕ, zero, suc}
use native.Mathlib.Omega.{arith}
use borrow.Author.Tests.{eqb-true, not-true}
use lib.Dec.{eqb}
use lib.ListN.{drop}
use Rattle.array.specs.Buffer.{span}
use Rattle.array.specs.Map.{faulty, dead}
use Rattle.array.proofs.Bools.{and_true, or_true}
use Rattle.paths.specs.Path.{member, ahead, path_length, path, none_faulty, is_free, from_rim, may_start, is_open}
use Rattle.paths.proofs.Ways.{Way, south, north, east, west}

none_member : (grid xs : List ℕ) (q : ℕ) → none_faulty grid xs ≡ true → member q xs ≡ true → faulty grid q ≡ false
unfolding none_faulty member
none_member grid [] q h t = absurd (false≢true t)
none_member grid (x ∷ xs) q h t =
    let a = and_true (not (faulty grid x)) _ h in
    ⊎_elim (λ e. ap (faulty grid) (eqb-true q x e) ∙ not-true _ a.0) (λ s. none_member grid xs q a.1 s) (or_true (eqb q x) _ t)

first_alone : (grid : List ℕ) (f : ℕ → ℕ) (k q : ℕ) → none_faulty grid (drop 1 (span f 0 k)) ≡ true → member q (span f 0 k) ≡ true
    → faulty grid q ≡ true → q ≡ f 0
unfolding span member
first_alone grid f zero q o h t = absurd (false≢true h)
first_alone grid f (suc k) q o h t =
    ⊎_elim (λ e. eqb-true q (f 0) e) (λ s. absurd (false≢true (sym (none_member grid (span f 1 k) q o s) ∙ t))) (or_true (eqb q (f 0)) _ h)

ahead_none : (p d : ℕ) → Way d → ahead p d 0 ≡ p
ahead_none p d south = omega arith
ahead_none p d north = omega arith
ahead_none p d east = omega arith
ahead_none p d west = omega arith

pub open_alone : (n m p d q : ℕ) (grid : List ℕ) → Way d → is_open n m grid p d ≡ true → member q (path n m p d) ≡ true
    → faulty grid q ≡ true → q ≡ p
unfolding is_open is_free path
open_alone n m p d q grid w o h t =
    first_alone grid (ahead p d) (path_length n m p d) q (and_true (may_start n m grid p d) _ o).1 h t ∙ ahead_none p d w

-- and a dead start is at the rim
pub open_from_rim : (n m p d : ℕ) (grid : List ℕ) → is_open n m grid p d ≡ true → dead grid p ≡ true → from_rim n m p d ≡ true
unfolding is_open
open_from_rim n m p d grid o h = rw h at (and_true (may_start n m grid p d) _ o).0
