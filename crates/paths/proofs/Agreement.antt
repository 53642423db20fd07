-- The clash table's rule agrees with the definitions of meeting and near-miss, at every size.
-- Assumes nothing.
use mathlib.Core.Path.{◌≡◌, sym, ap, ap₂, ◌∙◌}
use mathlib.Core.Bool.{Bool, true, false, cond, ◌&&◌}
use mathlib.Core.List.{List}
use Prim.Native.Nat.{ℕ, ◌+◌, ◌≤◌}
use native.Mathlib.Omega.{arith}
use borrow.Author.Tests.{eqb-true, le-leb}
use lib.Dec.{leb, eqb}
use Rattle.array.specs.Place.{position, row, column}
use Rattle.array.proofs.Bools.{and_true, by_bool}
use Rattle.array.proofs.Places.{Inner, position_read}
use Rattle.paths.specs.Path.{Clear, Meet, NearMiss, meet, near_miss, clash, Start}
use Rattle.paths.specs.Table.{class, entry, byte_of, ClashTable, TableAgrees}
use Rattle.paths.proofs.Ways.{start_way, start_inner}
use Rattle.paths.proofs.Meeting.{overlap, overlap_is_meet}
use Rattle.paths.proofs.Classes.{Alike, Classed, classed}

-- Along one axis: where a path begins and where another ends compare as they do for the classes.
reaches : (x v a b edge far : ℕ) → Alike x v a b → x ≤ edge → a ≤ far → (back on : Bool)
    → leb (cond back 0 x) (cond on edge v) ≡ leb (cond back 0 a) (cond on far b)
reaches x v a b edge far s h g true on = first (cond on edge v) ∙ sym (first (cond on far b))
  where
    first : (k : ℕ) → leb 0 k ≡ true
    first k = le-leb 0 k (omega arith)
reaches x v a b edge far s h g false true = le-leb x edge h ∙ sym (le-leb a far g)
reaches x v a b edge far s h g false false = s.le

module _ (n m p d q e : ℕ) (s : Start n m p d) (t : Start n m q e) where
  rows : Classed (row p) (row q)
  rows = let i = start_inner s in let j = start_inner t in classed (row p) (row q) (omega (arith, s.rows)) (omega (arith, t.rows))

  columns : Classed (column p) (column q)
  columns = classed (column p) (column q) (omega arith) (omega arith)

  abbrev r : ℕ
  r = class (row p) (row q)

  abbrev c : ℕ
  c = class (column p) (column q)

  -- the second start on the array of the rule
  abbrev z : ℕ
  z = position (1 + r) (1 + c)

  z_read : (row z ≡ 1 + r) × (column z ≡ 1 + c)
  z_read = position_read (1 + r) (1 + c) (omega (arith, columns.high))

  z_inner : Inner 5 5 z
  z_inner =
      let k = z_read in
      record {
        row_low = omega (arith, k.0);
        row_high = omega (arith, k.0, rows.high);
        column_low = omega (arith, k.1);
        column_high = omega (arith, k.1, columns.high);
      }

  middle : Inner 5 5 (position 3 3)
  middle = record { row_low = omega arith; row_high = omega arith; column_low = omega arith; column_high = omega arith }

  overlap_there : overlap n m p d q e ≡ overlap 5 5 (position 3 3) d z e
  unfolding overlap
  overlap_there =
      let i = start_inner s in
      let j = start_inner t in
      rw (
        z_read.0,
        z_read.1,
        reaches (row p) (row q) 3 (1 + r) (n + 1) 6 rows.there (omega arith) (omega arith) (eqb d 2) (eqb e 1),
        reaches (row q) (row p) (1 + r) 3 (n + 1) 6 rows.back (omega arith) (omega (arith, rows.high)) (eqb e 2) (eqb d 1),
        reaches (column p) (column q) 3 (1 + c) (m + 1) 6 columns.there (omega arith) (omega arith) (eqb d 4) (eqb e 3),
        reaches (column q) (column p) (1 + c) 3 (m + 1) 6 columns.back (omega arith) (omega (arith, columns.high)) (eqb e 4) (eqb d 3),
      )

  meet_there : meet n m p d q e ≡ meet 5 5 (position 3 3) d z e
  meet_there =
      sym (overlap_is_meet n m s.rows s.columns p d q e (start_way s) (start_way t) (start_inner s) (start_inner t))
      ∙ overlap_there
      ∙ overlap_is_meet 5 5 (omega arith) (omega arith) (position 3 3) d z e (start_way s) (start_way t) middle z_inner

  near_there : near_miss p d q e ≡ near_miss (position 3 3) d z e
  unfolding near_miss
  near_there =
      rw (
        z_read.0,
        z_read.1,
        rows.there.lt,
        rows.back.lt,
        columns.there.lt,
        columns.back.lt,
        rows.there.beside,
        rows.back.beside,
        columns.there.beside,
        columns.back.beside,
      )

  clash_there : clash 5 5 (position 3 3) d z e ≡ clash n m p d q e
  unfolding clash
  clash_there =
      ap₂ (λ (a b : Bool). cond a Meet (cond b NearMiss Clear)) (sym meet_there) (sym near_there)

  -- distinct starts do not differ by 0 in both
  apart : (p ≡ q → ⊥) → (eqb r 2 && eqb c 2) ≡ false
  apart ne = by_bool (eqb r 2 && eqb c 2) (λ h. absurd (ne (equal h))) (λ h. h)
    where
      equal : (eqb r 2 && eqb c 2) ≡ true → p ≡ q
      equal h =
          let a = and_true (eqb r 2) (eqb c 2) h in
          let x : row p ≡ row q = eqb-true _ _ (rows.there.eq ∙ rw (eqb-true r 2 a.0)) in
          let y : column p ≡ column q = eqb-true _ _ (columns.there.eq ∙ rw (eqb-true c 2 a.1)) in
          omega (arith, x, y)

  pub entry_is_clash : (p ≡ q → ⊥) → entry d e r c ≡ clash n m p d q e
  unfolding entry
  entry_is_clash ne = rw (apart ne) clash_there

pub table_agrees : (table : List ℕ) → ClashTable table → TableAgrees table
table_agrees table t =
    record {
      as_defined =
          λ n m p d q e s u ne.
          t.right d e _ _ s.low s.high u.low u.high (rows n m p d q e s u).high (columns n m p d q e s u).high
          ∙ ap byte_of (entry_is_clash n m p d q e s u ne);
      unused = apart;
    }
