-- What a plan means between neighbours, and first consequences for one row of cells.
-- Assumes nothing.
use Prim.Native.Nat.{ℕ, suc, ◌+◌, ◌≤◌, ◌<◌}
use native.Mathlib.Omega.{arith}
use mathlib.Core.Path.{◌≡◌, refl, sym, subst}
use mathlib.Core.Bool.{Bool, true, false, ◌||◌, and_comm}
use mathlib.Core.Logic.{inl, inr}
use lib.Dec.{T, leb, eqb}
use Rattle.array.specs.Place.{processor_at}
use Rattle.array.proofs.Bools.{and_both}
use Rattle.array.proofs.Places.{stands_between}
use Rattle.track.specs.Letters.{letters, entry, letter, across_exists}
use Rattle.track.proofs.View.{Dir, still, south, north, east, west, tr, View}
use Rattle.track.proofs.Walks.{State, v0, v1, v2, v3, v4, state, sb, table, vertical, horizontal, across, ends, inside, inside_of, moved, placed}
use Rattle.track.proofs.Cross.{above, beside, is, Rel, rel, row, leads, rule}
use Rattle.track.proofs.Own.{line_of, name}

pub record Rules (w : View) : Type 0 where
  pub vert : (x y : ℕ) → 1 ≤ y → y ≤ w.cols → x ≤ w.rows → T (above (vertical w x y) (vertical w (suc x) y))
  pub near : (x y : ℕ) → 1 ≤ x → x ≤ w.rows → 1 ≤ y → y < w.cols → T (beside (vertical w x y) (vertical w x (suc y)))
  pub horiz : (x y : ℕ) → 1 ≤ x → x ≤ w.rows → y ≤ w.cols → T (above (horizontal w x y) (horizontal w x (suc y)))
  pub alive : (x y : ℕ) → 1 ≤ x → x ≤ w.rows → 1 ≤ y → y ≤ w.cols → w.faulty x y ≡ true → w.path x y ≡ still → ⊥

-- a processor stands in the transposed array where it stands in the array
pub processor_turns : (n m x y : ℕ) → processor_at n m x y ≡ processor_at m n y x
processor_turns n m x y =
    rw (and_comm (leb x (n + 1)) (leb y (m + 1)), and_comm (eqb x 0 || eqb x (n + 1)) (eqb y 0 || eqb y (m + 1)))

-- where across switches are: in every channel of the inner rows, and in every row between inner columns
module _ (n m x y : ℕ) where
  exists_row : 1 ≤ x → x ≤ n → y ≤ m → across_exists n m x y ≡ true
  exists_row a b c =
      and_both _ _ (stands_between n m x y (omega arith) (omega arith) (inl (a, b)))
      (stands_between n m x (y + 1) (omega arith) (omega arith) (inl (a, b)))

  exists_column : 1 ≤ y → y < m → x ≤ suc n → across_exists n m x y ≡ true
  exists_column a b c =
      and_both _ _ (stands_between n m x y (omega arith) (omega arith) (inr (a, omega arith)))
      (stands_between n m x (y + 1) (omega arith) (omega arith) (inr (omega arith, omega arith)))

pub across_is : (w : View) (x y : ℕ) → across_exists w.rows w.cols x y ≡ true → across w x y ≡ table (vertical w x y) (vertical w x (suc y))
across_is w x y h = rw h

-- what a routing state says of a processor: its path's direction, and whether it is faulty
abbrev pub upright : Dir → Bool
upright still = true
upright south = true
upright north = true
upright east = false
upright west = false

abbrev pub Means : State → Dir → Bool → Type 0
Means v0 d f = T (upright d)
Means v1 d f = (d ≡ east) × (f ≡ false)
Means v2 d f = (d ≡ east) × (f ≡ true)
Means v3 d f = (d ≡ west) × (f ≡ true)
Means v4 d f = (d ≡ west) × (f ≡ false)

pub means : (d : Dir) (f : Bool) → Means (state (tr d) f) d f
means still f = tt
means south f = tt
means north f = tt
means east true = (refl, refl)
means east false = (refl, refl)
means west true = (refl, refl)
means west false = (refl, refl)

abbrev pub well : State → Bool
well v0 = false
well v1 = true
well v2 = false
well v3 = false
well v4 = true

pub well_ends : (d : Dir) (f : Bool) → T (well (state d f)) → inside_of d f ≡ ends
well_ends d false t = refl
well_ends still true t = absurd t
well_ends south true t = absurd t
well_ends north true t = absurd t
well_ends east true t = absurd t
well_ends west true t = absurd t

upright_place : (k y : ℕ) (d : Dir) (f : Bool) → T (upright d) → moved d (suc k) y ≡ name (row k (rel (state d f))) y
upright_place k y still f t = refl
upright_place k y south true t = refl
upright_place k y south false t = refl
upright_place k y north true t = refl
upright_place k y north false t = refl
upright_place k y east f t = absurd t
upright_place k y west f t = absurd t

pub under_1 : (s : State) → T (above v1 s) → s ≡ v1
under_1 v0 t = absurd t
under_1 v1 t = refl
under_1 v2 t = absurd t
under_1 v3 t = absurd t
under_1 v4 t = absurd t

pub under_2 : (s : State) → T (above v2 s) → s ≡ v1
under_2 v0 t = absurd t
under_2 v1 t = refl
under_2 v2 t = absurd t
under_2 v3 t = absurd t
under_2 v4 t = absurd t

pub over_3 : (s : State) → T (above s v3) → s ≡ v4
over_3 v0 t = absurd t
over_3 v1 t = absurd t
over_3 v2 t = absurd t
over_3 v3 t = absurd t
over_3 v4 t = refl

pub over_4 : (s : State) → T (above s v4) → s ≡ v4
over_4 v0 t = absurd t
over_4 v1 t = absurd t
over_4 v2 t = absurd t
over_4 v3 t = absurd t
over_4 v4 t = refl

-- one row of cells, k+1
module _ (w : View) (r : Rules w) (k : ℕ) (hi : suc k ≤ w.rows) where
  -- the row of processors that the line of cells runs by in column y
  abbrev pub at_row : ℕ → Rel
  at_row y = rel (vertical w (suc k) y)

  -- letters of a channel between inner columns
  pub led :
      (y : ℕ) → 1 ≤ y → y < w.cols →
      T (leads (at_row y) (at_row (suc y)) (across w k y) (across w (suc k) y) (across w (suc (suc k)) y))
  led y a b =
      rw (
        across_is w k y (exists_column w.rows w.cols k y a b (omega arith)),
        across_is w (suc k) y (exists_column w.rows w.cols (suc k) y a b (omega arith)),
        across_is w (suc (suc k)) y (exists_column w.rows w.cols (suc (suc k)) y a b (omega arith)),
      )
      (rule (vertical w (suc k) y) (vertical w (suc k) (suc y)) (vertical w k y) (vertical w k (suc y))
      (vertical w (suc (suc k)) y) (vertical w (suc (suc k)) (suc y))
      (r.near (suc k) y (omega arith) hi a b)
      (r.vert k y a (omega arith) (omega arith))
      (r.vert k (suc y) (omega arith) b (omega arith))
      (r.vert (suc k) y a (omega arith) hi)
      (r.vert (suc k) (suc y) (omega arith) b hi))

  -- the letter of a channel between two processors that are on no vertical path
  pub flat :
      (y : ℕ) → y ≤ w.cols → vertical w (suc k) y ≡ v0 → vertical w (suc k) (suc y) ≡ v0 →
      T (is (across w (suc k) y) sb)
  unfolding letter entry letters
  flat y a e f =
      rw (
        across_is w (suc k) y (exists_row w.rows w.cols (suc k) y (omega arith) hi a),
        e,
        f,
      )
      tt

  -- the processor there belongs to the line
  pub mine : (y : ℕ) → 1 ≤ y → y ≤ w.cols → line_of (vertical w (row k (at_row y)) y) (row k (at_row y)) ≡ suc k
  mine y a b = go (vertical w (suc k) y) refl (r.vert k y a b (omega arith)) (r.vert (suc k) y a b hi)
    where
      go : (s : State) → vertical w (suc k) y ≡ s → T (above (vertical w k y) s) → T (above s (vertical w (suc (suc k)) y))
          → line_of (vertical w (row k (rel s)) y) (row k (rel s)) ≡ suc k
      go v0 e t u = rw e
      go v1 e t u = rw (under_1 (vertical w (suc (suc k)) y) u)
      go v2 e t u = rw (under_2 (vertical w (suc (suc k)) y) u)
      go v3 e t u = rw (over_3 (vertical w k y) t)
      go v4 e t u = rw (over_4 (vertical w k y) t)

  -- where the cell of column y is in its column, it is at that processor, which is healthy
  pub here : (y : ℕ) → T (upright (w.path (suc k) y)) → placed w (suc k) y ≡ name (row k (at_row y)) y
  here y t = upright_place k y (w.path (suc k) y) (w.faulty (suc k) y) t

  pub healthy : (y : ℕ) → 1 ≤ y → y ≤ w.cols → T (upright (w.path (suc k) y)) → inside w (row k (at_row y)) y ≡ ends
  healthy y a b t = go (w.path (suc k) y) (w.faulty (suc k) y) refl refl t
    where
      under : (s : State) → vertical w (suc k) y ≡ s → T (above s (vertical w (suc (suc k)) y))
      under s e = subst (λ (z : State). T (above z (vertical w (suc (suc k)) y))) e (r.vert (suc k) y a b hi)

      over : (s : State) → vertical w (suc k) y ≡ s → T (above (vertical w k y) s)
      over s e = subst (λ (z : State). T (above (vertical w k y) z)) e (r.vert k y a b (omega arith))

      ends_at : (x : ℕ) (s : State) → vertical w x y ≡ s → T (well s) → inside w x y ≡ ends
      ends_at x s e t = well_ends (w.path x y) (w.faulty x y) (subst (λ (z : State). T (well z)) (sym e) t)

      go :
          (d : Dir) (f : Bool) → w.path (suc k) y ≡ d → w.faulty (suc k) y ≡ f → T (upright d) →
          inside w (row k (rel (state d f))) y ≡ ends
      go still true e f t = absurd (r.alive (suc k) y (omega arith) hi a b f e)
      go still false e f t = rw f
      go south true e f t = ends_at (suc (suc k)) v1 (under_2 (vertical w (suc (suc k)) y) (under v2 (rw (e, f)))) tt
      go south false e f t = ends_at (suc (suc k)) v1 (under_1 (vertical w (suc (suc k)) y) (under v1 (rw (e, f)))) tt
      go north true e f t = ends_at k v4 (over_3 (vertical w k y) (over v3 (rw (e, f)))) tt
      go north false e f t = ends_at k v4 (over_4 (vertical w k y) (over v4 (rw (e, f)))) tt
      go east f e g t = absurd t
      go west f e g t = absurd t
