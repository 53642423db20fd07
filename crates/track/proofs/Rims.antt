-- The faults that the links to right neighbours pass, in the view of a plan: none whose path starts at the rim, and every
-- other one that a horizontal path starts at. With the view transposed these are lower neighbours and vertical paths.
-- Assumes nothing.
use Prim.Native.Nat.{ℕ, zero, suc, ◌≤◌, ◌<◌}
use native.Mathlib.Omega.{arith}
use mathlib.Core.Path.{◌≡◌, refl, sym, subst, ◌∙◌}
use mathlib.Core.Bool.{Bool, true, false}
use mathlib.Core.Logic.{◌⊎◌, inl, inr}
use mathlib.Core.List.{List, [], ◌∷◌}
use borrow.Author.Tests.{eqb-false, ne_eqb}
use lib.Dec.{T, eqb}
use Rattle.array.proofs.Places.{InnerAt}
use Rattle.track.proofs.View.{Dir, still, south, north, east, west, tr, View, transposed}
use Rattle.track.proofs.Walks.{State, v0, v1, v2, v3, v4, horizontal, link, Place}
use Rattle.track.proofs.Own.{name}
use Rattle.track.proofs.Rules.{Rules, Means, means}
use Rattle.track.proofs.Links.{passed, west_start, east_start, starts, link_right}
use Rattle.track.proofs.Held.{level}

-- a path of direction d from (x, y) starts at the rim
abbrev pub rim : View → ℕ → ℕ → Dir → Bool
rim v x y still = false
rim v x y south = eqb x 1
rim v x y north = eqb x v.rows
rim v x y east = eqb y 1
rim v x y west = eqb y v.cols

rim_turned : (v : View) (x y : ℕ) (d : Dir) → rim (transposed v) y x (tr d) ≡ rim v x y d
rim_turned v x y still = refl
rim_turned v x y south = refl
rim_turned v x y north = refl
rim_turned v x y east = refl
rim_turned v x y west = refl

-- an inner fault whose path does not start at the rim
pub record OffRim (v : View) (x y : ℕ) : Type 0 where
  pub place : InnerAt v.rows v.cols x y
  pub fault : v.faulty x y ≡ true
  pub away : rim v x y (v.path x y) ≡ false

turned_place : {n m x y : ℕ} → InnerAt n m x y → InnerAt m n y x
turned_place i =
    record { row_low = i.column_low; row_high = i.column_high; column_low = i.row_low; column_high = i.row_high }

pub off_turned : (v : View) (x y : ℕ) → OffRim v x y → OffRim (transposed v) y x
off_turned v x y o =
    record { place = turned_place o.place; fault = o.fault; away = rim_turned v x y (v.path x y) ∙ o.away }

pub off_back : (v : View) (x y : ℕ) → OffRim (transposed v) y x → OffRim v x y
off_back v x y o =
    record { place = turned_place o.place; fault = o.fault; away = sym (rim_turned v x y (v.path x y)) ∙ o.away }

-- [i, j] has a right neighbour
pub record HasRight (v : View) (i j : ℕ) : Type 0 where
  pub row_low : 1 ≤ i
  pub row_high : i ≤ v.rows
  pub column_low : 1 ≤ j
  pub column_high : j < v.cols

abbrev pub In : List Place → Place → Type 0
In [] c = ⊥
In (b ∷ l) c = (b ≡ c) ⊎ In l c

west_in : (s : State) (c b : Place) (l : List Place) → In (west_start s c l) b → ((s ≡ v3) × (c ≡ b)) ⊎ In l b
west_in v0 c b l h = inr h
west_in v1 c b l h = inr h
west_in v2 c b l h = inr h
west_in v3 c b l (inl e) = inl (refl, e)
west_in v3 c b l (inr h) = inr h
west_in v4 c b l h = inr h

in_west : (s : State) (c b : Place) (l : List Place) → In l b → In (west_start s c l) b
in_west v0 c b l h = h
in_west v1 c b l h = h
in_west v2 c b l h = h
in_west v3 c b l h = inr h
in_west v4 c b l h = h

east_in : (s : State) (c b : Place) → In (east_start s c) b → (s ≡ v2) × (c ≡ b)
east_in v0 c b h = absurd h
east_in v1 c b h = absurd h
east_in v2 c b (inl e) = (refl, e)
east_in v2 c b (inr h) = absurd h
east_in v3 c b h = absurd h
east_in v4 c b h = absurd h

-- a link to a right neighbour that passes (x, y)
pub record OnLink (v : View) (x y : ℕ) : Type 0 where
  pub i : ℕ
  pub j : ℕ
  pub cell : HasRight v i j
  pub passes : In (passed (link v i j)) (name x y)

module _ (v : View) (r : Rules v) where
  passed_are : (i j : ℕ) → HasRight v i j → passed (link v i j) ≡ starts v i j
  passed_are zero j h = absurd (omega (arith, h.row_low))
  passed_are (suc k) zero h = absurd (omega (arith, h.column_low))
  passed_are (suc k) (suc l) h = (link_right v r k l h.row_high h.column_high).passes

  pub passed_off : (i j : ℕ) → HasRight v i j → (b : Place) → In (passed (link v i j)) b → OffRim v b.row b.col
  passed_off i j h b m =
      at_end (west_in (horizontal v i j) (name i j) b _ (subst (λ (l : List Place). In l b) (passed_are i j h) m))
    where
      meant : (y : ℕ) (s : State) → horizontal v i y ≡ s → Means s (v.path i y) (v.faulty i y)
      meant y s e = subst (λ (z : State). Means z (v.path i y) (v.faulty i y)) e (means (v.path i y) (v.faulty i y))

      place_at : (y : ℕ) → 1 ≤ y → y ≤ v.cols → InnerAt v.rows v.cols i y
      place_at y a c = record { row_low = h.row_low; row_high = h.row_high; column_low = a; column_high = c }

      near : horizontal v i j ≡ v3 → OffRim v i j
      near e =
          let k = meant j v3 e in
          record {
            place = place_at j h.column_low (omega (arith, h.column_high));
            fault = k.1;
            away = rw k.0 (ne_eqb j v.cols (λ z. omega (arith, h.column_high, z)));
          }

      far : horizontal v i (suc j) ≡ v2 → OffRim v i (suc j)
      far e =
          let k = meant (suc j) v2 e in
          record {
            place = place_at (suc j) (omega arith) h.column_high;
            fault = k.1;
            away = rw k.0 (ne_eqb (suc j) 1 (λ z. omega (arith, h.column_low, z)));
          }

      at_end : ((horizontal v i j ≡ v3) × (name i j ≡ b)) ⊎ In (east_start (horizontal v i (suc j)) (name i (suc j))) b
          → OffRim v b.row b.col
      at_end (inl (e, f)) = subst (λ (c : Place). OffRim v c.row c.col) f (near e)
      at_end (inr q) =
          let z = east_in (horizontal v i (suc j)) (name i (suc j)) b q in
          subst (λ (c : Place). OffRim v c.row c.col) z.1 (far z.0)

  pub off_passed : (x y : ℕ) (d : Dir) → v.path x y ≡ d → T (level d) → OffRim v x y → OnLink v x y
  off_passed x y still a t o = absurd t
  off_passed x y south a t o = absurd t
  off_passed x y north a t o = absurd t
  off_passed x zero east a t o = absurd (omega (arith, o.place.column_low))
  off_passed x (suc j) east a t o =
      let n : (suc j ≡ 1 → ⊥) = eqb-false (suc j) 1 (rw a at o.away) in
      let p = o.place in
      let c : HasRight v x j =
      record { row_low = p.row_low; row_high = p.row_high; column_low = omega (arith, n); column_high = p.column_high } in
      record {
        i = x;
        j = j;
        cell = c;
        passes = rw (passed_are x j c) (in_west (horizontal v x j) (name x j) (name x (suc j)) _ (rw (a, o.fault) (inl refl)));
      }
  off_passed x y west a t o =
      let n : (y ≡ v.cols → ⊥) = eqb-false y v.cols (rw a at o.away) in
      let p = o.place in
      let c : HasRight v x y =
      record { row_low = p.row_low; row_high = p.row_high; column_low = p.column_low; column_high = omega (arith, p.column_high, n) } in
      record { i = x; j = y; cell = c; passes = rw (passed_are x y c) (rw (a, o.fault) (inl refl)) }
