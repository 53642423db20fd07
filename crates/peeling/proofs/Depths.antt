-- Depths order positions as the sides do, and the least depth of a list decides which of its positions lie outermost.
-- Assumes nothing.
use Prim.Native.Nat.{ℕ, suc, ◌+◌, ◌≤◌, ◌<◌, min}
use mathlib.Core.Path.{◌≡◌, refl, sym, ap, ◌∙◌}
use mathlib.Core.Bool.{Bool, true, ◌&&◌}
use mathlib.Core.List.{List, [], ◌∷◌}
use native.Mathlib.Omega.{arith}
use borrow.Author.Tests.{eqb-true, eq-eqb}
use borrow.Author.Count.{below_more}
use lib.Dec.{eqb}
use lib.ListN.{length, get_or}
use Rattle.array.proofs.Bools.{and_both, bool_ext}
use Rattle.paths.proofs.Ways.{Way, south, north, east, west}
use Rattle.peeling.specs.Peel.{outermost}
use Rattle.peeling.specs.Settling.{Outer}
use Rattle.peeling.specs.Inner.{Positions, depth, Least}
use Rattle.peeling.proofs.Picking.{outer_far, outermost_at}

-- a direction that is none of the first three is west
pub west_else : (d : ℕ) → 1 ≤ d → d ≤ 4 → (d ≡ 1 → ⊥) → (d ≡ 2 → ⊥) → (d ≡ 3 → ⊥) → d ≡ 4
west_else d low high a b c = omega arith

depth_high : (d p : ℕ) → Way d → p < 1024 → depth d p ≤ 31
depth_high d p south h = omega arith
depth_high d p north h = omega arith
depth_high d p east h = omega arith
depth_high d p west h = omega arith

depth_outer : (d p q : ℕ) → Way d → q < 1024 → depth d p ≤ depth d q → Outer d p q
depth_outer d p q south a h = omega arith
depth_outer d p q north a h = omega arith
depth_outer d p q east a h = omega arith
depth_outer d p q west a h = omega arith

outer_depth : (d p q : ℕ) → Way d → Outer d p q → depth d p ≤ depth d q
outer_depth d p q south h = omega arith
outer_depth d p q north h = omega arith
outer_depth d p q east h = omega arith
outer_depth d p q west h = omega arith

module _ (d p : ℕ) (w : Way d) where
  each_outermost : (qs : List ℕ) → Positions qs → ((i : ℕ) → i < length qs → depth d p ≤ depth d (get_or qs i 0))
      → outermost d p qs ≡ true
  each_outermost [] b h = refl
  each_outermost (q ∷ qs) b h =
      and_both _ _ (outer_far p q w (depth_outer d p q w (b 0 (omega arith)) (h 0 (omega arith))))
      (each_outermost qs (λ i l. b (suc i) (omega arith)) (λ i l. h (suc i) (omega arith)))

-- one comparison with the least depth says whether a position of the list lies outermost
pub outermost_least : (d : ℕ) (ps : List ℕ) (least i : ℕ) → Way d → Positions ps → Least d ps (length ps) least
    → i < length ps → outermost d (get_or ps i 0) ps ≡ eqb (depth d (get_or ps i 0)) least
outermost_least d ps least i w below s h =
    let p = get_or ps i 0 in
    bool_ext (outermost d p ps) (eqb (depth d p) least)
    (λ e.
    eq-eqb (depth d p) least
    (omega (
      arith,
      s.low i h,
      s.greatest (depth d p) (depth_high d p w (below i h))
          (λ j l. outer_depth d p _ w (outermost_at d p ps j w e l)),
    )))
    (λ e. let z = eqb-true (depth d p) least e in each_outermost d p w ps below (λ j l. omega (arith, s.low j l)))

-- the answer by a depth x and a path, where x and y are the same depth
pub by_depth : {x y : ℕ} (least : ℕ) (opens : Bool) {b : Bool} → x ≡ y → eqb x least ≡ b
    → (b && opens) ≡ (eqb y least && opens)
by_depth least opens e f = ap (λ (t : Bool). t && opens) (sym f ∙ ap (λ (z : ℕ). eqb z least) e)

-- The invariant of the loop that finds it.
pub least_start : (d : ℕ) (ps : List ℕ) → Least d ps 0 31
least_start d ps = record { low = λ i h. absurd (omega arith); greatest = λ b h l. h }

-- a turn, where the k-th depth is x
pub least_turn : {d : ℕ} {ps : List ℕ} {k least x : ℕ} → Least d ps k least → x ≡ depth d (get_or ps k 0)
    → Least d ps (k + 1) (min least x)
least_turn {k = k} s e =
    record {
      low = below_more _ k (λ i l. omega (arith, s.low i l)) (omega arith);
      greatest = λ b a l. omega (arith, s.greatest b a (λ i m. l i (omega arith)), l k (omega arith));
    }
