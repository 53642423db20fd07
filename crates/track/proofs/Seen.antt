-- A plan in a direction buffer is a plan in the view by row and column.
-- Assumes nothing.
use mathlib.Core.Path.{◌≡◌, refl, sym, ap, subst, ◌∙◌}
use mathlib.Core.Bool.{Bool, true, false, cond, ◌&&◌, false≢true}
use mathlib.Core.List.{List}
use mathlib.Core.Logic.{⊎_elim}
use Prim.Native.Nat.{ℕ, ◌<◌, ◌≤◌}
use native.Mathlib.Omega.{arith}
use borrow.Author.Tests.{leb-true, le-leb, lt-ltb}
use lib.Dec.{T, leb}
use lib.ListN.{get_or}
use Rattle.array.specs.Place.{position, row, column, inner_at, inner}
use Rattle.array.specs.Map.{faulty, inner_fault}
use Rattle.array.proofs.Bools.{and_true, and_both, by_bool, by_eq}
use Rattle.array.proofs.Places.{Inner, inner_holds, inner_at_holds, position_read}
use Rattle.array.proofs.Formed.{Formed}
use Rattle.paths.specs.Path.{path, member, meet, near_miss, difference}
use Rattle.paths.proofs.Ways.{Way, way}
use Rattle.paths.proofs.Meeting.{share_intro}
use Rattle.paths.proofs.Opens.{open_alone}
use Rattle.paths.proofs.Clashes.{clear_neither}
use Rattle.plans.specs.Faults.{faults, directed_faults}
use Rattle.plans.specs.PlanAt.{PlanOn, read_at}
use Rattle.plans.proofs.ByPosition.{faults_list}
use Rattle.track.specs.Placement.{through}
use Rattle.track.proofs.View.{Dir, still, south, north, east, west, moving, View, transposed, on, covers, Source, Planned}
use Rattle.track.proofs.Paths.{moving_not_still, on_moving, on_south, on_north, true_if}
use Rattle.track.proofs.OnPath.{heading, member_on, on_member}
use Rattle.track.proofs.Through.{Passing, through_cases, through_met}
use Rattle.paths.proofs.Ways as ways

-- what lies off the array is not seen: directions only at inner faults, paths only in columns that a position has
abbrev pub view : ℕ → ℕ → List ℕ → List ℕ → View
view n m grid directions =
    record {
      rows = n;
      cols = m;
      faulty = λ x y. faulty grid (position x y);
      dir = λ x y. cond (inner_at n m x y && faulty grid (position x y)) (heading (get_or directions (position x y) 0)) still;
      path = λ x y. cond (leb y 31) (heading (through n m (directed_faults n m grid directions) (position x y))) still;
    }

to_T : (b : Bool) → b ≡ true → T b
to_T b e = rw e tt

abbrev number : Dir → ℕ
number still = 0
number south = 1
number north = 2
number east = 3
number west = 4

number_heading : (d : ℕ) → Way d → number (heading d) ≡ d
number_heading d ways.south = refl
number_heading d ways.north = refl
number_heading d ways.east = refl
number_heading d ways.west = refl

module _ (n m : ℕ) (grid directions : List ℕ) (f : Formed n m grid) (pl : PlanOn n m grid (read_at directions)) where
  abbrev w : View
  w = view n m grid directions

  abbrev ps : List ℕ
  ps = faults n m grid

  abbrev d_at : ℕ → ℕ
  d_at = read_at directions

  abbrev Fault : ℕ → Type 0
  Fault p = inner_fault n m grid p ≡ true

  abbrev Crosses : ℕ → ℕ → Type 0
  Crosses p q = member q (path n m p (d_at p)) ≡ true

  place : (p : ℕ) → Fault p → Inner n m p
  place p h = inner_holds n m p (and_true (inner n m p) _ h).0

  way_of : (p : ℕ) → Fault p → Way (d_at p)
  way_of p h = let s = pl.straight p h in way (d_at p) s.0 s.1

  number_at : (p : ℕ) (d : Dir) → Fault p → heading (d_at p) ≡ d → d_at p ≡ number d
  number_at p d h e = sym (number_heading (d_at p) (way_of p h)) ∙ ap number e

  -- of two faults the paths neither share a position nor are a near-miss
  apart : (p q r : ℕ) → Fault p → Fault q → Crosses p r → Crosses q r → p ≡ q
  unfolding meet
  apart p q r a b h g =
      by_eq p q (λ e. e)
      (λ e. absurd (false≢true (sym (clear_neither n m _ _ _ _ (pl.clear_pair p q a b e)).0 ∙ share_intro _ _ r h g)))

  not_near : (p q : ℕ) → Fault p → Fault q → (p ≡ q → ⊥) → near_miss p (d_at p) q (d_at q) ≡ true → ⊥
  not_near p q a b e t = false≢true (sym (clear_neither n m _ _ _ _ (pl.clear_pair p q a b e)).1 ∙ t)

  -- the directions of the view
  dir_at : (p : ℕ) → Fault p → w.dir (row p) (column p) ≡ heading (d_at p)
  dir_at p h =
      let e : position (row p) (column p) ≡ p = omega arith in
      rw (e, h)

  -- where the view has a direction there is a fault of that direction
  record SeenAt (d : Dir) (x y : ℕ) : Type 0 where
    pub fault : Fault (position x y)
    pub is : heading (d_at (position x y)) ≡ d
    pub row_is : row (position x y) ≡ x
    pub column_is : column (position x y) ≡ y
    pub within : y ≤ 30

  seen : (d : Dir) (x y : ℕ) → T (moving d) → w.dir x y ≡ d → SeenAt d x y
  seen d x y t e = by_bool (inner_at n m x y && faulty grid (position x y)) masked absent
    where
      absent : (inner_at n m x y && faulty grid (position x y)) ≡ false → SeenAt d x y
      absent h = absurd (moving_not_still d t (sym (rw h at e)))

      masked : (inner_at n m x y && faulty grid (position x y)) ≡ true → SeenAt d x y
      masked h =
          let a = and_true _ _ h in
          let b = inner_at_holds n m x y a.0 in
          let r = position_read x y (omega (arith, b, f.sizes)) in
          record {
            fault = rw (r.0, r.1) h;
            is = rw h at e;
            row_is = r.0;
            column_is = r.1;
            within = omega (arith, b, f.sizes);
          }

  -- a position on a path of the view is a member of the path's list, and has a column below 32
  on_column : (d : Dir) (fx fy x y : ℕ) → fy ≤ 30 → T (on w d fx fy x y) → y ≤ 31
  on_column still fx fy x y h t = absurd t
  on_column south fx fy x y h t = omega (arith, on_south w fx fy x y t)
  on_column north fx fy x y h t = omega (arith, on_north w fx fy x y t)
  on_column east fx fy x y h t = omega (arith, on_south (transposed w) fy fx y x t, f.sizes.columns_high)
  on_column west fx fy x y h t = omega (arith, on_north (transposed w) fy fx y x t)

  seen_member : (d : Dir) (fx fy x y : ℕ) → SeenAt d fx fy → T (on w d fx fy x y)
      → member (position x y) (path n m (position fx fy) (d_at (position fx fy))) ≡ true
  seen_member d fx fy x y s t =
      on_member w f.sizes.rows_high f.sizes.columns_high (position fx fy) (place _ s.fault) (d_at (position fx fy)) x y
      (way_of _ s.fault) (rw (s.is, s.row_is, s.column_is) t)

  path_seen : (x y : ℕ) → y ≤ 31 → w.path x y ≡ heading (through n m (directed_faults n m grid directions) (position x y))
  path_seen x y h = rw (le-leb y 31 h)

  path_of : (d : Dir) (x y : ℕ) → Source w d x y → w.path x y ≡ d
  path_of d x y s =
      let g = seen d s.row s.col (on_moving w d s.row s.col x y s.on_it) s.is in
      let p = position s.row s.col in
      let k = (faults_list n m grid).all p g.fault in
      let a = seen_member d s.row s.col x y g s.on_it in
      let r = through_met n m directions (position x y) ps k.k k.below (rw k.is a) in
      let e = apart (get_or ps r.k 0) p (position x y) ((faults_list n m grid).each r.k r.below) g.fault r.on a in
      path_seen x y (on_column d s.row s.col x y g.within s.on_it)
      ∙ ap heading (sym r.is ∙ ap d_at e)
      ∙ g.is

  source : (d : Dir) (x y : ℕ) → T (moving d) → w.path x y ≡ d → Source w d x y
  source d x y t e = by_bool (leb y 31) within beyond
    where
      beyond : leb y 31 ≡ false → Source w d x y
      beyond h = absurd (moving_not_still d t (sym (rw h at e)))

      start : y ≤ 31 → (z : ℕ) → heading z ≡ d → Passing n m directions ps (position x y) z → Source w d x y
      start b z h r =
          let p = get_or ps r.k 0 in
          let a = (faults_list n m grid).each r.k r.below in
          let g : heading (d_at p) ≡ d = ap heading r.is ∙ h in
          record {
            row = row p;
            col = column p;
            is = dir_at p a ∙ g;
            on_it =
                subst (λ (u : Dir). T (on w u (row p) (column p) x y)) g
                (member_on w f.sizes.rows_high f.sizes.columns_high p (place p a) (d_at p) x y (way_of p a) b r.on);
          }

      within : leb y 31 ≡ true → Source w d x y
      within h =
          let b = leb-true y 31 h in
          let g = sym (path_seen x y b) ∙ e in
          ⊎_elim (λ z. absurd (moving_not_still d t (sym g ∙ ap heading z))) (λ r. start b _ g r)
          (through_cases n m directions (position x y) ps)

  only : (x y : ℕ) → (w.dir x y ≡ still → ⊥) → T (inner_at n m x y) × T (faulty grid (position x y))
  only x y h =
      by_bool (inner_at n m x y && faulty grid (position x y))
      (λ e.
      let a = and_true (inner_at n m x y) (faulty grid (position x y)) e in
      (to_T (inner_at n m x y) a.0, to_T (faulty grid (position x y)) a.1)) (λ e. absurd (h (rw e)))

  each : (x y : ℕ) → T (inner_at n m x y) → T (faulty grid (position x y)) → w.dir x y ≡ still → ⊥
  each x y i b e =
      let a : inner_at n m x y ≡ true = true_if _ i in
      let t : faulty grid (position x y) ≡ true = true_if _ b in
      let c = inner_at_holds n m x y a in
      let r = position_read x y (omega (arith, c, f.sizes)) in
      let h : Fault (position x y) = rw (r.0, r.1) (and_both _ _ a t) in
      omega (arith, pl.straight (position x y) h, number_at (position x y) still h (rw (a, t) at e))

  open_path : (fx fy x y : ℕ) → T (covers w fx fy x y) → T (faulty grid (position x y)) → (x ≡ fx) × (y ≡ fy)
  open_path fx fy x y c b =
      let g = seen (w.dir fx fy) fx fy (on_moving w (w.dir fx fy) fx fy x y c) refl in
      let p = position fx fy in
      let l = on_column (w.dir fx fy) fx fy x y g.within c in
      let on_it = seen_member (w.dir fx fy) fx fy x y g c in
      let e = open_alone n m p (d_at p) (position x y) grid (way_of p g.fault) (pl.open_path p g.fault) on_it (true_if _ b) in
      (omega (arith, e, g.within), omega (arith, e, g.within))

  no_near_miss : (fx fy gx gy : ℕ) → w.dir fx fy ≡ south → w.dir gx gy ≡ north → difference fy gy ≡ 1 → fx < gx → ⊥
  unfolding near_miss
  no_near_miss fx fy gx gy a b c l =
      let g = seen south fx fy tt a in
      let h = seen north gx gy tt b in
      not_near (position fx fy) (position gx gy) g.fault h.fault (λ e. omega (arith, g.within, h.within))
      (rw (number_at _ south g.fault g.is, number_at _ north h.fault h.is, g.row_is, g.column_is, h.row_is, h.column_is, c, lt-ltb fx gx l))

  no_near_miss_across : (fx fy gx gy : ℕ) → w.dir fx fy ≡ east → w.dir gx gy ≡ west → difference fx gx ≡ 1 → fy < gy → ⊥
  unfolding near_miss
  no_near_miss_across fx fy gx gy a b c l =
      let g = seen east fx fy tt a in
      let h = seen west gx gy tt b in
      not_near (position fx fy) (position gx gy) g.fault h.fault (λ e. omega (arith, g.within, h.within))
      (rw (number_at _ east g.fault g.is, number_at _ west h.fault h.is, g.row_is, g.column_is, h.row_is, h.column_is, c, lt-ltb fy gy l))

  pub planned : Planned w
  planned =
      record {
        only = only;
        each = each;
        open_path = open_path;
        source = source;
        path_of = path_of;
        no_near_miss = no_near_miss;
        no_near_miss_across = no_near_miss_across;
      }
