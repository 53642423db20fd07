-- A processor on a path of a plan and its neighbours: paths go on to their spare, start at their fault, and face each other only at starts.
-- Assumes nothing.
use Prim.Native.Nat.{ℕ, suc, ◌≤◌, ◌<◌}
use native.Mathlib.Omega.{arith}
use mathlib.Core.Path.{◌≡◌, refl, ◌∙◌, sym, ap, subst}
use mathlib.Core.Bool.{Bool, true, false, ◌&&◌}
use lib.Dec.{T, leb, eqb, leb→le, le→leb, eqb→eq, eqb_refl}
use Rattle.array.proofs.Places.{inner_at_holds}
use Rattle.paths.specs.Path.{difference}
use Rattle.track.proofs.View.{Dir, still, south, north, east, west, moving, View, transposed, inner, on, covers, Source, Planned}
use Rattle.track.proofs.Cross.{and_left, and_right, and_intro}

pub moving_not_still : (d : Dir) → T (moving d) → d ≡ still → ⊥
moving_not_still d t e = subst (λ (z : Dir). T (moving z)) e t

pub on_moving : (w : View) (d : Dir) (fx fy x y : ℕ) → T (on w d fx fy x y) → T (moving d)
on_moving w still fx fy x y t = t
on_moving w south fx fy x y t = tt
on_moving w north fx fy x y t = tt
on_moving w east fx fy x y t = tt
on_moving w west fx fy x y t = tt

-- what a test says
pub between : (a b c : ℕ) → T (leb a b && leb b c) → (a ≤ b) × (b ≤ c)
between a b c t =
    (leb→le a b (and_left (leb a b) (leb b c) t), leb→le b c (and_right (leb a b) (leb b c) t))

pub source_covers : (w : View) (d : Dir) (x y : ℕ) (s : Source w d x y) → T (covers w s.row s.col x y)
source_covers w d x y s = rw s.is s.on_it

pub on_south : (w : View) (fx fy x y : ℕ) → T (on w south fx fy x y) → (y ≡ fy) × (fx ≤ x) × (x ≤ suc w.rows)
on_south w fx fy x y t =
    let b = between fx x (suc w.rows) (and_right (eqb y fy) (leb fx x && leb x (suc w.rows)) t) in
    (eqb→eq y fy (and_left (eqb y fy) (leb fx x && leb x (suc w.rows)) t), b.0, b.1)

pub south_on : (w : View) (fx y x : ℕ) → fx ≤ x → x ≤ suc w.rows → T (on w south fx y x y)
south_on w fx y x a b =
    and_intro (eqb y y) (leb fx x && leb x (suc w.rows)) (eqb_refl y)
    (and_intro (leb fx x) (leb x (suc w.rows)) (le→leb fx x a) (le→leb x (suc w.rows) b))

pub on_north : (w : View) (fx fy x y : ℕ) → T (on w north fx fy x y) → (y ≡ fy) × (x ≤ fx)
on_north w fx fy x y t =
    (eqb→eq y fy (and_left (eqb y fy) (leb x fx) t), leb→le x fx (and_right (eqb y fy) (leb x fx) t))

pub north_on : (w : View) (fx y x : ℕ) → x ≤ fx → T (on w north fx y x y)
north_on w fx y x a = and_intro (eqb y y) (leb x fx) (eqb_refl y) (le→leb x fx a)

-- the head of a vertical path through (x, y)
pub record South (w : View) (x y : ℕ) : Type 0 where
  pub row : ℕ
  pub is : w.dir row y ≡ south
  pub above : row ≤ x
  pub in_rows : x ≤ suc w.rows

pub record North (w : View) (x y : ℕ) : Type 0 where
  pub row : ℕ
  pub is : w.dir row y ≡ north
  pub below : x ≤ row

pub south_head : (w : View) (x y : ℕ) → Source w south x y → South w x y
south_head w x y s =
    let o = on_south w s.row s.col x y s.on_it in
    record { row = s.row; is = subst (λ (z : ℕ). w.dir s.row z ≡ south) (sym o.0) s.is; above = o.1; in_rows = o.2 }

pub north_head : (w : View) (x y : ℕ) → Source w north x y → North w x y
north_head w x y s =
    let o = on_north w s.row s.col x y s.on_it in
    record { row = s.row; is = subst (λ (z : ℕ). w.dir s.row z ≡ north) (sym o.0) s.is; below = o.1 }

abbrev pub head_south : (w : View) (x y : ℕ) → South w x y → Source w south x y
head_south w x y h = record { row = h.row; col = y; is = h.is; on_it = south_on w h.row y x h.above h.in_rows }

abbrev pub head_north : (w : View) (x y : ℕ) → North w x y → Source w north x y
head_north w x y h = record { row = h.row; col = y; is = h.is; on_it = north_on w h.row y x h.below }

pub false_if : (b : Bool) → (T b → ⊥) → b ≡ false
false_if true h = absurd (h tt)
false_if false h = refl

pub true_if : (b : Bool) → T b → b ≡ true
true_if true h = refl
true_if false h = absurd h

module _ (w : View) (p : Planned w) where
  -- where a fault is
  pub at_fault : (fx fy : ℕ) → T (moving (w.dir fx fy)) → (T (inner w fx fy)) × T (w.faulty fx fy)
  at_fault fx fy m = p.only fx fy (moving_not_still (w.dir fx fy) m)

  -- the fault at the head of a path is faulty, and no other processor on it is
  pub start_faulty : (d : Dir) (x y : ℕ) (s : Source w d x y) → T (w.faulty s.row s.col)
  start_faulty d x y s =
      (at_fault s.row s.col (rw s.is (on_moving w d s.row s.col x y s.on_it))).1

  pub rest_healthy : (d : Dir) (x y : ℕ) (s : Source w d x y) → (x ≡ s.row → ⊥) → w.faulty x y ≡ false
  rest_healthy d x y s h =
      false_if (w.faulty x y) (λ t. h (p.open_path s.row s.col x y (source_covers w d x y s) t).0)

  pub not_start : (d : Dir) (x y : ℕ) (s : Source w d x y) → w.faulty x y ≡ false → (s.row ≡ x) → (s.col ≡ y) → ⊥
  not_start d x y s h a b =
      subst (λ (z : Bool). T z) h
      (subst (λ (z : ℕ). T (w.faulty x z)) b (subst (λ (z : ℕ). T (w.faulty z s.col)) a (start_faulty d x y s)))

  pub south_of : (x y : ℕ) → w.path x y ≡ south → South w x y
  south_of x y e = south_head w x y (p.source south x y tt e)

  pub north_of : (x y : ℕ) → w.path x y ≡ north → North w x y
  north_of x y e = north_head w x y (p.source north x y tt e)

  pub south_down : (x y : ℕ) → x ≤ w.rows → w.path x y ≡ south → (w.path (suc x) y ≡ south) × (w.faulty (suc x) y ≡ false)
  south_down x y b e =
      let h = south_of x y e in
      let q = head_south w (suc x) y (record { row = h.row; is = h.is; above = omega (arith, h.above); in_rows = omega arith }) in
      (p.path_of south (suc x) y q, rest_healthy south (suc x) y q (λ f. omega (arith, h.above, f)))

  pub south_up : (x y : ℕ) → w.path (suc x) y ≡ south → w.faulty (suc x) y ≡ false → w.path x y ≡ south
  south_up x y e f =
      let h = south_of (suc x) y e in
      let n : (h.row ≡ suc x → ⊥) = λ g. not_start south (suc x) y (head_south w (suc x) y h) f g refl in
      p.path_of south x y (head_south w x y (record { row = h.row; is = h.is; above = omega (arith, h.above, n); in_rows = omega (arith, h.in_rows) }))

  pub north_up : (x y : ℕ) → w.path (suc x) y ≡ north → (w.path x y ≡ north) × (w.faulty x y ≡ false)
  north_up x y e =
      let h = north_of (suc x) y e in
      let q = head_north w x y (record { row = h.row; is = h.is; below = omega (arith, h.below) }) in
      (p.path_of north x y q, rest_healthy north x y q (λ f. omega (arith, h.below, f)))

  pub north_down : (x y : ℕ) → w.path x y ≡ north → w.faulty x y ≡ false → w.path (suc x) y ≡ north
  north_down x y e f =
      let h = north_of x y e in
      let n : (h.row ≡ x → ⊥) = λ g. not_start north x y (head_north w x y h) f g refl in
      p.path_of north (suc x) y (head_north w (suc x) y (record { row = h.row; is = h.is; below = omega (arith, h.below, n) }))

  -- opposite paths in neighbouring columns that share a row both start in it
  pub face : (x y z : ℕ) → difference y z ≡ 1 → w.path x y ≡ south → w.path x z ≡ north → T (w.faulty x y) × T (w.faulty x z)
  face x y z a e f =
      let h = south_of x y e in
      let g = north_of x z f in
      let n : (h.row < g.row → ⊥) = p.no_near_miss h.row y g.row z h.is g.is a in
      let b : h.row ≡ x = omega (arith, h.above, g.below, n) in
      let c : g.row ≡ x = omega (arith, h.above, g.below, n) in (
        subst (λ (r : ℕ). T (w.faulty r y)) b (start_faulty south x y (head_south w x y h)),
        subst (λ (r : ℕ). T (w.faulty r z)) c (start_faulty north x z (head_north w x z g)),
      )

  own_path : (d : Dir) (x y : ℕ) → T (moving d) → x ≤ w.rows → y ≤ w.cols → T (on w d x y x y)
  own_path still x y m a b = m
  own_path south x y m a b = south_on w x y x (omega arith) (omega arith)
  own_path north x y m a b = north_on w x y x (omega arith)
  own_path east x y m a b = south_on (transposed w) y x y (omega arith) (omega arith)
  own_path west x y m a b = north_on (transposed w) y x y (omega arith)

  not_still_moving : (d : Dir) → (d ≡ still → ⊥) → T (moving d)
  not_still_moving still h = h refl
  not_still_moving south h = tt
  not_still_moving north h = tt
  not_still_moving east h = tt
  not_still_moving west h = tt

  -- an inner fault is on its own path
  pub fault_path : (x y : ℕ) → T (inner w x y) → T (w.faulty x y) → w.path x y ≡ w.dir x y
  fault_path x y i f =
      let b = inner_at_holds w.rows w.cols x y (true_if (inner w x y) i) in
      let m = not_still_moving (w.dir x y) (p.each x y i f) in
      p.path_of (w.dir x y) x y
      (record { row = x; col = y; is = refl; on_it = own_path (w.dir x y) x y m b.row_high b.column_high })

  pub covered : (x y : ℕ) → T (inner w x y) → T (w.faulty x y) → w.path x y ≡ still → ⊥
  covered x y i f e = p.each x y i f (sym (fault_path x y i f) ∙ e)

  -- a fault on a path is its start
  pub own_direction : (d : Dir) (x y : ℕ) → T (moving d) → T (w.faulty x y) → w.path x y ≡ d → w.dir x y ≡ d
  own_direction d x y m f e =
      let s = p.source d x y m e in
      let q = p.open_path s.row s.col x y (source_covers w d x y s) f in
      ap (λ (z : ℕ). w.dir z y) q.0 ∙ ap (λ (z : ℕ). w.dir s.row z) q.1 ∙ s.is
