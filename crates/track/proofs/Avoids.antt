-- On a routed wafer, if nothing were broken, no link to a neighbour would enter a fault whose path starts at the rim, and
-- a link to a neighbour would pass every other inner fault.
-- Assumes nothing.
use Prim.Native.Nat.{ℕ, ◌+◌, ◌≤◌}
use native.Mathlib.Omega.{arith}
use mathlib.Core.Path.{◌≡◌, refl, sym, ap, ◌∙◌}
use mathlib.Core.Bool.{true, false, true≢false}
use mathlib.Core.Logic.{◌⊎◌, inl, inr, ⊎_elim}
use lib.Dec.{T}
use lib.ListN.{get_or}
use Rattle.array.specs.Place.{position, row, column, inner}
use Rattle.array.specs.Map.{mark_at, faulty, inner_fault}
use Rattle.array.proofs.Bools.{and_true}
use Rattle.array.proofs.Places.{InnerAt, inner_holds, inner_between, position_read}
use Rattle.array.proofs.Marks.{healthy_not_faulty}
use Rattle.paths.specs.Path.{from_rim}
use Rattle.paths.proofs.Directions.{by_number}
use Rattle.track.specs.Ports.{Wafer}
use Rattle.track.specs.declared.ports.Compass.{Compass}
use Rattle.track.specs.declared.ports.Compass.TheVariants.{W, N}
use Rattle.track.specs.declared.ports.Node.TheVariants.{Processor}
use Rattle.track.specs.Follower.{position_of, processor_of}
use Rattle.track.specs.Theorems.{Routed, holder, Neighbour, right, lower}
use Rattle.track.specs.Avoids.{Visits, RimFault}
use Rattle.track.proofs.View.{Dir, still, south, north, east, west, tr, View, transposed}
use Rattle.track.proofs.Own.{name}
use Rattle.track.proofs.Rules.{Rules}
use Rattle.track.proofs.Paths.{fault_path, covered}
use Rattle.track.proofs.FromPlan.{transposed_plan, plan_rules}
use Rattle.track.proofs.OnPath.{heading}
use Rattle.track.proofs.Held.{level, view_of, formed_of, planned_of}
use Rattle.track.proofs.Rims.{rim, OffRim, off_turned, off_back, passed_off, OnLink, off_passed}
use Rattle.track.proofs.Seats.{sits, neighbour_cell}
use Rattle.track.proofs.Sound.{Meets, good}

-- the directions that start at the rim, by the view
rim_is : (v : View) (p d : ℕ) → from_rim v.rows v.cols p d ≡ rim v (row p) (column p) (heading d)
rim_is v p d =
    by_number (λ z. from_rim v.rows v.cols p z ≡ rim v (row p) (column p) (heading z)) d refl refl refl refl
    (λ a b c e. rw (a, b, c, e))

axis_of : (d : Dir) → (d ≡ still → ⊥) → T (level d) ⊎ T (level (tr d))
axis_of still n = absurd (n refl)
axis_of south n = inr tt
axis_of north n = inr tt
axis_of east n = inl tt
axis_of west n = inl tt

module _ (w : Wafer) (r : Routed w) where
  rules_of : Rules (view_of w)
  rules_of = plan_rules (view_of w) (planned_of w r)

  rules_turned : Rules (transposed (view_of w))
  rules_turned = plan_rules (transposed (view_of w)) (transposed_plan (view_of w) (planned_of w r))

  -- whether the path of an inner fault starts at the rim
  rim_seen : (x y : ℕ) → InnerAt w.rows w.columns x y → faulty w.grid (position x y) ≡ true
      → from_rim w.rows w.columns (position x y) (get_or w.directions (position x y) 0)
      ≡ rim (view_of w) x y ((view_of w).path x y)
  rim_seen x y i f =
      let a = inner_between w.rows w.columns x y i.row_low i.row_high i.column_low i.column_high in
      let s = position_read x y (omega (arith, i.column_high, (formed_of w r).sizes.columns_high)) in
      let p : (view_of w).path x y ≡ heading (get_or w.directions (position x y) 0) =
      fault_path (view_of w) (planned_of w r) x y (rw a tt) (rw f tt) ∙ rw (a, f) in
      rim_is (view_of w) (position x y) (get_or w.directions (position x y) 0)
      ∙ rw (s.0, s.1) (ap (rim (view_of w) x y) (sym p))

  meets_off : (i j side k l : ℕ) (port : Compass) → Neighbour w i j side k l port
      → (x y : ℕ) → Meets (view_of w) side i j x y → OffRim (view_of w) x y
  meets_off i j side k l port (right c h) x y m =
      passed_off (view_of w) rules_of i j
      (record { row_low = c.row_low; row_high = c.row_high; column_low = c.column_low; column_high = h })
      (name x y) m
  meets_off i j side k l port (lower c h) x y m =
      off_back (view_of w) x y
      (passed_off (transposed (view_of w)) rules_turned j i
      (record { row_low = c.column_low; row_high = c.column_high; column_low = c.row_low; column_high = h })
      (name y x) m)

  pub avoids : (i j side k l : ℕ) (port : Compass) (n : Neighbour w i j side k l port)
      → (x y : ℕ) → RimFault w (position x y) → Visits (good w r i j side k l port n).reaches.link (Processor x y) → ⊥
  avoids i j side k l port n x y f g = ⊎_elim at_fault at_end ((good w r i j side k l port n).meets x y g)
    where
      at_fault : Meets (view_of w) side i j x y → ⊥
      at_fault m =
          let o = meets_off i j side k l port n x y m in
          true≢false (sym f.starts ∙ rim_seen x y o.place o.fault ∙ o.away)

      at_end : processor_of (holder w k l) ≡ Processor x y → ⊥
      at_end e =
          let q = holder w k l in
          let p : position (row q) (column q) ≡ position x y = ap position_of e in
          let s : position x y ≡ q = omega (arith, p) in
          let b = (and_true (inner w.rows w.columns (position x y)) _ f.is_fault).1 in
          let h = healthy_not_faulty (mark_at w.grid q) (sits w r k l (neighbour_cell w i j side k l port n)).1 in
          true≢false (sym b ∙ ap (faulty w.grid) s ∙ h)

  -- what follows from any link to a neighbour that passes the fault at (x, y)
  abbrev IfMet : Type 0 → ℕ → ℕ → Type 0
  IfMet A x y = (i j side k l : ℕ) (port : Compass) → Neighbour w i j side k l port → Meets (view_of w) side i j x y → A

  from_east : {A : Type 0} (x y : ℕ) → IfMet A x y → OnLink (view_of w) x y → A
  from_east x y f o =
      let c = o.cell in
      let n : o.j ≤ w.columns = omega (arith, c.column_high) in
      f o.i o.j 0 o.i (o.j + 1) W
      (right (record { row_low = c.row_low; row_high = c.row_high; column_low = c.column_low; column_high = n })
      c.column_high) o.passes

  from_south : {A : Type 0} (x y : ℕ) → IfMet A x y → OnLink (transposed (view_of w)) y x → A
  from_south x y f o =
      let c = o.cell in
      let n : o.j ≤ w.rows = omega (arith, c.column_high) in
      f o.j o.i 1 (o.j + 1) o.i N
      (lower (record { row_low = c.column_low; row_high = n; column_low = c.row_low; column_high = c.row_high })
      c.column_high) o.passes

  met : {A : Type 0} (x y : ℕ) → OffRim (view_of w) x y → IfMet A x y → A
  met x y o f =
      let v = view_of w in
      let i = o.place in
      let a = inner_between w.rows w.columns x y i.row_low i.row_high i.column_low i.column_high in
      ⊎_elim (λ t. from_east x y f (off_passed v rules_of x y (v.path x y) refl t o))
      (λ t. from_south x y f (off_passed (transposed v) rules_turned y x (tr (v.path x y)) refl t (off_turned v x y o)))
      (axis_of (v.path x y) (covered v (planned_of w r) x y (rw a tt) (rw o.fault tt)))

  pub met_fault : {A : Type 0} (p : ℕ) → inner_fault w.rows w.columns w.grid p ≡ true
      → from_rim w.rows w.columns p (get_or w.directions p 0) ≡ false → IfMet A (row p) (column p) → A
  met_fault p h b =
      let a = and_true (inner w.rows w.columns p) _ h in
      let e : position (row p) (column p) ≡ p = omega arith in
      let i = inner_holds w.rows w.columns p a.0 in
      let f : faulty w.grid (position (row p) (column p)) ≡ true = rw e a.1 in
      met (row p) (column p) (record { place = i; fault = f; away = sym (rim_seen (row p) (column p) i f) ∙ rw e b })
