-- The plan check accepts plans and nothing else.
-- Assumes nothing.
use Rattle.std.specs.Prelude.{Ok}
use mathlib.Core.Path.{◌≡◌, sym, ap, ◌∙◌}
use mathlib.Core.Bool.{Bool, true, false, ◌&&◌, ◌||◌}
use mathlib.Core.List.{List}
use Prim.Native.Nat.{ℕ, ◌<◌, ◌≤◌}
use native.Mathlib.Omega.{arith}
use borrow.Author.Tests.{not-false, eqb-true, eq-eqb, ne_eqb, le-ltb}
use lib.Dec.{eqb, ltb}
use lib.ListN.{length, get_or}
use Rattle.array.specs.Tests.{or_else}
use Rattle.array.specs.Buffer.{long}
use Rattle.array.specs.Map.{map_tests, well_formed, inner_fault}
use Rattle.array.proofs.Bools.{and_true, or_false, by_bool}
use Rattle.array.proofs.Verdicts.{both_accepted, accept_both, accepted_false, false_accepted}
use Rattle.array.proofs.Scans.{buffer_scan, scan_each, scan_all}
use Rattle.array.proofs.Maps.{map_accepted}
use Rattle.array.proofs.Formed.{Formed, formed, formed_lent, grid_and}
use Rattle.plans.specs.Faults.{faults, directions_at, paired, directed_faults}
use Rattle.plans.specs.Plan.{Choice, Plan}
use Rattle.plans.specs.Check.{wrong_direction, direction_test, directions_test, paths_test, plan_tests, check_plan, HoldsPlan, AcceptsPlans}
use Rattle.plans.specs.Inner.{Starts, Sound}
use Rattle.plans.proofs.Pairing.{directions_length}
use Rattle.plans.proofs.ByPosition.{buffer_plan}
use Rattle.plans.proofs.Facts.{fault_starts}
use Rattle.plans.proofs.Planned.{paths_plan, plan_paths}

-- a direction that is not wrong off the inner faults is 0
off_fault : (d : ℕ) → wrong_direction false d ≡ false → d ≡ 0
off_fault d h =
    let x = or_false (ltb 4 d || (false && eqb d 0)) _ h in
    eqb-true d 0 (not-false _ x.1)

straight_right : (d : ℕ) → 1 ≤ d → d ≤ 4 → wrong_direction true d ≡ false
straight_right d l h =
    let a : ltb 4 d ≡ false = le-ltb 4 d h in
    let b : eqb d 0 ≡ false = ne_eqb d 0 (λ e. omega arith) in
    rw (a, b)

-- The check and the plan, on a well-formed map.
module _ (n m : ℕ) (grid directions : List ℕ) (accepted-map : well_formed n m grid ≡ Ok tt) (wide : length directions ≡ 1024) where
  abbrev starts : List ℕ
  starts = faults n m grid

  abbrev ds : List ℕ
  ds = directions_at directions starts

  map : Formed n m grid
  map = formed n m grid accepted-map

  same : length ds ≡ length starts
  same = directions_length directions starts

  right : (long grid && (long directions && true)) ≡ true
  right = grid_and n m grid (long directions && true) accepted-map (rw (eq-eqb (length directions) 1024 wide))

  formed_right : map_tests n m (long grid && (long directions && true)) grid ≡ Ok tt
  formed_right = formed_lent n m grid (long grid && (long directions && true)) accepted-map right

  sound : Sound n m grid directions
  sound = record { rows = map.sizes.rows_high; columns = map.sizes.columns_high; grid_long = map.length_is; directions_long = wide }

  -- from the check to the plan
  module _ (directed : directions_test n m grid directions ≡ Ok tt) where
    chosen : Choice n m grid ds
    chosen =
        let begun : Starts n m starts ds = fault_starts n m grid directions (record { sound = sound; right = directed }) in
        record {
          one_each = same;
          straight = λ k h. let s = begun.each k (omega (arith, h, same)) in (s.low, s.high);
        }

    nothing_else : (p : ℕ) → p < 1024 → inner_fault n m grid p ≡ false → get_or directions p 0 ≡ 0
    nothing_else p h f =
        let l : p < length directions = omega arith in
        let w = accepted_false (wrong_direction (inner_fault n m grid p) (get_or directions p 0)) 4 p 0
        (scan_each (buffer_scan (direction_test n m grid) directions) directed p l) in
        off_fault (get_or directions p 0) (rw f at w)

  -- from the plan to the check
  module _ (plan : Plan n m grid ds) (elsewhere : (p : ℕ) → p < 1024 → inner_fault n m grid p ≡ false → get_or directions p 0 ≡ 0) where
    at_fault : (p : ℕ) → inner_fault n m grid p ≡ true → wrong_direction true (get_or directions p 0) ≡ false
    at_fault p f =
        let s = ((buffer_plan n m grid directions).0 plan).straight p f in
        straight_right (get_or directions p 0) s.0 s.1

    direction_right : (p : ℕ) → p < length directions → direction_test n m grid p (get_or directions p 0) ≡ Ok tt
    direction_right p h =
        by_bool (inner_fault n m grid p)
        (λ f.
        let e : wrong_direction (inner_fault n m grid p) (get_or directions p 0) ≡ false = rw f (at_fault p f) in
        false_accepted 4 p 0 e)
        (λ f.
        let e : wrong_direction (inner_fault n m grid p) (get_or directions p 0) ≡ false = rw (f, elsewhere p (omega arith) f) in
        false_accepted 4 p 0 e)

    accepted : check_plan n m grid directions ≡ Ok tt
    unfolding plan_tests
    accepted =
        accept_both formed_right
        (accept_both (scan_all (buffer_scan (direction_test n m grid) directions) direction_right) (plan_paths n m grid ds plan))

  checked : check_plan n m grid directions ≡ Ok tt
      → Plan n m grid ds × ((p : ℕ) → p < 1024 → inner_fault n m grid p ≡ false → get_or directions p 0 ≡ 0)
  unfolding plan_tests
  checked h =
      let a = both_accepted (map_tests n m (long grid && (long directions && true)) grid)
      (or_else (directions_test n m grid directions) (paths_test n m grid (paired starts ds))) h in
      let b = both_accepted (directions_test n m grid directions) (paths_test n m grid (paired starts ds)) a.1 in
      (paths_plan n m grid ds (chosen b.0) b.1, nothing_else b.0)

-- an accepted call's map is well-formed, and its direction buffer has its length
map_of : (n m : ℕ) (grid directions : List ℕ) → check_plan n m grid directions ≡ Ok tt
    → (map_tests n m (long grid && (long directions && true)) grid ≡ Ok tt)
    × ((long grid && (long directions && true)) ≡ true)
unfolding plan_tests
map_of n m grid directions h =
    let a = both_accepted (map_tests n m (long grid && (long directions && true)) grid)
    (or_else (directions_test n m grid directions) (paths_test n m grid (directed_faults n m grid directions))) h in
    (a.0, (map_accepted n m (long grid && (long directions && true)) grid a.0).lengths)

holds_plan : (n m : ℕ) (grid directions : List ℕ) → check_plan n m grid directions ≡ Ok tt → HoldsPlan n m grid directions
holds_plan n m grid directions h =
    let a = map_of n m grid directions h in
    let b = and_true (long grid) (long directions && true) a.1 in
    let d = and_true (long directions) true b.1 in
    let e : (long grid && true) ≡ true = rw b.0 in
    let f : well_formed n m grid ≡ Ok tt = ap (λ (r : Bool). map_tests n m r grid) (e ∙ sym a.1) ∙ a.0 in
    let l = eqb-true (length directions) 1024 d.0 in
    let c = checked n m grid directions f l h in
    record { map = f; length_right = l; plan = c.0; elsewhere = c.1 }

pub accepts_plans : AcceptsPlans
accepts_plans n m grid directions =
    (holds_plan n m grid directions, λ h. accepted n m grid directions h.map h.length_right h.plan h.elsewhere)

-- a plan passes 1 to 7 in whatever call, wherever all lent buffers have their length
pub plan_lent : (n m : ℕ) (grid directions : List ℕ) (right : Bool) → check_plan n m grid directions ≡ Ok tt → right ≡ true
    → plan_tests n m right grid directions ≡ Ok tt
plan_lent n m grid directions right h e =
    ap (λ (b : Bool). plan_tests n m b grid directions) (e ∙ sym (map_of n m grid directions h).1) ∙ h
