-- What an accepted report says.
-- Assumes nothing.
use Rattle.std.specs.Prelude.{Ok}
use Prim.Native.Nat.{ℕ, ◌≤◌, ◌<◌}
use mathlib.Core.Path.{◌≡◌, refl, sym, ◌∙◌}
use mathlib.Core.Bool.{Bool, true, false, cond, not, ◌&&◌, true≢false}
use mathlib.Core.List.{List}
use native.Mathlib.Omega.{arith}
use borrow.Author.Tests.{eqb-true, eq-eqb}
use lib.Dec.{eqb}
use lib.ListN.{length, get_or}
use Rattle.array.specs.Place.{inner, processor}
use Rattle.array.specs.Map.{faulty}
use Rattle.array.specs.Tests.{refuse_if}
use Rattle.array.proofs.Bools.{and_true}
use Rattle.array.proofs.Verdicts.{both_accepted, accepted_false, accepted_not}
use Rattle.array.proofs.Scans.{buffer_scan, scan_each}
use Rattle.array.proofs.Formed.{formed}
use Rattle.paths.specs.Path.{member, path, is_open}
use Rattle.paths.proofs.Ways.{Way, south, north, east, west}
use Rattle.sessions.specs.Session.{qualifies, first_direction, taken, session_test, path_test, kept_paths_test, fail_test, recover_test, report_test}
use Rattle.sessions.specs.declared.Session.{Session}
use Rattle.sessions.proofs.Stood.{processor_below}
use Rattle.reports.specs.Readings.{counters_of}
use Rattle.reports.proofs.Held.{Held, accepted_held}

-- the first of four tests that passes
abbrev pick : Bool → Bool → Bool → Bool → ℕ
pick a b c d = cond a 1 (cond b 2 (cond c 3 (cond d 4 0)))

picked : (P : ℕ → Type 0) (a b c d : Bool) → (a ≡ true → P 1) → (b ≡ true → P 2) → (c ≡ true → P 3) → (d ≡ true → P 4)
    → (pick a b c d ≡ 0 → ⊥) → P (pick a b c d)
picked P true b c d f g h k ne = f refl
picked P false true c d f g h k ne = g refl
picked P false false true d f g h k ne = h refl
picked P false false false true f g h k ne = k refl
picked P false false false false f g h k ne = absurd (ne refl)

-- the direction d qualifies at p
pub record Chosen (s : Session) (p d : ℕ) : Type 0 where
  pub way : Way d
  pub open_path : is_open s.rows s.columns s.grid p d ≡ true
  pub zero : get_or (counters_of s d) p 0 ≡ 0

module _ (s : Session) (p : ℕ) where
  -- the first direction that qualifies
  abbrev pub chosen : ℕ
  chosen =
      first_direction s.rows s.columns s.grid p (get_or s.south p 0) (get_or s.north p 0) (get_or s.east p 0)
      (get_or s.west p 0)

  pub first_chosen : (chosen ≡ 0 → ⊥) → Chosen s p chosen
  unfolding first_direction
  first_chosen ne =
      let q : ℕ → List ℕ → Bool = λ d counters. qualifies s.rows s.columns s.grid p d (get_or counters p 0) in
      picked (Chosen s p) (q 1 s.south) (q 2 s.north) (q 3 s.east) (q 4 s.west)
      (λ e. let x = and_true _ _ e in record { way = south; open_path = x.0; zero = eqb-true _ _ x.1 })
      (λ e. let x = and_true _ _ e in record { way = north; open_path = x.0; zero = eqb-true _ _ x.1 })
      (λ e. let x = and_true _ _ e in record { way = east; open_path = x.0; zero = eqb-true _ _ x.1 })
      (λ e. let x = and_true _ _ e in record { way = west; open_path = x.0; zero = eqb-true _ _ x.1 }) ne

pub way_low : {d : ℕ} → Way d → 1 ≤ d
way_low south = omega arith
way_low north = omega arith
way_low east = omega arith
way_low west = omega arith

pub way_high : {d : ℕ} → Way d → d ≤ 4
way_high south = omega arith
way_high north = omega arith
way_high east = omega arith
way_high west = omega arith

-- a session that passes 1 to 7, and a processor of it
pub record Placed (s : Session) (p : ℕ) : Type 0 where
  pub held : Held s.rows s.columns s.grid s.directions
  pub stands : processor s.rows s.columns p ≡ true
  pub below : p < 1024

-- a report that is accepted
pub record Allowed (s : Session) (failing : Bool) (p : ℕ) : Type 0 where
  pub placed : Placed s p
  pub tested : cond failing (fail_test s p) (recover_test s p) ≡ Ok tt

pub report_allowed : (s : Session) (failing : Bool) (p : ℕ) → report_test s failing p ≡ Ok tt → Allowed s failing p
unfolding report_test
report_allowed s failing p h =
    let a = both_accepted (session_test s) _ h in
    let b = both_accepted (refuse_if (not (processor s.rows s.columns p)) 15 0 0)
    (cond failing (fail_test s p) (recover_test s p)) a.1 in
    let t = accepted_not _ 15 0 0 b.0 in
    let x = accepted_held s.rows s.columns s.grid s.directions a.0 in
    let z = (formed s.rows s.columns s.grid x.map).sizes in
    record {
      placed = record {
        held = x;
        stands = t;
        below = processor_below s.rows s.columns p z.rows_high t;
      };
      tested = b.1;
    }

-- a failing processor that is accepted
pub record Fails (s : Session) (p : ℕ) : Type 0 where
  pub not_faulty : faulty s.grid p ≡ false
  pub free : (q : ℕ) → q < length s.directions
      → member p (path s.rows s.columns q (get_or s.directions q 0)) ≡ false
  pub found : inner s.rows s.columns p ≡ true → taken s p ≡ 0 → ⊥

pub fails : (s : Session) (p : ℕ) → fail_test s p ≡ Ok tt → Fails s p
unfolding fail_test
fails s p h =
    let a = both_accepted (refuse_if (faulty s.grid p) 22 p 0) _ h in
    let b = both_accepted (kept_paths_test s.rows s.columns s.directions p) _ a.1 in
    record {
      not_faulty = accepted_false (faulty s.grid p) 22 p 0 a.0;
      free = λ q l.
          accepted_false _ 23 p 0 (scan_each (buffer_scan (path_test s.rows s.columns p) s.directions) b.0 q l);
      found = λ i z.
          true≢false
          (sym (λ k. (i k && eq-eqb (taken s p) 0 z k))
          ∙ accepted_false (inner s.rows s.columns p && eqb (taken s p) 0) 24 p 0 b.1);
    }
