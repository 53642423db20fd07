-- What the tests of a report come to, and what a report leaves, by its answer.
-- Assumes nothing.
use Rattle.std.specs.Prelude.{Ok, Err, Option, Some, None}
use Rattle.std.specs.Option.{MatchOption, ok_or}
use Prim.Native.Nat.{ℕ, ◌≤◌, ◌<◌}
use mathlib.Core.Path.{◌≡◌, refl, sym, ap, ◌∙◌}
use mathlib.Core.Bool.{Bool, true, false, cond, not, ◌&&◌}
use mathlib.Core.List.{List}
use native.Mathlib.Omega.{arith}
use lib.Dec.{eqb}
use lib.ListN.{length, get_or}
use Rattle.array.specs.Place.{inner, processor}
use Rattle.array.specs.Buffer.{buffer}
use Rattle.array.specs.Map.{faulty}
use Rattle.array.specs.Tests.{Verdict, or_else, refusal, refuse_if}
use Rattle.array.specs.declared.Refusal.{Refusal}
use Rattle.array.proofs.Bools.{and_none, by_bool, by_lt, cond_taken, cond_left}
use Rattle.array.proofs.Copies.{element_of, copied}
use Rattle.array.proofs.Verdicts.{both_accepted, accepted_not}
use Rattle.counters.specs.Count.{altered_at, counters_after}
use Rattle.counters.proofs.Tallies.{no_path_counts}
use Rattle.sessions.specs.declared.Session.{Session}
use Rattle.plans.specs.Check.{check_plan}
use Rattle.sessions.specs.Session.{no_session, begun, session_started, session_if, first_direction, qualifies, taken, session_test, fail_test, recover_test, report_test}
use Rattle.sessions.specs.Session.{path_of, changed, session_reported}
use Rattle.sessions.specs.Inner.{Standing, reported_test, unused_test, some_direction, judged_as, taken_judged}

-- where no path comes or goes the counters stay
pub none_altered : (n m : ℕ) (up : Bool) (q e d : ℕ) (old : List ℕ) → e ≡ 0 → length old ≡ 1024
    → old ≡ counters_after n m up q e d old
unfolding counters_after
none_altered n m up q e d old z h =
    sym (copied old 1024 h) ∙ (λ i. buffer (λ p. stays p i))
    ∙ ap (λ (k : ℕ). buffer (altered_at n m up q k d old)) (sym z)
  where
    stays : (p : ℕ) → element_of old p ≡ altered_at n m up q 0 d old p
    stays p = rw (no_path_counts n m d p q, and_none (inner n m p))

-- an inner processor takes the first direction that qualifies, a spare none
pub taken_inner : (s : Session) (p : ℕ) → inner s.rows s.columns p ≡ true → taken s p
    ≡ first_direction s.rows s.columns s.grid p (get_or s.south p 0) (get_or s.north p 0) (get_or s.east p 0)
    (get_or s.west p 0)
taken_inner s p i = cond_taken _ _ refl i

pub taken_spare : (s : Session) (p : ℕ) → inner s.rows s.columns p ≡ false → taken s p ≡ 0
taken_spare s p i = cond_left _ _ refl i

-- the direction taken is one of four, or 0
picked_high : (a b c d : Bool) → cond a 1 (cond b 2 (cond c 3 (cond d 4 0))) ≤ 4
picked_high true b c d = omega arith
picked_high false true c d = omega arith
picked_high false false true d = omega arith
picked_high false false false true = omega arith
picked_high false false false false = omega arith

pub first_high : (n m : ℕ) (grid : List ℕ) (p a b c d : ℕ) → first_direction n m grid p a b c d ≤ 4
unfolding first_direction
first_high n m grid p a b c d =
    picked_high (qualifies n m grid p 1 a) (qualifies n m grid p 2 b) (qualifies n m grid p 3 c) (qualifies n m grid p 4 d)

-- the first of four that passes a test
pub first_passing : (r : Option ℕ) (q : ℕ → Bool)
    → MatchOption r ((k : ℕ) → 1 ≤ k → k < 5 → q k ≡ false)
    (λ i. (1 ≤ i) × (i < 5) × (q i ≡ true) × ((k : ℕ) → 1 ≤ k → k < i → q k ≡ false))
    → r ≡ some_direction (cond (q 1) 1 (cond (q 2) 2 (cond (q 3) 3 (cond (q 4) 4 0))))
first_passing None q h =
    rw (h 1 (omega arith) (omega arith), h 2 (omega arith) (omega arith), h 3 (omega arith) (omega arith), h 4 (omega arith) (omega arith))
first_passing (Some i) q h =
    let at : (k : ℕ) → i ≡ k → q k ≡ true = λ k e. ap q (sym e) ∙ h.2 in
    let before : (k : ℕ) → 1 ≤ k → k < i → q k ≡ false = h.3 in
    by_lt 1 i
    (λ a.
    let one = before 1 (omega arith) a in
    by_lt 2 i
    (λ b.
    let two = before 2 (omega arith) b in
    by_lt 3 i
    (λ c.
    let three = before 3 (omega arith) c in
    let e : i ≡ 4 = omega (arith, h.1) in
    let four = at 4 e in
    rw (one, two, three, four) (ap Some e))
    (λ c.
    let e : i ≡ 3 = omega arith in
    let three = at 3 e in
    rw (one, two, three) (ap Some e)))
    (λ b.
    let e : i ≡ 2 = omega arith in
    let two = at 2 e in
    rw (one, two) (ap Some e)))
    (λ a.
    let e : i ≡ 1 = omega (arith, h.0) in
    let one = at 1 e in
    rw one (ap Some e))

-- what is found of a direction that is taken, with 24 where it is 0
pub found_judged : (t p : ℕ) {i : Bool} → i ≡ true
    → ok_or (some_direction t) (refusal 24 p 0) ≡ judged_as (refuse_if (i && eqb t 0) 24 p 0) t
found_judged t p i = by_bool (eqb t 0) (λ z. rw (i, z)) (λ z. rw (i, z))

-- tests one after the other
tests_joined : (a b c : Verdict) → or_else a (or_else b c) ≡ or_else (or_else a b) c
tests_joined (Ok _) b c = refl
tests_joined (Err r) b c = refl

stopped : {a : Verdict} {r : Refusal} (b : Verdict) → a ≡ Err r → or_else a b ≡ Err r
stopped b h = ap (λ (v : Verdict). or_else v b) h

passed : {a : Verdict} (b : Verdict) → a ≡ Ok tt → or_else a b ≡ b
passed b h = ap (λ (v : Verdict). or_else v b) h

-- an answer with a direction, taken apart
judged_stops : (v : Verdict) (e : ℕ) {r : Refusal} → judged_as v e ≡ Err r → v ≡ Err r
judged_stops (Ok _) e h = let z : ◌≡◌ {A = ℕ} 0 1 = cc in absurd (omega arith)
judged_stops (Err s) e h = cc

judged_passes : (v : Verdict) (e : ℕ) {d : ℕ} → judged_as v e ≡ Ok d → (v ≡ Ok tt) × (e ≡ d)
judged_passes (Ok _) e h = (refl, cc)
judged_passes (Err s) e h = let z : ◌≡◌ {A = ℕ} 0 1 = cc in absurd (omega arith)

module _ (s : Session) (p : ℕ) where
  -- 1 to 7 and 15, and then the others
  in_order : (failing : Bool) → report_test s failing p ≡ or_else (reported_test s p) (cond failing (fail_test s p) (recover_test s p))
  unfolding report_test
  in_order failing = tests_joined (session_test s) _ _

  pub reported_stops : (failing : Bool) {r : Refusal} → reported_test s p ≡ Err r → report_test s failing p ≡ Err r
  reported_stops failing h = in_order failing ∙ stopped _ h

  module _ (h : reported_test s p ≡ Ok tt) where
    pub standing : Standing s p
    standing =
        let a = both_accepted (session_test s) (refuse_if (not (processor s.rows s.columns p)) 15 0 0) h in
        record { passes = a.0; stands = accepted_not (processor s.rows s.columns p) 15 0 0 a.1 }

    fails : report_test s true p ≡ fail_test s p
    fails = in_order true ∙ passed _ h

    pub recovers : report_test s false p ≡ recover_test s p
    recovers = in_order false ∙ passed _ h

    -- 22 and 23 of a failing processor, and then 24
    unused_first : fail_test s p
        ≡ or_else (unused_test s.rows s.columns s.grid s.directions p) (refuse_if (inner s.rows s.columns p && eqb (taken s p) 0) 24 p 0)
    unfolding fail_test
    unused_first = tests_joined (refuse_if (faulty s.grid p) 22 p 0) _ _

    pub unused_stops : {r : Refusal} → unused_test s.rows s.columns s.grid s.directions p ≡ Err r → report_test s true p ≡ Err r
    unused_stops u = fails ∙ unused_first ∙ stopped _ u

    module _ (u : unused_test s.rows s.columns s.grid s.directions p ≡ Ok tt) where
      pub taking_stops : {r : Refusal} → taken_judged s p ≡ Err r → report_test s true p ≡ Err r
      taking_stops t = fails ∙ unused_first ∙ passed _ u ∙ judged_stops _ (taken s p) t

      pub failing_passes : {e : ℕ} → taken_judged s p ≡ Ok e → (report_test s true p ≡ Ok tt) × (taken s p ≡ e)
      failing_passes t =
          let j = judged_passes _ (taken s p) t in
          (fails ∙ unused_first ∙ passed _ u ∙ j.0, j.1)

  -- an accepted report stands
  pub accepted_standing : (failing : Bool) → report_test s failing p ≡ Ok tt → Standing s p
  accepted_standing failing h = standing (both_accepted (reported_test s p) _ (sym (in_order failing) ∙ h)).0

  -- what is left, where the report is refused and where it is accepted
  module _ (failing : Bool) where
    pub refused_leaves : {r : Refusal} → report_test s failing p ≡ Err r → s ≡ session_reported s failing p
    unfolding session_reported
    refused_leaves h = ap (λ (v : Verdict). session_if v (changed s failing p (path_of s failing p)) s) (sym h)

    pub accepted_leaves : report_test s failing p ≡ Ok tt
        → changed s failing p (path_of s failing p) ≡ session_reported s failing p
    unfolding session_reported
    accepted_leaves h = ap (λ (v : Verdict). session_if v (changed s failing p (path_of s failing p)) s) (sym h)

-- the start
module _ (n m : ℕ) (grid directions : List ℕ) where
  pub start_accepted : check_plan n m grid directions ≡ Ok tt
      → begun n m grid directions ≡ session_started n m grid directions
  unfolding session_started
  start_accepted h = ap (λ (v : Verdict). session_if v (begun n m grid directions) no_session) (sym h)
