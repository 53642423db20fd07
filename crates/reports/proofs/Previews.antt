-- A preview and its report cannot part, by the answer of the report.
-- Assumes nothing.
use Rattle.std.specs.Prelude.{Ok, Err}
use Prim.Native.Nat.{ℕ}
use mathlib.Core.Path.{◌≡◌, refl, sym, ap, subst, ◌∙◌}
use mathlib.Core.Bool.{Bool, true, false, cond}
use lib.Seq.{get_or-set_same}
use lib.ListN.{get_or}
use native.Mathlib.Omega.{arith}
use Rattle.array.specs.Place.{inner}
use Rattle.array.specs.Tests.{Verdict}
use Rattle.sessions.specs.Session.{session_if, taken, report_test, path_of, changed, session_reported}
use Rattle.sessions.specs.declared.Session.{Session}
use Rattle.sessions.proofs.Judging.{taken_spare}
use Rattle.previews.specs.Preview.{shown_at, foretold_if, foretold}
use Rattle.previews.specs.declared.Foretold.{Foretold}
use Rattle.reports.specs.Theorems.{SoundSession}
use Rattle.reports.specs.Previews.{as_foretold, Previews}
use Rattle.reports.proofs.Reports.{report_allowed, fails}
use Rattle.reports.proofs.Sound.{sessions}

module _ (s : Session) (failing : Bool) (p : ℕ) (h : report_test s failing p ≡ Ok tt) where
  -- the session after an accepted report, and what its preview gives
  abbrev after : Session
  after = changed s failing p (path_of s failing p)

  leaves : session_reported s failing p ≡ after
  unfolding session_reported
  leaves = ap (λ (v : Verdict). session_if v after s) h

  gives : foretold s failing p ≡ shown_at after p
  unfolding foretold
  gives =
      ap (λ (v : Verdict). foretold_if v (shown_at (session_reported s failing p) p)) h
      ∙ ap (λ (t : Session). shown_at t p) leaves

  -- the direction that the buffer has at p then
  direction_left : get_or after.directions p 0 ≡ cond failing (path_of s failing p) 0
  unfolding changed
  direction_left =
      let x = (report_allowed s failing p h).placed in
      get_or-set_same s.directions p _ 0 (omega (arith, x.below, x.held.wide))

  direction_is : (foretold s failing p).direction ≡ cond failing (path_of s failing p) 0
  direction_is = ap (λ f. f.direction) gives ∙ direction_left

  -- the session that is made of this direction and the counters
  abbrev by_direction : ℕ → Session
  by_direction d =
      as_foretold s failing p
      (record { direction = d; south = after.south; north = after.north; east = after.east; west = after.west })

  left_as_foretold : session_reported s failing p ≡ as_foretold s failing p (foretold s failing p)
  unfolding changed
  left_as_foretold = leaves ∙ ap by_direction (sym direction_left) ∙ ap (as_foretold s failing p) (sym gives)

-- a failing processor has the direction that it takes
failing_has : (s : Session) (p : ℕ) → report_test s true p ≡ Ok tt → (foretold s true p).direction ≡ taken s p
unfolding path_of
failing_has s p h = direction_is s true p h

-- beside a refusal the direction is 0
none_refused : (v : Verdict) (f : Foretold) → (v ≡ Ok tt → (foretold_if v f).direction ≡ 0)
    → (foretold_if v f).direction ≡ 0
none_refused (Ok tt) f h = h refl
none_refused (Err r) f h = refl

-- so it is 0 where that of an accepted report is
none_if : (s : Session) (failing : Bool) (p : ℕ)
    → (report_test s failing p ≡ Ok tt → (foretold s failing p).direction ≡ 0) → (foretold s failing p).direction ≡ 0
unfolding foretold
none_if s failing p h = none_refused (report_test s failing p) (shown_at (session_reported s failing p) p) h

recovering_has_none : (s : Session) (p : ℕ) → (foretold s false p).direction ≡ 0
recovering_has_none s p = none_if s false p (direction_is s false p)

spare_has : (s : Session) (failing : Bool) (p : ℕ) → inner s.rows s.columns p ≡ false
    → (foretold s failing p).direction ≡ 0
spare_has s true p i = none_if s true p (λ h. failing_has s p h ∙ taken_spare s p i)
spare_has s false p i = recovering_has_none s p

pub previews : Previews
previews =
    record {
      report_as_foretold = left_as_foretold;
      direction_taken = failing_has;
      inner_has_direction = λ s p h i z.
          (fails s p (report_allowed s true p h).tested).found i (sym (failing_has s p h) ∙ z);
      spare_has_none = spare_has;
      recovery_has_none = recovering_has_none;
      foretold_sound = λ s failing p w h.
          subst SoundSession (left_as_foretold s failing p h) (sessions.report_sound s failing p w);
    }
