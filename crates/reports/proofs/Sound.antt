-- A sound session stays sound: the theorem of T-07.
-- Assumes nothing.
use Rattle.std.specs.Prelude.{Ok, Err}
use Prim.Native.Nat.{ℕ, ◌+◌, ◌<◌}
use mathlib.Core.Path.{◌≡◌, refl, sym, ap, subst, ◌∙◌}
use mathlib.Core.Bool.{Bool, true, false, true≢false, false≢true}
use mathlib.Core.List.{List, [], ◌∷◌}
use native.Mathlib.Omega.{arith}
use borrow.Author.Tests.{ne_eqb, not-false}
use lib.ListN.{length, get_or, set}
use Rattle.array.specs.Place.{inner}
use Rattle.array.specs.Buffer.{positions_in}
use Rattle.array.specs.Map.{faulty_mark, inner_fault}
use Rattle.array.specs.Tests.{Verdict}
use Rattle.array.proofs.Bools.{and_true, and_none, and_one, by_bool}
use Rattle.array.proofs.Formed.{formed}
use Rattle.array.proofs.Positions.{position_index}
use Rattle.paths.specs.Path.{path, clear}
use Rattle.paths.proofs.Ways.{Way, south, north, east, west}
use Rattle.plans.specs.Check.{check_plan}
use Rattle.counters.specs.Count.{counts, count_afresh, counters_afresh, counters_after}
use Rattle.sessions.specs.Session.{taken, session_started, session_if, begun, report_test, path_of, changed, session_reported}
use Rattle.sessions.specs.declared.Session.{Session}
use Rattle.counters.proofs.Tallies.{no_path_counts}
use Rattle.sessions.proofs.Few.{few_count}
use Rattle.sessions.proofs.Judging.{taken_inner, taken_spare}
use Rattle.sessions.proofs.Judging.{start_accepted}
use Rattle.reports.specs.Theorems.{SoundSession, Report, after_all, Sessions}
use Rattle.reports.specs.Readings.{counters_of}
use Rattle.reports.proofs.Held.{Held, held_accepted, fault_within}
use Rattle.reports.proofs.Opens.{after_on}
use Rattle.reports.proofs.Changed.{Free, changed_held}
use Rattle.reports.proofs.Counted.{one, count_set, inner_count, held_count, counters_up, counters_down}
use Rattle.reports.proofs.Reports.{chosen, first_chosen, way_low, way_high, Placed, report_allowed, Fails, fails}

-- each counter buffer is made afresh
pub counted : (s : Session) (d : ℕ) → SoundSession s → Way d
    → counters_of s d ≡ counters_afresh s.rows s.columns s.directions d
counted s d h south = h.south_right
counted s d h north = h.north_right
counted s d h east = h.east_right
counted s d h west = h.west_right

-- by position
pub counter_at : (s : Session) (d p : ℕ) → SoundSession s → Way d → p < 1024
    → get_or (counters_of s d) p 0 ≡ count_afresh s.rows s.columns s.directions d p
counter_at s d p h w l =
    ap (λ (b : List ℕ). get_or b p 0) (counted s d h w) ∙ held_count s.rows s.columns d s.directions p l

-- a count that is 0 counts nothing
nothing_counts : (t : ℕ → ℕ → Bool) (b : List ℕ) → length (positions_in t b) ≡ 0
    → (q : ℕ) → q < length b → t q (get_or b q 0) ≡ false
nothing_counts t b z q l =
    by_bool (t q (get_or b q 0)) (λ e. let x = position_index t b q l e in absurd (omega (arith, x.below, z))) (λ e. e)

-- what another path does that does not count
not_counted : (n m d p q e : ℕ) → (e ≡ 0 → ⊥) → (q ≡ p → ⊥) → counts n m d p q e ≡ false → clear n m p d q e ≡ true
unfolding counts
not_counted n m d p q e h g c = not-false (clear n m p d q e) (rw (ne_eqb e 0 h, ne_eqb q p g) at c)

module _ (s : Session) (p : ℕ) (h : SoundSession s) (o : Placed s p) where
  abbrev n : ℕ
  n = s.rows

  abbrev m : ℕ
  m = s.columns

  abbrev ds : List ℕ
  ds = s.directions

  long : p < length ds
  long = omega (arith, o.below, o.held.wide)

  fault_below : (q : ℕ) → inner_fault n m s.grid q ≡ true → q < length ds
  fault_below q g = omega (arith, fault_within n m s.grid ds o.held q g, o.held.wide)

  count_zero : (d : ℕ) → Way d → inner n m p ≡ true → get_or (counters_of s d) p 0 ≡ 0
      → length (positions_in (counts n m d p) ds) ≡ 0
  count_zero d w i z = sym (counter_at s d p h w o.below ∙ inner_count n m d ds p i) ∙ z

  -- a failing processor
  module _ (f : Fails s p) where
    abbrev t : ℕ
    t = taken s p

    was : inner_fault n m s.grid p ≡ false
    was = rw f.not_faulty (and_none (inner n m p))

    old_none : get_or ds p 0 ≡ 0
    old_none = o.held.elsewhere p o.below was

    free : inner n m p ≡ true → Free n m s.grid ds p t
    free i =
        let e = taken_inner s p i in
        let x = first_chosen s p (λ z. f.found i (e ∙ z)) in
        subst (λ (d : ℕ). Free n m s.grid ds p d) (sym e)
        (record {
          low = way_low x.way;
          high = way_high x.way;
          open_path = x.open_path;
          clear_path = λ q g ne.
              let r = o.held.plan.straight q g in
              not_counted n m (chosen s p) p q (get_or ds q 0) (λ z. omega (arith, r.0)) ne
              (nothing_counts (counts n m (chosen s p) p) ds (count_zero (chosen s p) x.way i x.zero) q
              (fault_below q g));
        })

    fail_held : Held n m (set s.grid p 1) (set ds p t)
    unfolding faulty_mark
    fail_held =
        changed_held n m s.grid ds o.held p 1 t o.below o.stands (omega arith)
        (λ e. free (and_true (inner n m p) _ e).0) (λ e. taken_spare s p (sym (and_one (inner n m p)) ∙ e))
        (λ q g a. absurd (true≢false (sym (after_on p (path n m q (get_or ds q 0)) a) ∙ f.free q (fault_below q g))))

    more : (d q : ℕ) → length (positions_in (counts n m d q) (set ds p t))
        ≡ length (positions_in (counts n m d q) ds) + one (counts n m d q p t)
    more d q =
        let a = count_set (counts n m d q) ds p t long in
        let b : one (counts n m d q p (get_or ds p 0)) ≡ 0
        = ap one (ap (counts n m d q p) old_none ∙ no_path_counts n m d q p) in
        omega (arith, a, b)

    up : (d : ℕ) → counters_after n m true p t d (counters_afresh n m ds d) ≡ counters_afresh n m (set ds p t) d
    up d =
        let z = (formed n m s.grid o.held.map).sizes in
        counters_up n m d ds (set ds p t) p t
        (λ q. omega (arith, few_count n m s.grid ds h.passes d q, z.rows_high, z.columns_high)) (more d)

    fail_sound : SoundSession (changed s true p t)
    unfolding changed
    fail_sound =
        record {
          passes = held_accepted n m (set s.grid p 1) (set ds p t) fail_held;
          south_right = ap (counters_after n m true p t 1) h.south_right ∙ up 1;
          north_right = ap (counters_after n m true p t 2) h.north_right ∙ up 2;
          east_right = ap (counters_after n m true p t 3) h.east_right ∙ up 3;
          west_right = ap (counters_after n m true p t 4) h.west_right ∙ up 4;
        }

  -- a recovering processor
  abbrev e : ℕ
  e = get_or ds p 0

  recover_held : Held n m (set s.grid p 0) (set ds p 0)
  unfolding faulty_mark
  recover_held =
      changed_held n m s.grid ds o.held p 0 0 o.below o.stands (omega arith)
      (λ x. absurd (false≢true (sym (and_none (inner n m p)) ∙ x))) (λ x. refl) (λ q g a. refl)

  less : (d q : ℕ) → length (positions_in (counts n m d q) ds)
      ≡ length (positions_in (counts n m d q) (set ds p 0)) + one (counts n m d q p e)
  less d q =
      let a = count_set (counts n m d q) ds p 0 long in
      let b : one (counts n m d q p 0) ≡ 0 = ap one (no_path_counts n m d q p) in
      omega (arith, a, b)

  down : (d : ℕ) → counters_after n m false p e d (counters_afresh n m ds d) ≡ counters_afresh n m (set ds p 0) d
  down d = counters_down n m d ds (set ds p 0) p e (less d)

  recover_sound : SoundSession (changed s false p e)
  unfolding changed
  recover_sound =
      record {
        passes = held_accepted n m (set s.grid p 0) (set ds p 0) recover_held;
        south_right = ap (counters_after n m false p e 1) h.south_right ∙ down 1;
        north_right = ap (counters_after n m false p e 2) h.north_right ∙ down 2;
        east_right = ap (counters_after n m false p e 3) h.east_right ∙ down 3;
        west_right = ap (counters_after n m false p e 4) h.west_right ∙ down 4;
      }

changed_sound : (s : Session) (failing : Bool) (p : ℕ) → SoundSession s → report_test s failing p ≡ Ok tt
    → SoundSession (changed s failing p (path_of s failing p))
unfolding path_of
changed_sound s true p h a = let k = report_allowed s true p a in fail_sound s p h k.placed (fails s p k.tested)
changed_sound s false p h a = let k = report_allowed s false p a in recover_sound s p h k.placed

report_sound : (s : Session) (failing : Bool) (p : ℕ) → SoundSession s → SoundSession (session_reported s failing p)
unfolding session_reported
report_sound s failing p h = by (report_test s failing p) refl
  where
    by : (v : Verdict) → report_test s failing p ≡ v
        → SoundSession (session_if v (changed s failing p (path_of s failing p)) s)
    by (Ok tt) e = changed_sound s failing p h e
    by (Err r) e = h

begun_sound : (n m : ℕ) (grid directions : List ℕ) → check_plan n m grid directions ≡ Ok tt
    → SoundSession (begun n m grid directions)
begun_sound n m grid directions h =
    record { passes = h; south_right = refl; north_right = refl; east_right = refl; west_right = refl }

start_sound : (n m : ℕ) (grid directions : List ℕ) → check_plan n m grid directions ≡ Ok tt
    → SoundSession (session_started n m grid directions)
start_sound n m grid directions h = subst SoundSession (start_accepted n m grid directions h) (begun_sound n m grid directions h)

all_sound : (s : Session) (rs : List Report) → SoundSession s → SoundSession (after_all s rs)
all_sound s [] h = h
all_sound s (r ∷ rs) h =
    all_sound (session_reported s r.failing r.position) rs (report_sound s r.failing r.position h)

pub sessions : Sessions
sessions =
    record {
      report_sound = report_sound;
      start_sound = start_sound;
      reports_sound = λ n m grid directions rs h.
          all_sound (session_started n m grid directions) rs (start_sound n m grid directions h);
    }
