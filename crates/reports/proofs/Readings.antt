-- What the definitions of sessions come to.
-- Assumes nothing.
use Rattle.std.specs.Prelude.{Ok}
use Prim.Native.Nat.{ℕ, ◌+◌, ◌*◌, ◌≤◌, ◌<◌}
use mathlib.Core.Path.{◌≡◌, refl, sym, ap, subst, ◌∙◌}
use mathlib.Core.Bool.{Bool, true, false, cond}
use mathlib.Core.List.{List}
use native.Mathlib.Omega.{arith}
use borrow.Author.Tests.{ne_eqb}
use lib.ListN.{length, get_or, set, length-set, get_or-eq_default}
use lib.Seq.{ext_get_or, get_or-set_same, get_or-set_other}
use Rattle.array.specs.Place.{inner}
use Rattle.array.specs.Buffer.{positions_in}
use Rattle.array.specs.Map.{inner_faulty, inner_fault}
use Rattle.array.specs.Tests.{Verdict}
use Rattle.array.proofs.Bools.{by_bool, by_eq, by_lt}
use Rattle.array.proofs.Fills.{tabulate_length}
use Rattle.array.proofs.Formed.{Formed, formed}
use Rattle.array.proofs.Marks.{inner_fault_read}
use Rattle.array.proofs.Places.{inner_holds}
use Rattle.array.proofs.Positions.{position_index}
use Rattle.paths.proofs.Ways.{Way, way}
use Rattle.counters.specs.Count.{counts, count_afresh, counters_afresh}
use Rattle.sessions.specs.Session.{session, session_if, session_started, path_of, changed, report_test, session_reported}
use Rattle.sessions.specs.Inner.{Wide}
use Rattle.sessions.specs.declared.Session.{Session}
use Rattle.sessions.proofs.Few.{count_fewer, few_count}
use Rattle.sessions.proofs.Judging.{taken_spare}
use Rattle.sessions.proofs.Judging.{none_altered}
use Rattle.reports.specs.Theorems.{SoundSession, after_all}
use Rattle.reports.specs.Readings.{fault_counts, with_mark, counters_of, Readings}
use Rattle.reports.proofs.Held.{Held, accepted_held, held_accepted}
use Rattle.reports.proofs.Counted.{inner_count, other_count, held_count}
use Rattle.reports.proofs.Reports.{report_allowed}
use Rattle.reports.proofs.Sound.{counted, counter_at, sessions}

module _ (n m : ℕ) (grid directions : List ℕ) (h : Held n m grid directions) (d p : ℕ) where
  map : Formed n m grid
  map = formed n m grid h.map

  there : (q : ℕ) → q < 1024 → counts n m d p q (get_or directions q 0) ≡ fault_counts n m directions d p q (get_or grid q 0)
  unfolding counts
  there q l =
      let e : inner_faulty n m q (get_or grid q 0) ≡ inner_fault n m grid q
      = sym (inner_fault_read n m grid q (omega (arith, map.length_is))) in
      by_bool (inner_fault n m grid q)
      (λ f.
      let s = h.plan.straight q f in
      rw (ne_eqb (get_or directions q 0) 0 (λ z. omega (arith, s.0)), e ∙ f))
      (λ f. rw (e ∙ f, h.elsewhere q l f))

  faults_counted : inner n m p ≡ true
      → count_afresh n m directions d p ≡ length (positions_in (fault_counts n m directions d p) grid)
  faults_counted i =
      let w = h.wide in
      let g = map.length_is in
      let a = count_fewer (counts n m d p) (fault_counts n m directions d p) directions grid (w ∙ sym g)
      (λ q l c. sym (there q (omega arith)) ∙ c) in
      let b = count_fewer (fault_counts n m directions d p) (counts n m d p) grid directions (g ∙ sym w)
      (λ q l c. there q (omega arith) ∙ c) in
      inner_count n m d directions p i ∙ omega (arith, a, b)

  count_within : count_afresh n m directions d p ≤ 2 * (n + m)
  count_within =
      by_bool (inner n m p) (λ i. omega (arith, inner_count n m d directions p i, few_count n m grid directions (held_accepted n m grid directions h) d p))
      (λ i. omega (arith, other_count n m d directions p i))

  counter_within : get_or (counters_afresh n m directions d) p 0 ≤ 2 * (n + m)
  counter_within =
      by_lt p 1024
      (λ l. omega (arith, held_count n m d directions p l, count_within))
      (λ l.
      let k = tabulate_length (count_afresh n m directions d) 1024 in
      let b : length (counters_afresh n m directions d) ≤ p = omega (arith, k) in
      omega (arith, get_or-eq_default (counters_afresh n m directions d) 0 b))

-- a buffer with the element that it has
same_set : (b : List ℕ) (p v : ℕ) → p < length b → get_or b p 0 ≡ v → set b p v ≡ b
same_set b p v l e =
    ext_get_or 0 (set b p v) b (length-set b p v)
    (λ q a.
    by_eq q p (λ z. subst (λ (k : ℕ). get_or (set b p v) k 0 ≡ get_or b k 0) (sym z) (get_or-set_same b p v 0 l ∙ sym e))
    (λ ne. get_or-set_other b p q v 0 ne))

module _ (s : Session) (failing : Bool) (p : ℕ) (w : Wide s) (h : report_test s failing p ≡ Ok tt)
    (i : inner s.rows s.columns p ≡ false) where
  held : Held s.rows s.columns s.grid s.directions
  held = (report_allowed s failing p h).placed.held

  below : p < 1024
  below = (report_allowed s failing p h).placed.below

  none : get_or s.directions p 0 ≡ 0
  none = held.elsewhere p below (rw i)

  no_path : (b : Bool) → path_of s b p ≡ 0
  unfolding path_of
  no_path true = taken_spare s p i
  no_path false = none

  own_direction : (b : Bool) → get_or s.directions p 0 ≡ cond b 0 0
  own_direction true = none
  own_direction false = none

  unaltered : changed s failing p 0 ≡ with_mark s p (cond failing 1 0)
  unfolding changed
  unaltered =
      let n = s.rows in
      let m = s.columns in
      let l : p < length s.directions = omega (arith, below, held.wide) in
      (λ z.
      session n m (set s.grid p (cond failing 1 0))
      (same_set s.directions p (cond failing 0 0) l (own_direction failing) z)
      (sym (none_altered n m failing p 0 1 s.south refl w.south_long) z)
      (sym (none_altered n m failing p 0 2 s.north refl w.north_long) z)
      (sym (none_altered n m failing p 0 3 s.east refl w.east_long) z)
      (sym (none_altered n m failing p 0 4 s.west refl w.west_long) z))

  spare_reported : session_reported s failing p ≡ with_mark s p (cond failing 1 0)
  unfolding session_reported
  spare_reported =
      ap (λ (v : Verdict). session_if v (changed s failing p (path_of s failing p)) s) h
      ∙ ap (changed s failing p) (no_path failing)
      ∙ unaltered

module _ (s : Session) (d p : ℕ) (h : SoundSession s) (w : Way d) where
  passed : Held s.rows s.columns s.grid s.directions
  passed = accepted_held s.rows s.columns s.grid s.directions h.passes

  never_full : get_or (counters_of s d) p 0 ≤ 2 * (s.rows + s.columns)
  never_full = rw (counted s d h w) (counter_within s.rows s.columns s.grid s.directions passed d p)

  never_above : get_or (counters_of s d) p 0 ≤ 120
  never_above =
      let z = (formed s.rows s.columns s.grid passed.map).sizes in
      omega (arith, never_full, z.rows_high, z.columns_high)

  never_empty : (q : ℕ) → inner s.rows s.columns p ≡ true → q < 1024
      → counts s.rows s.columns d p q (get_or s.directions q 0) ≡ true → 1 ≤ get_or (counters_of s d) p 0
  never_empty q i l c =
      let x = position_index (counts s.rows s.columns d p) s.directions q (omega (arith, passed.wide)) c in
      let e = inner_count s.rows s.columns d s.directions p i in
      omega (arith, x.below, counter_at s d p h w (inner_below i), e)
    where
      inner_below : inner s.rows s.columns p ≡ true → p < 1024
      inner_below i =
          let z = (formed s.rows s.columns s.grid passed.map).sizes in
          let a = inner_holds s.rows s.columns p i in
          omega (arith, a.row_high, z.rows_high)

pub readings : Readings
readings =
    record {
      by_faults = λ n m grid directions d p h.
          faults_counted n m grid directions (accepted_held n m grid directions h) d p;
      spare_marked = λ s p w h i. spare_reported s true p w h i;
      spare_cleared = λ s p w h i. spare_reported s false p w h i;
      never_full = λ s d p h low high. never_full s d p h (way d low high);
      never_above = λ n m grid directions rs d p h low high.
          never_above (after_all (session_started n m grid directions) rs) d p
          (sessions.reports_sound n m grid directions rs h) (way d low high);
      never_empty = λ s d p q h low high. never_empty s d p h (way d low high) q;
    }
