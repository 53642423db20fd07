-- What the tests of a buffer say where they accept it; the writer's definition by its cases.
-- Assumes nothing.
use Prim.Native.Nat.{ℕ, ◌+◌, ◌<◌, ◌≤◌}
use mathlib.Core.Path.{◌≡◌, refl, sym, ◌∙◌}
use mathlib.Core.Bool.{true, not, ◌&&◌}
use mathlib.Core.Logic.{⊎_elim}
use mathlib.Core.List.{List, [], ◌∷◌, ◌++◌}
use native.Mathlib.Nat.{zero-add}
use native.Mathlib.Omega.{arith}
use lib.Dec.{ltb, leb, eqb}
use lib.ListN.{length, get_or, drop}
use lib.Seq.{sets, sets-eq}
use borrow.Author.Tests.{leb-true, eqb-true, ltb-false, lt-ltb, le-ltb, eq-eqb, ne_eqb}
use Rattle.array.specs.Place.{inner, processor}
use Rattle.array.specs.Buffer.{long, all_long}
use Rattle.array.specs.Tests.{or_else, refuse, first_in, refusal}
use Rattle.array.specs.Map.{dead_mark, allowed, size_test, length_test, mark_test, map_tests}
use Rattle.array.specs.declared.Refusal.{Refusal}
use Rattle.array.specs.Tests.{Verdict}
use Rattle.array.proofs.Bools.{by_bool, or_true, or_false, and_one}
use Rattle.array.proofs.Places.{Sized, sized}
use Rattle.array.proofs.Verdicts.{both_accepted, accepted_not, accepted_false, false_accepted}
use Rattle.array.proofs.Scans.{scan_each, buffer_scan}
use Rattle.formats.specs.Records.{file_bytes}
use Rattle.formats.specs.declared.Kind.{Kind}
use Rattle.formats.specs.declared.Kind.TheVariants.{Map, Plan}
use Rattle.writers.specs.Writing.{path_test, buffer_test, trials_test, room_test, put, write_file}
use Rattle.std.specs.Prelude.{Ok, Err}

-- the test of one element: 3 of a map, 4 of a plan
abbrev pub element_test : Kind → ℕ → ℕ → ℕ → ℕ → Verdict
element_test Map n m p v = mark_test n m p v
element_test Plan n m p v = path_test n m p v

pub tests_are :
    (kind : Kind) (n m : ℕ) (b : List ℕ) →
    buffer_test kind n m b ≡ or_else (size_test n m) (or_else (length_test (all_long (b ∷ []))) (first_in (element_test kind n m) b))
unfolding buffer_test map_tests
tests_are Map n m b = refl
tests_are Plan n m b = refl

-- an accepted element
mark_low : (n m p v : ℕ) → allowed n m p v ≡ true → v ≤ 4
mark_low n m p v h =
    by_bool (inner n m p)
    (λ t.
    ⊎_elim (λ e. let l : v ≤ 1 = leb-true v 1 e in omega arith) (λ e. let l : v ≡ 3 = eqb-true v 3 e in omega arith)
    (or_true (leb v 1) (dead_mark v) (rw t at h)))
    (λ t.
    by_bool (processor n m p)
    (λ u. let l : v ≤ 1 = leb-true v 1 (rw (t, u) at h) in omega arith)
    (λ u. let l : v ≡ 2 = eqb-true v 2 (rw (t, u) at h) in omega arith))

element_low : (kind : Kind) (n m p v : ℕ) → element_test kind n m p v ≡ Ok tt → v ≤ 4
element_low Map n m p v h = mark_low n m p v (accepted_not (allowed n m p v) 3 p 0 h)
element_low Plan n m p v h =
    ltb-false 4 v (or_false (ltb 4 v) (not (inner n m p) && not (eqb v 0)) (accepted_false _ 4 p 0 h)).0

pub record Passed (kind : Kind) (n m : ℕ) (b : List ℕ) : Type 0 where
  pub sizes : Sized n m
  pub is_long : length b ≡ 1024
  pub scanned : first_in (element_test kind n m) b ≡ Ok tt
  pub small : (p : ℕ) → p < length b → get_or b p 0 < 128

pub passed : (kind : Kind) (n m : ℕ) (b : List ℕ) → buffer_test kind n m b ≡ Ok tt → Passed kind n m b
passed kind n m b h =
    let x = both_accepted _ _ (sym (tests_are kind n m b) ∙ h) in
    let y = both_accepted _ _ x.1 in
    record {
      sizes = sized n m (accepted_not _ 1 0 0 x.0);
      is_long = eqb-true _ _ (sym (and_one (long b)) ∙ accepted_not _ 2 0 0 y.0);
      scanned = y.1;
      small = λ p l.
          let e = scan_each (buffer_scan (element_test kind n m) b) y.1 p l in
          let q : get_or b p 0 ≤ 4 = element_low kind n m p (get_or b p 0) e in
          omega arith;
    }

-- the test of a buffer's length
pub short_refuses : (b : List ℕ) (later : Verdict) → (length b ≡ 1024 → ⊥) → refuse 2 0 0 ≡ or_else (length_test (all_long (b ∷ []))) later
short_refuses b later h = rw (ne_eqb _ _ h)

pub long_passes : (b : List ℕ) {v later : Verdict} → length b ≡ 1024 → v ≡ later → v ≡ or_else (length_test (all_long (b ∷ []))) later
long_passes b h e = e ∙ rw (eq-eqb _ _ h)

-- the test of the trials
pub trials_low : (t : ℕ) → trials_test Plan t ≡ Ok tt → t < 2097152
trials_low t h = let l : t ≤ 2097151 = ltb-false 2097151 t (accepted_false _ 21 0 0 h) in omega arith

pub low_trials : (t : ℕ) → t < 2097152 → trials_test Plan t ≡ Ok tt
low_trials t h = false_accepted 21 0 0 (le-ltb 2097151 t (omega arith))

-- what is put where the tests are done
module _ (bytes out : List ℕ) where
  pub put_short : length out < length bytes → put (room_test bytes out) bytes out ≡ (Err (refusal 14 (length bytes) 0), out)
  put_short l = rw (lt-ltb _ _ l)

  pub put_whole : length bytes ≤ length out → put (room_test bytes out) bytes out ≡ (Ok (length bytes), bytes ++ drop (length bytes) out)
  put_whole l = rw (le-ltb _ _ l)

  -- the same as stores
  pub put_stored : length bytes ≤ length out → put (room_test bytes out) bytes out ≡ (Ok (length bytes), sets out 0 bytes)
  put_stored l =
      let e : sets out 0 bytes ≡ bytes ++ drop (0 + length bytes) out = sets-eq bytes out 0 (omega arith) in
      put_whole l ∙ rw (e, zero-add)

  -- where the test of the room stands after others
  pub put_refused : {v : Verdict} (r : Refusal) → v ≡ Err r → put v bytes out ≡ (Err r, out)
  put_refused r h = rw h

  pub room_enough : room_test bytes out ≡ Ok tt → length bytes ≤ length out
  room_enough h = ltb-false _ _ (accepted_false _ 14 (length bytes) 0 h)

  pub put_tested :
      (v : Verdict) →
      or_else v (room_test bytes out) ≡ Ok tt →
      put (or_else v (room_test bytes out)) bytes out ≡ (Ok (length bytes), sets out 0 bytes)
  put_tested v h = let x = both_accepted v _ h in rw x.0 (put_stored (room_enough x.1))

module _ (kind : Kind) (n m : ℕ) (b : List ℕ) (t : ℕ) (out : List ℕ) where
  pub file_refused : (r : Refusal) → buffer_test kind n m b ≡ Err r → write_file kind n m b t out ≡ (Err r, out)
  unfolding write_file
  file_refused r h = rw h

  pub file_accepted :
      buffer_test kind n m b ≡ Ok tt →
      write_file kind n m b t out
      ≡ put (or_else (trials_test kind t) (room_test (file_bytes kind n m b t) out)) (file_bytes kind n m b t) out
  unfolding write_file
  file_accepted h = rw h

  pub file_recorded :
      buffer_test kind n m b ≡ Ok tt →
      trials_test kind t ≡ Ok tt →
      write_file kind n m b t out ≡ put (room_test (file_bytes kind n m b t) out) (file_bytes kind n m b t) out
  file_recorded h g = file_accepted h ∙ rw g
