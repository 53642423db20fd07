-- What a reader accepts passes the tests of its writer, its count is that of the buffer's records, and its lists stand in
-- the file.
-- Assumes nothing.
use Prim.Native.Nat.{ℕ, suc, ◌+◌, ◌<◌, ◌≤◌}
use mathlib.Core.Path.{◌≡◌, refl, sym, ap, ◌∙◌}
use mathlib.Core.Bool.{true, false, not, ◌&&◌, ◌||◌}
use mathlib.Core.Logic.{inl, inr, ⊎_elim}
use mathlib.Core.List.{List, [], ◌∷◌, ◌++◌, append_assoc, append-nil}
use native.Mathlib.Nat.{zero-add, add-zero}
use native.Mathlib.Omega.{arith}
use lib.Dec.{ltb, eqb}
use lib.ListN.{length, get_or, drop, length-append, drop_of_length-le}
use lib.Seq.{get_or-set_same, get_or-set_other}
use borrow.Author.Tests.{eqb-true, le-ltb, eq-eqb}
use Rattle.array.specs.Place.{row, column, processor, inner}
use Rattle.array.specs.Map.{allowed}
use Rattle.array.proofs.Bools.{by_bool, by_eq, and_both, and_none}
use Rattle.array.proofs.Places.{sized, inner_stands}
use Rattle.array.proofs.Verdicts.{false_accepted, accept_both}
use Rattle.array.proofs.Scans.{buffer_scan, scan_all}
use Rattle.formats.specs.Number.{Bytes, bytes_of}
use Rattle.formats.specs.Records.{recorded, record_bytes, records_along, record_count, first_list, rest_bytes, file_count, blank}
use Rattle.formats.specs.declared.Kind.{Kind}
use Rattle.formats.specs.declared.Kind.TheVariants.{Map, Plan}
use Rattle.formats.specs.declared.Record.{Record}
use Rattle.formats.specs.declared.Record.TheVariants.{Fault, Dead, Path}
use Rattle.formats.proofs.Answers.{ok_parts}
use Rattle.formats.proofs.Records.{position_only, no_records, records_set, Alike, count_is}
use Rattle.formats.proofs.Stands.{number_stands, number_below}
use Rattle.readers.specs.Parts.{blank_mark, stands_at, repeated, value_at, is_value}
use Rattle.readers.specs.declared.Head.{Head}
use Rattle.readers.proofs.Cases.{blank_length, blank_at, value_low}
use Rattle.readers.proofs.Taken.{Taken, ListTaken, TrialsTaken, RestTaken, FileTaken, file_taken, sizes_taken, list_keeps}
use Rattle.writers.specs.Writing.{trials_test}
use Rattle.writers.specs.Parts.{pair_bytes, value_bytes, records_of, dead_count}
use Rattle.writers.proofs.Accepted.{element_test, tests_are, low_trials}
use Rattle.writers.proofs.Records.{record_is, dead_some}
use Rattle.files.specs.Sound.{SoundReading}
use Rattle.files.proofs.Elements.{file_of, blank_free, free_none, value_recorded, same_records}
use Rattle.std.specs.Prelude.{Ok}

-- an element that is blank, or that a record may write, passes its test
blank_passes : (kind : Kind) (n m p : ℕ) → element_test kind n m p (blank_mark kind n m p) ≡ Ok tt
blank_passes Map n m p =
    let a : allowed n m p (blank_mark Map n m p) ≡ true =
    by_bool (inner n m p)
    (λ t. rw (t, inner_stands n m (row p) (column p) t) refl)
    (λ t. by_bool (processor n m p) (λ u. rw (t, u) refl) (λ u. rw (t, u) refl)) in
    false_accepted 3 p 0 (ap not a)
blank_passes Plan n m p =
    false_accepted 4 p 0 (and_none (not (inner n m p)))

value_passes :
    (kind : Record) (n m p v : ℕ) → stands_at kind n m (row p) (column p) ≡ true → is_value kind v ≡ true
    → element_test (file_of kind) n m p v ≡ Ok tt
value_passes Fault n m p v s t =
    let e : v ≡ 1 = eqb-true v 1 t in
    let a : allowed n m p 1 ≡ true = by_bool (inner n m p) (λ u. rw u refl) (λ u. rw (u, s) refl) in
    rw e (false_accepted 3 p 0 (ap not a))
value_passes Dead n m p v s t =
    let e : v ≡ 3 = eqb-true v 3 t in
    let a : allowed n m p 3 ≡ true = rw s refl in
    rw e (false_accepted 3 p 0 (ap not a))
value_passes Path n m p v s t =
    let a : ltb 4 v ≡ false = le-ltb 4 v (value_low Path v t) in
    let b : inner n m p ≡ true = s in
    let c : (ltb 4 v || (not (inner n m p) && not (eqb v 0))) ≡ false = rw (a, b) refl in
    false_accepted 4 p 0 c

-- the value of a record stands where it is read
value_stands :
    (kind : Record) (s : List ℕ) (at v next : ℕ) →
    Bytes s →
    value_at kind s at ≡ Ok (v, next) →
    drop at s ≡ value_bytes kind v ++ drop next s
value_stands Fault s at v next bytes q = ap (λ (z : ℕ). drop z s) (ok_parts q).1
value_stands Dead s at v next bytes q = ap (λ (z : ℕ). drop z s) (ok_parts q).1
value_stands Path s at v next bytes q = number_stands s bytes at v next q

-- records of two lists of one file: what the one writes, or finds free, has no record in the other
record Apart (kind other : Record) : Type 0 where
  value : (p v : ℕ) → is_value kind v ≡ true → recorded other p v ≡ false
  free : (p v : ℕ) → repeated kind v ≡ false → recorded other p v ≡ false

fault_dead : Apart Fault Dead
fault_dead = record { value = λ p v t. rw (eqb-true v 1 t) refl; free = free_none Dead }

dead_fault : Apart Dead Fault
dead_fault = record { value = λ p v t. rw (eqb-true v 3 t) refl; free = free_none Fault }

module _ (kind : Record) (s : List ℕ) (n m : ℕ) where
  -- a buffer whose elements pass, with k records, none of them above position `before`, which stand in the file from `start`
  -- to `at`
  pub record Held (start k at before : ℕ) (b : List ℕ) : Type 0 where
    pub passes : (p : ℕ) → p < 1024 → element_test (file_of kind) n m p (get_or b p 0) ≡ Ok tt
    pub none_above : (p : ℕ) → before < p → p < 1024 → recorded kind p (get_or b p 0) ≡ false
    pub counted : record_count kind b ≡ k
    pub stands : Bytes s → records_of kind b ++ drop at s ≡ drop start s

  -- such a buffer with no record
  fresh_held :
      (start : ℕ) (b : List ℕ) →
      length b ≡ 1024 →
      ((p : ℕ) → p < 1024 → element_test (file_of kind) n m p (get_or b p 0) ≡ Ok tt) →
      ((p : ℕ) → p < 1024 → recorded kind p (get_or b p 0) ≡ false) →
      Held start 0 start 0 b
  fresh_held start b w passes none =
      record {
        passes = passes;
        none_above = λ p h l. none p l;
        counted = count_is kind b ∙ ap length (no_record position_only);
        stands = λ bytes. ap (λ (l : List ℕ). l ++ drop start s) (no_record (record_bytes kind));
      }
    where
      no_record : (bytes : ℕ → ℕ → List ℕ) → records_along (recorded kind) bytes 0 b ≡ []
      no_record bytes =
          no_records (recorded kind) bytes b 0
          (λ j h l. ap (λ (z : ℕ). recorded kind z (get_or b j 0)) (zero-add j) ∙ none j (omega arith))

  -- a record that is taken
  module _ (start k at before : ℕ) (b : List ℕ) (next p : ℕ) (c : List ℕ) (w : length b ≡ 1024)
      (t : Taken kind s n m at before b next p c) where
    at_mark : get_or c p 0 ≡ t.v
    at_mark = ap (λ (d : List ℕ). get_or d p 0) (sym t.stored) ∙ get_or-set_same b p t.v 0 (omega (arith, t.low))

    elsewhere : (q : ℕ) → (q ≡ p → ⊥) → get_or c q 0 ≡ get_or b q 0
    elsewhere q e = ap (λ (d : List ℕ). get_or d q 0) (sym t.stored) ∙ get_or-set_other b p q t.v 0 e

    record_stands : Bytes s → drop at s ≡ record_bytes kind p t.v ++ drop next s
    record_stands bytes =
        number_stands s bytes at (row p) t.second t.row_read
        ∙ ap (λ (l : List ℕ). bytes_of (row p) ++ l)
        (number_stands s bytes t.second (column p) t.third t.column_read
        ∙ ap (λ (l : List ℕ). bytes_of (column p) ++ l) (value_stands kind s t.third t.v next bytes t.value_read))
        ∙ sym (append_assoc (bytes_of (row p)) (bytes_of (column p)) _)
        ∙ sym (append_assoc (pair_bytes (row p) (column p)) (value_bytes kind t.v) (drop next s))
        ∙ ap (λ (l : List ℕ). l ++ drop next s) (sym (record_is kind p t.v))

    module _ (h : Held start k at before b) where
      next_records :
          (bytes : ℕ → ℕ → List ℕ) →
          records_along (recorded kind) bytes 0 c ≡ records_along (recorded kind) bytes 0 b ++ bytes p t.v
      next_records bytes =
          ap (records_along (recorded kind) bytes 0) (sym t.stored)
          ∙ records_set (recorded kind) bytes b 0 p t.v (omega (arith, t.low))
          (λ q l i. ap (λ (z : ℕ). recorded kind z (get_or b q 0)) (zero-add q)
          ∙ by_eq q p (λ e. rw e (free_none kind p (get_or b p 0) t.free))
          (λ e. h.none_above q (omega (arith, t.ascends, l, e)) (omega arith)))
          (value_recorded kind (0 + p) t.v t.value)
          ∙ ap (λ (z : ℕ). records_along (recorded kind) bytes 0 b ++ bytes z t.v) (zero-add p)

      next_held : Held start (suc k) next p c
      next_held =
          record {
            passes = λ q l.
                by_eq q p
                (λ e.
                rw e
                (ap (element_test (file_of kind) n m p) at_mark ∙ value_passes kind n m p t.v t.stands t.value))
                (λ e. ap (element_test (file_of kind) n m q) (elsewhere q e) ∙ h.passes q l);
            none_above = λ q l i.
                ap (recorded kind q) (elsewhere q (λ e. omega arith)) ∙ h.none_above q (omega (arith, t.ascends)) i;
            counted =
                count_is kind c
                ∙ ap length (next_records position_only)
                ∙ omega (arith, length-append (records_along (recorded kind) position_only 0 b) (p ∷ []), count_is kind b, h.counted);
            stands = λ bytes.
                ap (λ (l : List ℕ). l ++ drop next s) (next_records (record_bytes kind))
                ∙ append_assoc (records_of kind b) (record_bytes kind p t.v) (drop next s)
                ∙ ap (λ (l : List ℕ). records_of kind b ++ l) (sym (record_stands bytes))
                ∙ h.stands bytes;
          }

    -- the elements that have a record of another list stay
    next_alike :
        (other : Record) →
        Apart kind other →
        (a : List ℕ) →
        ((q : ℕ) → q < 1024 → Alike (recorded other) q (get_or a q 0) (get_or b q 0)) →
        (q : ℕ) →
        q < 1024 →
        Alike (recorded other) q (get_or a q 0) (get_or c q 0)
    next_alike other apart a h q l =
        by_eq q p
        (λ e.
        let f : recorded other q (get_or b q 0) ≡ false = rw e (apart.free p (get_or b p 0) t.free) in
        inr (
          ⊎_elim (λ i. ap (recorded other q) i ∙ f) (λ i. i.0) (h q l),
          rw e (ap (recorded other p) at_mark ∙ apart.value p t.v t.value),
        ))
        (λ e. rw (elsewhere q e) (h q l))

  -- a list that is taken
  module _ (small : (n ≤ 30) × (m ≤ 30)) {k start end : ℕ} {b c : List ℕ} (w : length b ≡ 1024)
      (t : ListTaken kind s n m k start end b c) where
    list_held : Held start 0 start 0 b → (length c ≡ 1024) × Held start (0 + k) end t.last c
    list_held h =
        list_keeps kind s n m small (Held start)
        (λ k at before b next p c w h t. next_held start k at before b next p c w t h) w h t

    list_alike : (other : Record) → Apart kind other → (q : ℕ) → q < 1024 → Alike (recorded other) q (get_or b q 0) (get_or c q 0)
    list_alike other apart =
        (list_keeps kind s n m small (λ k at before c. (q : ℕ) → q < 1024 → Alike (recorded other) q (get_or b q 0) (get_or c q 0))
        (λ k at before d next p c w h t. next_alike start k at before d next p c w t other apart b h) w (λ q l. inl refl) t).1

-- a blank buffer holds no record
blank_held : (kind : Record) (s : List ℕ) (n m start : ℕ) → Held kind s n m start 0 start 0 (blank (file_of kind) n m)
blank_held kind s n m start =
    fresh_held kind s n m start (blank (file_of kind) n m) (blank_length (file_of kind) n m)
    (λ p l. ap (element_test (file_of kind) n m p) (blank_at (file_of kind) n m p l) ∙ blank_passes (file_of kind) n m p)
    (λ p l. ap (recorded kind p) (blank_at (file_of kind) n m p l) ∙ free_none kind p _ (blank_free kind n m p))

-- the buffer of an accepted file: its elements pass, and its lists have the counts that were read and stand where they were
-- read
pub record Lists (kind : Kind) (s : List ℕ) (n m start count end more t : ℕ) (b : List ℕ) : Type 0 where
  pub is_long : length b ≡ 1024
  pub passes : (p : ℕ) → p < 1024 → element_test kind n m p (get_or b p 0) ≡ Ok tt
  pub first_counted : record_count (first_list kind) b ≡ count
  pub dead_counted : dead_count kind b ≡ more
  pub first_stands : Bytes s → records_of (first_list kind) b ++ drop end s ≡ drop start s
  pub rest_stands : Bytes s → rest_bytes kind b t ≡ drop end s
  pub trials_fit : Bytes s → trials_test kind t ≡ Ok tt

module _ (s : List ℕ) (n m : ℕ) (small : (n ≤ 30) × (m ≤ 30)) (start count end more t : ℕ) (first b : List ℕ) where
  map_lists : ListTaken Fault s n m count start end (blank Map n m) first → RestTaken Map s n m end first b more t
      → Lists Map s n m start count end more t b
  map_lists f = by_rest
    where
      h : (length first ≡ 1024) × Held Fault s n m start (0 + count) end f.last first
      h = list_held Fault s n m small (blank_length Map n m) f (blank_held Fault s n m start)

      none : (p : ℕ) → p < 1024 → recorded Dead p (get_or first p 0) ≡ false
      none p l =
          ⊎_elim
          (λ e. ap (recorded Dead p) (sym e ∙ blank_at Map n m p l) ∙ free_none Dead p _ (blank_free Dead n m p))
          (λ e. e.1) (list_alike Fault s n m small (blank_length Map n m) f Dead fault_dead p l)

      fresh : (at : ℕ) → Held Dead s n m at 0 at 0 first
      fresh at = fresh_held Dead s n m at first h.0 h.1.passes none

      by_rest : RestTaken Map s n m end first b more t → Lists Map s n m start count end more t b
      by_rest (inl w, z) =
          rw (w.none, sym w.same)
          (record {
            is_long = h.0;
            passes = h.1.passes;
            first_counted = h.1.counted ∙ zero-add count;
            dead_counted = (fresh end).counted;
            first_stands = h.1.stands;
            rest_stands = λ bytes. rw (fresh end).counted (sym (drop_of_length-le s w.ends));
            trials_fit = λ bytes. refl;
          })
      by_rest (inr w, z) =
          let d = list_held Dead s n m small h.0 w.list_read (fresh w.start) in
          let e = same_records Fault first b h.0 d.0 (list_alike Dead s n m small h.0 w.list_read Fault dead_fault) in
          let k : record_count Dead b ≡ more = d.1.counted ∙ zero-add more in
          record {
            is_long = d.0;
            passes = d.1.passes;
            first_counted = sym e.0 ∙ h.1.counted ∙ zero-add count;
            dead_counted = k;
            first_stands = λ bytes. ap (λ (l : List ℕ). l ++ drop end s) (sym e.1) ∙ h.1.stands bytes;
            rest_stands = λ bytes.
                dead_some (record_count Dead b) b (λ z. w.some (sym k ∙ z))
                ∙ ap (λ (j : ℕ). bytes_of j ++ records_of Dead b) k
                ∙ ap (λ (l : List ℕ). bytes_of more ++ l)
                (sym (append-nil (records_of Dead b))
                ∙ ap (λ (l : List ℕ). records_of Dead b ++ l) (sym (drop_of_length-le s w.ends))
                ∙ d.1.stands bytes)
                ∙ sym (number_stands s bytes end more w.start w.count_read);
            trials_fit = λ bytes. refl;
          }

  plan_lists : ListTaken Path s n m count start end (blank Plan n m) first → TrialsTaken s end first b more t
      → Lists Plan s n m start count end more t b
  plan_lists f w =
      let h = list_held Path s n m small (blank_length Plan n m) f (blank_held Path s n m start) in
      rw (w.ended.none, sym w.ended.same)
      (record {
        is_long = h.0;
        passes = h.1.passes;
        first_counted = h.1.counted ∙ zero-add count;
        dead_counted = refl;
        first_stands = h.1.stands;
        rest_stands = λ bytes.
            sym
            (number_stands s bytes end t w.end w.trials_read
            ∙ ap (λ (l : List ℕ). bytes_of t ++ l) (drop_of_length-le s w.ended.ends)
            ∙ append-nil (bytes_of t));
        trials_fit = λ bytes. low_trials t (number_below s bytes end t w.end w.trials_read);
      })

  lists : (kind : Kind) → ListTaken (first_list kind) s n m count start end (blank kind n m) first
      → RestTaken kind s n m end first b more t → Lists kind s n m start count end more t b
  lists Map f w = map_lists f w
  lists Plan f w = plan_lists f w

pub lists_read :
    (kind : Kind) (s b : List ℕ) (head : Head) (t : ℕ) (f : FileTaken kind s b head t) →
    Lists kind s head.rows head.columns f.start f.count f.end f.more t b
lists_read kind s b head t f =
    let z = sized head.rows head.columns (sizes_taken kind s b head t f) in
    lists s head.rows head.columns (z.rows_high, z.columns_high) f.start f.count f.end f.more t f.first b kind
    f.first_read f.rest_read

-- the count of both lists
count_both : (kind : Kind) (b : List ℕ) → file_count kind b ≡ record_count (first_list kind) b + dead_count kind b
count_both Map b = refl
count_both Plan b = sym (add-zero (record_count Path b))

pub sound_reading : SoundReading
sound_reading kind s lent b head t q =
    let f = file_taken kind s lent b head t q in
    let h = lists_read kind s b head t f in
    record {
      fit =
          tests_are kind head.rows head.columns b
          ∙ accept_both (false_accepted 1 0 0 (ap not (sizes_taken kind s b head t f)))
          (accept_both (false_accepted 2 0 0 (ap not (and_both _ _ (eq-eqb (length b) 1024 h.is_long) refl)))
          (scan_all (buffer_scan (element_test kind head.rows head.columns) b) (λ p l. h.passes p (omega (arith, h.is_long)))));
      counted = count_both kind b ∙ omega (arith, h.first_counted, h.dead_counted, f.both);
      trials_fit = h.trials_fit;
    }
