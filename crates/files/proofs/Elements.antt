-- What a writer accepts is what a reader accepts: an element with a record may be marked, and one without stays as it is.
-- Assumes nothing.
use Prim.Native.Nat.{ℕ, suc, ◌+◌, ◌<◌, ◌≤◌}
use mathlib.Core.Path.{◌≡◌, refl, sym, ap, ◌∙◌}
use mathlib.Core.Bool.{true, false, cond, not, ◌&&◌, true≢false}
use mathlib.Core.Logic.{◌⊎◌, inl, inr}
use mathlib.Core.List.{List, ◌∷◌, ◌++◌, append_assoc}
use native.Mathlib.Nat.{zero-add}
use native.Mathlib.Omega.{arith}
use lib.Dec.{ltb, leb, eqb}
use lib.ListN.{length, get_or}
use borrow.Author.Tests.{leb-true, le-leb, eqb-true, eqb-false, ne_eqb, ltb-false}
use Rattle.array.specs.Place.{row, column, inner, processor}
use Rattle.array.specs.Buffer.{positions_along}
use Rattle.array.specs.Map.{dead_mark, faulty_mark, allowed}
use Rattle.array.proofs.Bools.{by_bool, and_true, and_both, or_false, cond_taken, cond_left}
use Rattle.array.proofs.Places.{inner_stands}
use Rattle.array.proofs.Marks.{healthy_else, dead_inner}
use Rattle.array.proofs.Verdicts.{accepted_false}
use Rattle.formats.specs.Number.{bytes_of}
use Rattle.formats.specs.Records.{recorded, record_bytes, records_along, record_count}
use Rattle.formats.specs.declared.Kind.{Kind}
use Rattle.formats.specs.declared.Kind.TheVariants.{Map, Plan}
use Rattle.formats.specs.declared.Record.{Record}
use Rattle.formats.specs.declared.Record.TheVariants.{Fault, Dead, Path}
use Rattle.formats.proofs.Trip.{read_at}
use Rattle.formats.proofs.Records.{position_only, Alike, records_alike, count_is}
use Rattle.readers.specs.Parts.{blank_mark, stands_at, repeated, value_at, is_value}
use Rattle.readers.proofs.Cases.{value_low}
use Rattle.writers.specs.Parts.{value_bytes, records_of}
use Rattle.writers.proofs.Accepted.{element_test}
use Rattle.writers.proofs.Records.{record_is}
use Rattle.std.specs.Prelude.{Ok}

-- the file that has records of a kind
abbrev pub file_of : Record → Kind
file_of Fault = Map
file_of Dead = Map
file_of Path = Plan

-- what an element is before its list is read and after: its record is read, or it has none and stays
pub record Read_in (kind : Record) (n m p a v : ℕ) : Type 0 where
  pub stands : stands_at kind n m (row p) (column p) ≡ true
  pub value : is_value kind v ≡ true
  pub free : repeated kind a ≡ false

abbrev pub Turned : Record → ℕ → ℕ → ℕ → ℕ → ℕ → Type 0
Turned kind n m p a v = Read_in kind n m p a v ⊎ ((recorded kind p v ≡ false) × (a ≡ v))

-- a mark with which a dead processor is healthy: what the first list of a map leaves
abbrev pub alive : ℕ → ℕ
alive mark = cond (dead_mark mark) 0 mark

-- a blank element is free, and a free one has no record; one with a record's value has one
pub blank_free : (kind : Record) (n m p : ℕ) → repeated kind (blank_mark (file_of kind) n m p) ≡ false
unfolding faulty_mark
blank_free Fault n m p = by_bool (processor n m p) (λ t. rw t refl) (λ t. rw t refl)
blank_free Dead n m p = by_bool (processor n m p) (λ t. rw t refl) (λ t. rw t refl)
blank_free Path n m p = refl

pub free_none : (kind : Record) (p v : ℕ) → repeated kind v ≡ false → recorded kind p v ≡ false
unfolding faulty_mark
free_none Fault p v t = (or_false (eqb v 1) (dead_mark v) t).0
free_none Dead p v t = (or_false (eqb v 1) (dead_mark v) t).1
free_none Path p v t = t

pub value_recorded : (kind : Record) (p v : ℕ) → is_value kind v ≡ true → recorded kind p v ≡ true
value_recorded Fault p v t = t
value_recorded Dead p v t = t
value_recorded Path p v t =
    let l : 1 ≤ v = leb-true 1 v (and_true (leb 1 v) (leb v 4) t).0 in
    ap not (ne_eqb v 0 (λ e. omega arith))

-- the elements of an accepted buffer, list by list
module _ (n m p v : ℕ) where
  module _ (h : allowed n m p v ≡ true) where
    off : processor n m p ≡ false → v ≡ 2
    off u =
        let t : inner n m p ≡ false =
        by_bool (inner n m p) (λ t. absurd (true≢false (sym (inner_stands n m (row p) (column p) t) ∙ u))) (λ t. t) in
        eqb-true v 2 (rw (t, u) at h)

    fault_stands : v ≡ 1 → processor n m p ≡ true
    fault_stands e = by_bool (processor n m p) (λ t. t) (λ t. let l = off t in absurd (omega arith))

    unmarked : faulty_mark v ≡ false → blank_mark Map n m p ≡ v
    unmarked f =
        by_bool (processor n m p)
        (λ t. cond_taken 0 2 refl t ∙ sym (eqb-true v 0 (healthy_else n m (row p) (column p) v t h f)))
        (λ t. cond_left 0 2 refl t ∙ sym (off t))

    pub fault_turned : Turned Fault n m p (blank_mark Map n m p) (alive v)
    unfolding faulty_mark
    fault_turned =
        by_bool (dead_mark v)
        (λ d.
        let t = inner_stands n m (row p) (column p) (dead_inner n m (row p) (column p) v h d) in
        rw d (inr (refl, cond_taken 0 2 refl t)))
        (λ d.
        rw d
        (by_bool (eqb v 1)
        (λ e. inl (record { stands = fault_stands (eqb-true v 1 e); value = e; free = blank_free Fault n m p }))
        (λ e. inr (e, unmarked (rw (e, d) refl)))))

    pub dead_turned : Turned Dead n m p (alive v) v
    unfolding faulty_mark
    dead_turned =
        by_bool (dead_mark v)
        (λ d. inl (record { stands = dead_inner n m (row p) (column p) v h d; value = d; free = rw d refl }))
        (λ d. inr (d, rw d refl))

  path_stands : (not (inner n m p) && not (eqb v 0)) ≡ false → not (eqb v 0) ≡ true → inner n m p ≡ true
  path_stands h e = by_bool (inner n m p) (λ t. t) (λ t. absurd (true≢false (sym e ∙ (rw t at h))))

  pub path_turned : element_test Plan n m p v ≡ Ok tt → Turned Path n m p (blank_mark Plan n m p) v
  path_turned h =
      let o = or_false (ltb 4 v) (not (inner n m p) && not (eqb v 0)) (accepted_false _ 4 p 0 h) in
      by_bool (eqb v 0)
      (λ e. inr (ap not e, sym (eqb-true v 0 e)))
      (λ e.
      let z = eqb-false v 0 e in
      let l = ltb-false 4 v o.0 in
      inl
      (record {
        stands = path_stands o.1 (ap not e);
        value = and_both (leb 1 v) (leb v 4) (le-leb 1 v (omega arith)) (le-leb v 4 l);
        free = refl;
      }))

-- the value of a record, read where it was written
pub value_read :
    (kind : Record) (s front rest : List ℕ) (v at : ℕ) →
    is_value kind v ≡ true →
    s ≡ front ++ (value_bytes kind v ++ rest) →
    at ≡ length front →
    value_at kind s at ≡ Ok (v, at + length (value_bytes kind v))
value_read Fault s front rest v at t es ea =
    ap (λ (z : ℕ). Ok (z, at)) (sym (eqb-true v 1 t)) ∙ ap (λ (z : ℕ). Ok (v, z)) (omega arith)
value_read Dead s front rest v at t es ea =
    ap (λ (z : ℕ). Ok (z, at)) (sym (eqb-true v 3 t)) ∙ ap (λ (z : ℕ). Ok (v, z)) (omega arith)
value_read Path s front rest v at t es ea =
    let l : v ≤ 4 = value_low Path v t in
    read_at s front rest v at _ es ea refl (omega arith)

-- the records along a buffer and what follows them, where the first element has one and where it has none
module _ (kind : Record) (p x : ℕ) (xs rest : List ℕ) where
  abbrev later : List ℕ
  later = records_along (recorded kind) (record_bytes kind) (suc p) xs ++ rest

  pub along_some :
      recorded kind p x ≡ true →
      records_along (recorded kind) (record_bytes kind) p (x ∷ xs) ++ rest
      ≡ bytes_of (row p) ++ (bytes_of (column p) ++ (value_bytes kind x ++ later))
  unfolding records_along
  along_some t =
      rw t
      (append_assoc (record_bytes kind p x) _ rest
      ∙ ap (λ (l : List ℕ). l ++ later) (record_is kind p x)
      ∙ append_assoc (bytes_of (row p) ++ bytes_of (column p)) (value_bytes kind x) later
      ∙ append_assoc (bytes_of (row p)) (bytes_of (column p)) (value_bytes kind x ++ later))

  pub along_none : recorded kind p x ≡ false → records_along (recorded kind) (record_bytes kind) p (x ∷ xs) ++ rest ≡ later
  unfolding records_along
  along_none t = rw t

module _ (kind : Record) (p x : ℕ) (xs : List ℕ) where
  pub count_some :
      recorded kind p x ≡ true →
      length (positions_along (recorded kind) p (x ∷ xs)) ≡ suc (length (positions_along (recorded kind) (suc p) xs))
  unfolding positions_along
  count_some t = rw t

  pub count_none :
      recorded kind p x ≡ false → length (positions_along (recorded kind) p (x ∷ xs)) ≡ length (positions_along (recorded kind) (suc p) xs)
  unfolding positions_along
  count_none t = rw t

-- buffers that differ only where neither has a record have the same records
pub same_records :
    (kind : Record) (b c : List ℕ) →
    length b ≡ 1024 →
    length c ≡ 1024 →
    ((q : ℕ) → q < 1024 → Alike (recorded kind) q (get_or b q 0) (get_or c q 0)) →
    (record_count kind b ≡ record_count kind c) × (records_of kind b ≡ records_of kind c)
same_records kind b c w u h = (count_is kind b ∙ ap length (along position_only) ∙ sym (count_is kind c), along (record_bytes kind))
  where
    along : (bytes : ℕ → ℕ → List ℕ) → records_along (recorded kind) bytes 0 b ≡ records_along (recorded kind) bytes 0 c
    along bytes =
        records_alike (recorded kind) bytes b c 0 (w ∙ sym u) (λ j l. let e = zero-add j in rw e (h j (omega arith)))
