-- The records of a buffer: their parts, a turn of the loop over them and their length.
-- Assumes nothing.
use Prim.Native.Nat.{ℕ, suc, ◌+◌, ◌*◌, ◌<◌, ◌≤◌}
use mathlib.Core.Path.{◌≡◌, refl, sym, ap, ◌∙◌}
use mathlib.Core.Bool.{Bool, true, false, cond}
use mathlib.Core.List.{List, [], ◌∷◌, ◌++◌, append_assoc, append-nil}
use native.Mathlib.Numerals.{add-one}
use native.Mathlib.Omega.{arith}
use lib.Dec.{eqb}
use lib.ListN.{length, get_or, drop, length-append, drop_of_length-le}
use lib.Seq.{drop-cons}
use borrow.Author.Tests.{ne_eqb}
use Rattle.array.specs.Place.{row, column}
use Rattle.array.specs.Buffer.{positions_along}
use Rattle.array.proofs.Bools.{by_bool, cond_left}
use Rattle.formats.specs.Number.{bytes_of}
use Rattle.formats.specs.Records.{recorded, record_bytes, records_along, record_count, list_bytes, first_list, rest_bytes, file_bytes}
use Rattle.formats.specs.declared.Kind.{Kind}
use Rattle.formats.specs.declared.Kind.TheVariants.{Map, Plan}
use Rattle.formats.specs.declared.Record.{Record}
use Rattle.formats.specs.declared.Record.TheVariants.{Fault, Dead, Path}
use Rattle.formats.proofs.Cases.{one_byte}
use Rattle.writers.specs.Parts.{pair_bytes, value_bytes, element_bytes, records_of, records_length, list_length, dead_count, dead_list, rest_length}
use Rattle.formats.proofs.Runs.{Splits}
use Rattle.std.specs.Prelude.{count_by}
use Rattle.std.proofs.lemmas.List.Sums.{sum_by-cons}

-- how many records a buffer has: those of its elements that have one, wherever they stand
recorded_anywhere : (kind : Record) (p v : ℕ) → recorded kind p v ≡ recorded kind 0 v
recorded_anywhere Fault p v = refl
recorded_anywhere Dead p v = refl
recorded_anywhere Path p v = refl

counted_along : (kind : Record) (i : ℕ) (xs : List ℕ) → length (positions_along (recorded kind) i xs) ≡ count_by (recorded kind 0) xs
unfolding positions_along
counted_along kind i [] = refl
counted_along kind i (x ∷ xs) =
    let e = recorded_anywhere kind i x in
    let h = counted_along kind (suc i) xs in
    let s = sum_by-cons (λ (v : ℕ). cond (recorded kind 0 v) 1 0) x xs in
    by_bool (recorded kind 0 x) (λ t. rw (e, s, t) (omega (arith, h))) (λ t. rw (e, s, t) (omega (arith, h)))

pub counted_by : (kind : Record) (b : List ℕ) → record_count kind b ≡ count_by (recorded kind 0) b
unfolding record_count
counted_by kind b = counted_along kind 0 b

-- a record is its row with its column, and its value
pub record_is : (kind : Record) (p v : ℕ) → record_bytes kind p v ≡ pair_bytes (row p) (column p) ++ value_bytes kind v
record_is Fault p v = sym (append-nil (pair_bytes (row p) (column p)))
record_is Dead p v = sym (append-nil (pair_bytes (row p) (column p)))
record_is Path p v = sym (append_assoc (bytes_of (row p)) (bytes_of (column p)) (bytes_of v))

pub pair_first : (kind : Record) (p v : ℕ) → Splits (record_bytes kind p v) (pair_bytes (row p) (column p)) (value_bytes kind v)
pair_first kind p v = record { is = record_is kind p v }

-- a list is its count and its records; a file is N with M, its first list and the rest
pub count_first :
    (kind : Record) (count : ℕ) (b : List ℕ) →
    count ≡ record_count kind b →
    Splits (list_bytes kind b) (bytes_of count) (records_of kind b)
count_first kind count b e = record { is = rw e refl }

pub sizes_first :
    (kind : Kind) (n m : ℕ) (b : List ℕ) (t : ℕ) →
    Splits (file_bytes kind n m b t) (pair_bytes n m) (list_bytes (first_list kind) b ++ rest_bytes kind b t)
unfolding file_bytes
sizes_first kind n m b t = record { is = sym (append_assoc (bytes_of n) (bytes_of m) _) }

-- the list of k dead processors
module _ (k : ℕ) (b : List ℕ) where
  pub dead_some : (k ≡ 0 → ⊥) → dead_list k b ≡ list_bytes Dead b
  dead_some z = cond_left [] (list_bytes Dead b) refl (ne_eqb k 0 z)

cond_append : (t : Bool) (a r : List ℕ) → cond t (a ++ r) r ≡ cond t a [] ++ r
cond_append true a r = refl
cond_append false a r = refl

-- what is left to write from position p on
abbrev pub records_from : Record → List ℕ → ℕ → List ℕ
records_from kind b p = records_along (recorded kind) (record_bytes kind) p (drop p b)

module _ (kind : Record) (b : List ℕ) (p : ℕ) where
  turn : p < length b → records_from kind b p ≡ element_bytes kind p (get_or b p 0) ++ records_from kind b (p + 1)
  unfolding records_along
  turn h = rw (drop-cons b p 0 h, add-one p) (cond_append (recorded kind p (get_or b p 0)) _ _)

  pub records_turn : p < length b → Splits (records_from kind b p) (element_bytes kind p (get_or b p 0)) (records_from kind b (p + 1))
  records_turn h = record { is = turn h }

  pub records_end : length b ≤ p → records_from kind b p ≡ []
  unfolding records_along
  records_end h = rw (drop_of_length-le b h)

-- The numbers of a record take one byte each where its value is small.
place_length : (p k : ℕ) → p < 1024 → length (pair_bytes (row p) (column p)) + 2 * k ≡ 2 * suc k
place_length p k h =
    omega (
      arith,
      length-append (bytes_of (row p)) (bytes_of (column p)),
      one_byte (row p) (omega arith),
      one_byte (column p) (omega arith),
    )

record_length :
    (kind : Record) (p v k : ℕ) →
    p < 1024 →
    v < 128 →
    length (record_bytes kind p v) + records_length kind k ≡ records_length kind (suc k)
record_length Fault p v k h l = place_length p k h
record_length Dead p v k h l = place_length p k h
record_length Path p v k h l =
    omega (
      arith,
      length-append (bytes_of (row p)) (bytes_of (column p) ++ bytes_of v),
      length-append (bytes_of (column p)) (bytes_of v),
      one_byte (row p) (omega arith),
      one_byte (column p) (omega arith),
      one_byte v l,
    )

no_records : (kind : Record) → 0 ≡ records_length kind 0
no_records Fault = refl
no_records Dead = refl
no_records Path = refl

abbrev Small : List ℕ → Type 0
Small xs = (k : ℕ) → k < length xs → get_or xs k 0 < 128

along_length :
    (kind : Record) (xs : List ℕ) (i : ℕ) →
    i + length xs ≤ 1024 →
    Small xs →
    length (records_along (recorded kind) (record_bytes kind) i xs) ≡ records_length kind (length (positions_along (recorded kind) i xs))
unfolding records_along positions_along
along_length kind [] i h s = no_records kind
along_length kind (x ∷ xs) i h s =
    let ih = along_length kind xs (suc i) (omega arith) (λ k l. s (suc k) (omega arith)) in
    let r : List ℕ = records_along (recorded kind) (record_bytes kind) (suc i) xs in
    let v : x < 128 = s 0 (omega arith) in
    by_bool (recorded kind i x)
    (λ t.
    rw t
    (length-append (record_bytes kind i x) r
    ∙ ap (λ (z : ℕ). length (record_bytes kind i x) + z) ih
    ∙ record_length kind i x _ (omega arith) v))
    (λ t. rw t ih)

-- the length of a list and of a file whose values are small
module _ (b : List ℕ) (w : length b ≡ 1024) (s : Small b) where
  listed_length : (kind : Record) → length (list_bytes kind b) ≡ list_length kind (record_count kind b)
  unfolding record_count
  listed_length kind =
      omega (arith, length-append (bytes_of (record_count kind b)) (records_of kind b), along_length kind b 0 (omega arith) s)

  rest_is_long : (kind : Kind) (t : ℕ) → length (rest_bytes kind b t) ≡ rest_length kind (dead_count kind b) t
  rest_is_long Map t = by_bool (eqb (record_count Dead b) 0) (λ z. rw z refl) (λ z. rw z (listed_length Dead))
  rest_is_long Plan t = refl

  pub file_length :
      (kind : Kind) (n m t : ℕ) →
      n ≤ 30 →
      m ≤ 30 →
      length (file_bytes kind n m b t)
      ≡ 2 + list_length (first_list kind) (record_count (first_list kind) b) + rest_length kind (dead_count kind b) t
  unfolding file_bytes
  file_length kind n m t a d =
      let first = list_bytes (first_list kind) b in
      let rest = rest_bytes kind b t in
      omega (
        arith,
        length-append (bytes_of n) (bytes_of m ++ (first ++ rest)),
        length-append (bytes_of m) (first ++ rest),
        length-append first rest,
        one_byte n (omega arith),
        one_byte m (omega arith),
        listed_length (first_list kind),
        rest_is_long kind t,
      )
