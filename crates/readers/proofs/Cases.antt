-- The definitions of a reader by their cases: one law for each answer.
-- Assumes nothing.
use Prim.Native.Nat.{ℕ, suc, ◌+◌, ◌-◌, ◌<◌, ◌≤◌}
use mathlib.Core.Path.{◌≡◌, refl, sym, ap, ◌∙◌}
use mathlib.Core.List.{List}
use mathlib.Core.Bool.{Bool, true, false, cond, not}
use native.Mathlib.Omega.{arith}
use lib.Dec.{leb, eqb}
use lib.ListN.{length, get_or, set}
use borrow.Author.Tests.{leb-true, eqb-true, lt-ltb, le-ltb, eq-eqb, ne_eqb}
use Rattle.array.specs.Place.{position, size, inner_at}
use Rattle.array.specs.Buffer.{buffer}
use Rattle.array.specs.Tests.{refusal}
use Rattle.array.specs.Map.{faulty_mark, faulty}
use Rattle.array.specs.declared.Refusal.{Refusal}
use Rattle.array.proofs.Bools.{and_true, by_bool, cond_taken, cond_left}
use Rattle.array.proofs.Places.{inner_stands, processor_within}
use Rattle.array.proofs.Fills.{tabulate_length, tabulate_at}
use Rattle.array.proofs.Marks.{faulty_read}
use Rattle.formats.specs.Number.{number_at, size_at, refused, Number}
use Rattle.formats.specs.Records.{healthy_grid, blank}
use Rattle.formats.specs.declared.Kind.{Kind}
use Rattle.formats.specs.declared.Kind.TheVariants.{Map, Plan}
use Rattle.formats.specs.declared.Record.{Record}
use Rattle.formats.specs.declared.Record.TheVariants.{Fault, Dead, Path}
use Rattle.formats.proofs.Answers.{ok_parts}
use Rattle.readers.specs.Reading.{no_record, mark_in_order, mark_fault, mark_dead, mark_path, record_at, records_at, whole_file, second_at, trials_at, rest_at, body_at, read_file, Step}
use Rattle.readers.specs.Parts.{blank_mark, stands_at, off_number, repeated, value_at, is_value, marked}
use Rattle.readers.specs.declared.Head.{Head}
use Rattle.std.specs.Prelude.{Ok, Err}

module _ (s : List ℕ) (at : ℕ) where
  pub size_refused : (e : Refusal) → number_at s at ≡ Err e → size_at s at ≡ Err e
  unfolding size_at
  size_refused e q = rw q

  module _ (v next : ℕ) (q : number_at s at ≡ Ok (v, next)) where
    pub size_good : size v ≡ true → size_at s at ≡ Ok (v, next)
    unfolding size_at
    size_good t = rw q (cond_taken (Ok (v, next)) (refused 1 at) refl t)

    pub size_bad : size v ≡ false → size_at s at ≡ refused 1 at
    unfolding size_at
    size_bad t = rw q (cond_left (Ok (v, next)) (refused 1 at) refl t)

  -- a size that was read is a number that was read, and is one, so it is at most 30
  pub size_number : (v next : ℕ) → size_at s at ≡ Ok (v, next) → (number_at s at ≡ Ok (v, next)) × (size v ≡ true)
  size_number v next q = by_number (number_at s at) refl
    where
      by_number : (x : Number) → number_at s at ≡ x → (number_at s at ≡ Ok (v, next)) × (size v ≡ true)
      by_number (Err e) h = absurd (let z : ◌≡◌ {A = ℕ} 0 1 = cc (size_refused e h) in omega arith)
      by_number (Ok (w, k)) h =
          by_bool (size w)
          (λ t.
          let e : Ok (w, k) ≡ Ok (v, next) = sym (size_good w k h t) ∙ q in
          let z = (ok_parts e).0 in
          (h ∙ e, rw z at t))
          (λ t. absurd (let z : ◌≡◌ {A = ℕ} 0 1 = cc (size_bad w k h t) in omega arith))

  pub size_bound : (v next : ℕ) → size_at s at ≡ Ok (v, next) → v ≤ 30
  size_bound v next q = leb-true v 30 (and_true (leb 1 v) (leb v 30) (size_number v next q).1).1

-- a blank buffer, by its positions
pub blank_is : (kind : Kind) (n m : ℕ) → blank kind n m ≡ buffer (blank_mark kind n m)
unfolding healthy_grid
blank_is Map n m = refl
blank_is Plan n m = refl

pub blank_length : (kind : Kind) (n m : ℕ) → length (blank kind n m) ≡ 1024
blank_length kind n m = ap length (blank_is kind n m) ∙ tabulate_length (blank_mark kind n m) 1024

pub blank_at : (kind : Kind) (n m p : ℕ) → p < 1024 → get_or (blank kind n m) p 0 ≡ blank_mark kind n m p
blank_at kind n m p l = ap (λ (b : List ℕ). get_or b p 0) (blank_is kind n m) ∙ tabulate_at (blank_mark kind n m) 1024 p 0 l

-- the row and the column of a record that may stand
pub stands_within : (kind : Record) (n m x y : ℕ) → stands_at kind n m x y ≡ true → (x ≤ n + 1) × (y ≤ m + 1)
stands_within Fault n m x y t = processor_within n m x y t
stands_within Dead n m x y t = processor_within n m x y (inner_stands n m x y t)
stands_within Path n m x y t = processor_within n m x y (inner_stands n m x y t)

-- a value that a record may write
pub value_low : (kind : Record) (v : ℕ) → is_value kind v ≡ true → v ≤ 4
value_low Fault v t = let e : v ≡ 1 = eqb-true v 1 t in omega arith
value_low Dead v t = let e : v ≡ 3 = eqb-true v 3 t in omega arith
value_low Path v t = leb-true v 4 (and_true (leb 1 v) (leb v 4) t).1

swap : {A : Type 0} (t : Bool) (a b : A) → cond t a b ≡ cond (not t) b a
swap true a b = refl
swap false a b = refl

module _ (n m : ℕ) (small : (n ≤ 30) × (m ≤ 30)) (at before x y next : ℕ) (b : List ℕ) (w : length b ≡ 1024) where
  -- a mark v is judged in the buffer as in the grid
  mark_marked :
      (kind : Record) (v : ℕ) →
      cond (stands_at kind n m x y)
      (cond (faulty b (position x y)) (no_record 11 at b) (mark_in_order at before (position x y) v next b))
      (no_record (off_number kind) at b)
      ≡ cond (stands_at kind n m x y)
      (cond (faulty_mark (get_or b (position x y) 0)) (no_record 11 at b) (mark_in_order at before (position x y) v next b))
      (no_record (off_number kind) at b)
  mark_marked kind v =
      by_bool (stands_at kind n m x y)
      (λ t.
      let l = stands_within kind n m x y t in
      cond_taken _ _ refl t
      ∙ ap (λ (z : Bool). cond z (no_record 11 at b) (mark_in_order at before (position x y) v next b))
      (faulty_read b (position x y) (omega arith))
      ∙ sym (cond_taken _ _ refl t))
      (λ t. cond_left _ _ refl t ∙ sym (cond_left _ _ refl t))

  fault_marked : mark_fault n m at before x y next b ≡ marked Fault n m at before x y 1 next b
  fault_marked = mark_marked Fault 1

  dead_marked : mark_dead n m at before x y next b ≡ marked Dead n m at before x y 3 next b
  dead_marked = mark_marked Dead 3

  path_marked : (d : ℕ) → mark_path n m at before x y d next b ≡ marked Path n m at before x y d next b
  path_marked d = ap (λ (z : Step × List ℕ). cond (inner_at n m x y) z (no_record 10 at b)) (swap (eqb (get_or b (position x y) 0) 0) _ _)

module _ (s : List ℕ) (n m at before : ℕ) (b : List ℕ) where
  pub no_row : (kind : Record) (e : Refusal) → number_at s at ≡ Err e → record_at kind s n m at before b ≡ (Err e, b)
  unfolding record_at
  no_row Fault e q = rw q
  no_row Dead e q = rw q
  no_row Path e q = rw q

  module _ (x a : ℕ) (q : number_at s at ≡ Ok (x, a)) where
    pub no_column : (kind : Record) (e : Refusal) → number_at s a ≡ Err e → record_at kind s n m at before b ≡ (Err e, b)
    unfolding record_at
    no_column Fault e r = rw (q, r)
    no_column Dead e r = rw (q, r)
    no_column Path e r = rw (q, r)

    module _ (y c : ℕ) (r : number_at s a ≡ Ok (y, c)) where
      pub no_value :
          (kind : Record) (e : Refusal) → value_at kind s c ≡ Err e → record_at kind s n m at before b ≡ (Err e, b)
      unfolding record_at
      no_value Fault e t = absurd (let z : ◌≡◌ {A = ℕ} 0 1 = cc in omega arith)
      no_value Dead e t = absurd (let z : ◌≡◌ {A = ℕ} 0 1 = cc in omega arith)
      no_value Path e t = rw (q, r, t)

      as_read :
          (kind : Record) (u v next : ℕ) → ◌≡◌ {A = Number} (Ok (u, c)) (Ok (v, next))
          → marked kind n m at before x y u c b ≡ marked kind n m at before x y v next b
      as_read kind u v next t =
          rw ((ok_parts t).0, (ok_parts t).1)

      pub record_marked :
          (small : (n ≤ 30) × (m ≤ 30)) →
          length b ≡ 1024 →
          (kind : Record) (v next : ℕ) →
          value_at kind s c ≡ Ok (v, next) →
          record_at kind s n m at before b ≡ marked kind n m at before x y v next b
      unfolding record_at
      record_marked small w Fault v next t = rw (q, r) (fault_marked n m small at before x y c b w ∙ as_read Fault 1 v next t)
      record_marked small w Dead v next t = rw (q, r) (dead_marked n m small at before x y c b w ∙ as_read Dead 3 v next t)
      record_marked small w Path v next t = rw (q, r, t) (path_marked n m small at before x y next b w v)

-- a record that passes 10 or 20, 11 and 13 is left to its order
pub marked_in_order :
    (kind : Record) (n m at before x y v next : ℕ) (b : List ℕ) →
    stands_at kind n m x y ≡ true →
    repeated kind (get_or b (position x y) 0) ≡ false →
    is_value kind v ≡ true →
    marked kind n m at before x y v next b ≡ mark_in_order at before (position x y) v next b
marked_in_order kind n m at before x y v next b s f t = cond_taken _ _ refl s ∙ cond_left _ _ refl f ∙ cond_taken _ _ refl t

-- one in order marks its position, one that is lower than the record before is 19
module _ (at before p v next : ℕ) (b : List ℕ) where
  pub in_order : before ≤ p → mark_in_order at before p v next b ≡ (Ok (next, p), set b p v)
  in_order l = rw (le-ltb _ _ l)

  pub out_of_order : p < before → mark_in_order at before p v next b ≡ no_record 19 at b
  out_of_order l = rw (lt-ltb _ _ l)

module _ (kind : Record) (s : List ℕ) (n m k at before : ℕ) (b : List ℕ) where
  pub more_suc :
      (next p : ℕ) (c : List ℕ) →
      record_at kind s n m at before b ≡ (Ok (next, p), c) →
      records_at kind s n m (suc k) at before b ≡ records_at kind s n m k next p c
  unfolding records_at
  more_suc next p c q = rw q

  pub stop_suc :
      (e : Refusal) (c : List ℕ) →
      record_at kind s n m at before b ≡ (Err e, c) →
      records_at kind s n m (suc k) at before b ≡ (Err e, c)
  unfolding records_at
  stop_suc e c q = rw q

module _ (kind : Record) (s : List ℕ) (n m k at before : ℕ) (b : List ℕ) (l : 0 < k) where
  some : k ≡ suc (k - 1)
  some = omega arith

  pub more :
      (next p : ℕ) (c : List ℕ) →
      record_at kind s n m at before b ≡ (Ok (next, p), c) →
      records_at kind s n m k at before b ≡ records_at kind s n m (k - 1) next p c
  more next p c q =
      ap (λ (j : ℕ). records_at kind s n m j at before b) some ∙ more_suc kind s n m (k - 1) at before b next p c q

  pub stop :
      (e : Refusal) (c : List ℕ) →
      record_at kind s n m at before b ≡ (Err e, c) →
      records_at kind s n m k at before b ≡ (Err e, c)
  stop e c q = ap (λ (j : ℕ). records_at kind s n m j at before b) some ∙ stop_suc kind s n m (k - 1) at before b e c q

pub none_left :
    (kind : Record) (s : List ℕ) (n m at before : ℕ) (b : List ℕ) → records_at kind s n m 0 at before b ≡ (Ok (at, before), b)
unfolding records_at
none_left kind s n m at before b = refl

-- a whole file with T, from what its last part answered
module _ (s : List ℕ) (head : Head) (t : ℕ) (lent : List ℕ) {x : Step × List ℕ} where
  module _ (at p : ℕ) (b : List ℕ) (u : x ≡ (Ok (at, p), b)) where
    pub whole_more : at < length s → whole_file s head t lent x ≡ (Err (refusal 12 at 0), lent)
    whole_more l = rw (u, lt-ltb _ _ l)

    pub whole_read : length s ≤ at → whole_file s head t lent x ≡ (Ok (head, t), b)
    whole_read l = rw (u, le-ltb _ _ l)

-- what follows the first list, from what its records answered
module _ (s : List ℕ) (head : Head) (lent : List ℕ) where
  pub rest_refused :
      (kind : Kind) (e : Refusal) (b : List ℕ) {x : Step × List ℕ} →
      x ≡ (Err e, b) →
      rest_at kind s head lent x ≡ (Err e, lent)
  rest_refused Map e b u = rw u
  rest_refused Plan e b u = rw u

  module _ (at p : ℕ) (b : List ℕ) where
    pub second_none : length s ≤ at → second_at s head lent (Ok (at, p), b) ≡ (Ok (head, 0), b)
    second_none l = rw (le-ltb _ _ l)

    module _ (l : at < length s) where
      pub second_cut : (e : Refusal) → number_at s at ≡ Err e → second_at s head lent (Ok (at, p), b) ≡ (Err e, lent)
      second_cut e q = rw (lt-ltb _ _ l, q)

      module _ (k a : ℕ) (q : number_at s at ≡ Ok (k, a)) where
        pub second_zero : k ≡ 0 → second_at s head lent (Ok (at, p), b) ≡ (Err (refusal 12 at 0), lent)
        second_zero z = rw (lt-ltb _ _ l, q, eq-eqb k 0 z)

        pub second_some :
            (k ≡ 0 → ⊥) →
            second_at s head lent (Ok (at, p), b)
            ≡ whole_file s (record { rows = head.rows; columns = head.columns; count = head.count + k }) 0 lent
            (records_at Dead s head.rows head.columns k a 0 b)
        second_some z = rw (lt-ltb _ _ l, q, ne_eqb k 0 z)

    pub trials_cut : (e : Refusal) → number_at s at ≡ Err e → trials_at s head lent (Ok (at, p), b) ≡ (Err e, lent)
    trials_cut e q = rw q

    pub trials_some :
        (t end : ℕ) →
        number_at s at ≡ Ok (t, end) →
        trials_at s head lent (Ok (at, p), b) ≡ whole_file s head t lent (Ok (end, p), b)
    trials_some t end q = rw q

module _ (kind : Kind) (s lent : List ℕ) where
  pub file_short : (length lent ≡ 1024 → ⊥) → read_file kind s lent ≡ (Err (refusal 2 0 0), lent)
  unfolding read_file
  file_short h = simp (ne_eqb _ _ h)

  module _ (w : length lent ≡ 1024) where
    pub no_rows : (e : Refusal) → size_at s 0 ≡ Err e → read_file kind s lent ≡ (Err e, lent)
    unfolding read_file
    no_rows e q = simp (eq-eqb _ _ w, q)

    module _ (n a : ℕ) (q : size_at s 0 ≡ Ok (n, a)) where
      pub no_columns : (e : Refusal) → size_at s a ≡ Err e → read_file kind s lent ≡ (Err e, lent)
      unfolding read_file
      no_columns e r = simp (eq-eqb _ _ w, q, r)

      module _ (m b : ℕ) (r : size_at s a ≡ Ok (m, b)) where
        pub no_count : (e : Refusal) → number_at s b ≡ Err e → read_file kind s lent ≡ (Err e, lent)
        unfolding read_file
        no_count e t = simp (eq-eqb _ _ w, q, r, t)

        pub head_read :
            (k c : ℕ) →
            number_at s b ≡ Ok (k, c) →
            read_file kind s lent ≡ body_at kind s (record { rows = n; columns = m; count = k }) lent c
        unfolding read_file
        head_read k c t = simp (eq-eqb _ _ w, q, r, t)
