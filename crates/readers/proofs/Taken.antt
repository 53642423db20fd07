-- What a reader has taken: the facts of a record that is taken and of a file that is accepted, and what every record keeps.
-- Assumes nothing.
use Prim.Native.Nat.{ℕ, zero, suc, ◌+◌, ◌<◌, ◌≤◌}
use mathlib.Core.Path.{◌≡◌, refl, sym, ap, ◌∙◌}
use mathlib.Core.Bool.{true, false, ◌&&◌}
use mathlib.Core.List.{List}
use mathlib.Core.Logic.{◌⊎◌, inl, inr}
use native.Mathlib.Nat.{add-zero}
use native.Mathlib.Omega.{arith}
use lib.ListN.{length, get_or, set, length-set}
use Rattle.array.specs.Place.{row, column, position, size}
use Rattle.array.specs.declared.Refusal.{Refusal}
use Rattle.array.proofs.Bools.{by_bool, by_eq, by_lt, and_both, cond_taken, cond_left}
use Rattle.formats.specs.Number.{number_at, size_at, Number}
use Rattle.formats.specs.Records.{blank, first_list}
use Rattle.formats.specs.declared.Kind.{Kind}
use Rattle.formats.specs.declared.Kind.TheVariants.{Map, Plan}
use Rattle.formats.specs.declared.Record.{Record}
use Rattle.formats.specs.declared.Record.TheVariants.{Dead}
use Rattle.formats.proofs.Answers.{ok_parts}
use Rattle.formats.proofs.Cases.{ended}
use Rattle.readers.specs.Reading.{record_at, records_at, whole_file, rest_at, read_file, read_map, map_of, FileRead, MapRead, Step}
use Rattle.readers.specs.Parts.{stands_at, repeated, value_at, is_value, marked}
use Rattle.readers.specs.declared.Head.{Head}
use Rattle.readers.proofs.Cases.{size_number, stands_within, marked_in_order, in_order, out_of_order, no_row, no_column, no_value, record_marked, more_suc, stop_suc, none_left, whole_more, whole_read, rest_refused, second_none, second_cut, second_zero, second_some, trials_cut, trials_some, file_short, no_rows, no_columns, no_count, head_read}
use Rattle.std.specs.Prelude.{Ok, Err}

-- a list of k records that is taken from its start to its end, into the buffer b, which becomes c
pub record ListTaken (kind : Record) (s : List ℕ) (n m k start end : ℕ) (b c : List ℕ) : Type 0 where
  pub last : ℕ
  pub records_read : records_at kind s n m k start 0 b ≡ (Ok (end, last), c)

-- a record at an offset that is taken for position p, into the buffer b, which becomes c: its numbers, and what its tests found
pub record Taken (kind : Record) (s : List ℕ) (n m at before : ℕ) (b : List ℕ) (next p : ℕ) (c : List ℕ) : Type 0 where
  pub second : ℕ
  pub third : ℕ
  pub v : ℕ
  pub row_read : number_at s at ≡ Ok (row p, second)
  pub column_read : number_at s second ≡ Ok (column p, third)
  pub value_read : value_at kind s third ≡ Ok (v, next)
  pub low : p < 1024
  pub stands : stands_at kind n m (row p) (column p) ≡ true
  pub free : repeated kind (get_or b p 0) ≡ false
  pub value : is_value kind v ≡ true
  pub ascends : before ≤ p
  pub stored : set b p v ≡ c

module _ (kind : Record) (s : List ℕ) (n m : ℕ) (small : (n ≤ 30) × (m ≤ 30)) where
  module _ (at before : ℕ) (b : List ℕ) (w : length b ≡ 1024) (next p : ℕ) (c : List ℕ) where
    abbrev T : Type 0
    T = Taken kind s n m at before b next p c

    no : {A : Type 0} {e : Refusal} {d : List ℕ} → ◌≡◌ {A = Step × List ℕ} (Err e, d) (Ok (next, p), c) → A
    no {A} {e} {d} q =
        let r : ◌≡◌ {A = Step} (Err e) (Ok (next, p)) = ap (λ (x : Step × List ℕ). x.0) q in
        absurd (let z : ◌≡◌ {A = ℕ} 0 1 = cc r in omega arith)

    module _ (x y v second third end : ℕ) (u : number_at s at ≡ Ok (x, second)) (r : number_at s second ≡ Ok (y, third))
        (t : value_at kind s third ≡ Ok (v, end)) where
      good_taken :
          stands_at kind n m x y ≡ true →
          repeated kind (get_or b (position x y) 0) ≡ false →
          is_value kind v ≡ true →
          before ≤ position x y →
          ◌≡◌ {A = Step × List ℕ} (Ok (end, position x y), set b (position x y) v) (Ok (next, p), c) →
          T
      good_taken f g h l e =
          let i = stands_within kind n m x y f in
          let a : ◌≡◌ {A = Step} (Ok (end, position x y)) (Ok (next, p)) = ap (λ (z : Step × List ℕ). z.0) e in
          let j : position x y ≡ p = (ok_parts a).1 in
          let k : end ≡ next = (ok_parts a).0 in
          let rx : x ≡ row p = omega (arith, i, small, j) in
          let ry : y ≡ column p = omega (arith, i, small, j) in
          record {
            second = second;
            third = third;
            v = v;
            row_read = u ∙ ap (λ (z : ℕ). Ok (z, second)) rx;
            column_read = r ∙ ap (λ (z : ℕ). Ok (z, third)) ry;
            value_read = t ∙ ap (λ (z : ℕ). Ok (v, z)) k;
            low = omega (arith, i, small, j);
            stands = rw (rx, ry) at f;
            free = rw j at g;
            value = h;
            ascends = omega (arith, l, j);
            stored = ap (λ (z : ℕ). set b z v) (sym j) ∙ ap (λ (z : Step × List ℕ). z.1) e;
          }

      marked_taken : marked kind n m at before x y v end b ≡ (Ok (next, p), c) → T
      marked_taken q =
          by_bool (stands_at kind n m x y)
          (λ f.
          by_bool (repeated kind (get_or b (position x y) 0))
          (λ g. no (sym (cond_taken _ _ refl f ∙ cond_taken _ _ refl g) ∙ q))
          (λ g.
          by_bool (is_value kind v)
          (λ h.
          let e = marked_in_order kind n m at before x y v end b f g h in
          by_lt (position x y) before
          (λ l. no (sym (e ∙ out_of_order at before (position x y) v end b l) ∙ q))
          (λ l. good_taken f g h l (sym (e ∙ in_order at before (position x y) v end b l) ∙ q)))
          (λ h. no (sym (cond_taken _ _ refl f ∙ cond_left _ _ refl g ∙ cond_left _ _ refl h) ∙ q))))
          (λ f. no (sym (cond_left _ _ refl f) ∙ q))

    pub record_taken : record_at kind s n m at before b ≡ (Ok (next, p), c) → T
    record_taken q = by_row (number_at s at) refl
      where
        by_value : (x a y d : ℕ) → number_at s at ≡ Ok (x, a) → number_at s a ≡ Ok (y, d) → (r : Number) → value_at kind s d ≡ r → T
        by_value x a y d u r (Err e) z = no (sym (no_value s n m at before b x a u y d r kind e z) ∙ q)
        by_value x a y d u r (Ok (v, e)) z =
            marked_taken x y v a d e u r z (sym (record_marked s n m at before b x a u y d r small w kind v e z) ∙ q)

        by_column : (x a : ℕ) → number_at s at ≡ Ok (x, a) → (r : Number) → number_at s a ≡ r → T
        by_column x a u (Err e) z = no (sym (no_column s n m at before b x a u kind e z) ∙ q)
        by_column x a u (Ok (y, d)) z = by_value x a y d u z (value_at kind s d) refl

        by_row : (r : Number) → number_at s at ≡ r → T
        by_row (Err e) u = no (sym (no_row s n m at before b kind e u) ∙ q)
        by_row (Ok (x, a)) u = by_column x a u (number_at s a) refl

  -- What each record that is taken keeps holds after all of them: P is of the records so far, the offset, the last position and the buffer.
  module _ (P : ℕ → ℕ → ℕ → List ℕ → Type 0)
      (keeps : (k at before : ℕ) (b : List ℕ) (next p : ℕ) (c : List ℕ) → length b ≡ 1024 → P k at before b
      → Taken kind s n m at before b next p c → P (suc k) next p c) where
    records_keep :
        (k j at before end last : ℕ) (b c : List ℕ) →
        length b ≡ 1024 →
        P j at before b →
        records_at kind s n m k at before b ≡ (Ok (end, last), c) →
        (length c ≡ 1024) × P (j + k) end last c
    records_keep zero j at before end last b c w h q =
        let e : ◌≡◌ {A = Step × List ℕ} (Ok (at, before), b) (Ok (end, last), c) = sym (none_left kind s n m at before b) ∙ q in
        let z : ◌≡◌ {A = Step} (Ok (at, before)) (Ok (end, last)) = ap (λ (x : Step × List ℕ). x.0) e in
        let a : at ≡ end = (ok_parts z).0 in
        let l : before ≡ last = (ok_parts z).1 in
        let d : b ≡ c = ap (λ (x : Step × List ℕ). x.1) e in
        let i : j ≡ j + 0 = omega arith in
        (ap length (sym d) ∙ w, rw (a, l, d, i) at h)
    records_keep (suc k) j at before end last b c w h q =
        by_step (λ next p d. records_keep k (suc j) next p end last d c) (record_at kind s n m at before b) refl
      where
        by_step :
            ((next p : ℕ) (d : List ℕ) → length d ≡ 1024 → P (suc j) next p d
            → records_at kind s n m k next p d ≡ (Ok (end, last), c) → (length c ≡ 1024) × P (suc j + k) end last c) →
            (r : Step × List ℕ) →
            record_at kind s n m at before b ≡ r →
            (length c ≡ 1024) × P (j + suc k) end last c
        by_step on (Err e, d) u = no at before b w end last c (sym (stop_suc kind s n m k at before b e d u) ∙ q)
        by_step on (Ok (next, p), d) u =
            let e : suc j + k ≡ j + suc k = omega arith in
            let t = record_taken at before b w next p d u in
            let l : length d ≡ 1024 = ap length (sym t.stored) ∙ length-set b p t.v ∙ w in
            rw e at (on next p d l (keeps j at before b next p d w h t) (sym (more_suc kind s n m k at before b next p d u) ∙ q))

    -- the same of a whole list
    pub list_keeps :
        {k start end : ℕ} {b c : List ℕ} →
        length b ≡ 1024 →
        P 0 start 0 b →
        (t : ListTaken kind s n m k start end b c) →
        (length c ≡ 1024) × P (0 + k) end t.last c
    list_keeps {k} {start} {end} {b} {c} w h t = records_keep k 0 start 0 end t.last b c w h t.records_read

-- what follows the first list of a file: nothing, the second list of a map, of at least one record, or T of a plan
pub record Ended (s : List ℕ) (at : ℕ) (b c : List ℕ) (more : ℕ) : Type 0 where
  pub ends : length s ≤ at
  pub same : b ≡ c
  pub none : more ≡ 0

pub record SecondTaken (s : List ℕ) (n m at : ℕ) (b c : List ℕ) (more : ℕ) : Type 0 where
  pub start : ℕ
  pub end : ℕ
  pub count_read : number_at s at ≡ Ok (more, start)
  pub some : more ≡ 0 → ⊥
  pub list_read : ListTaken Dead s n m more start end b c
  pub ends : length s ≤ end

pub record TrialsTaken (s : List ℕ) (at : ℕ) (b c : List ℕ) (more t : ℕ) : Type 0 where
  pub end : ℕ
  pub trials_read : number_at s at ≡ Ok (t, end)
  pub ended : Ended s end b c more

abbrev pub RestTaken : Kind → List ℕ → ℕ → ℕ → ℕ → List ℕ → List ℕ → ℕ → ℕ → Type 0
RestTaken Map s n m at b c more t = (Ended s at b c more ⊎ SecondTaken s n m at b c more) × (t ≡ 0)
RestTaken Plan s n m at b c more t = TrialsTaken s at b c more t

-- a file that is accepted with T: its numbers, and its lists to its end
pub record FileTaken (kind : Kind) (s b : List ℕ) (head : Head) (t : ℕ) : Type 0 where
  pub second : ℕ
  pub third : ℕ
  pub start : ℕ
  pub end : ℕ
  pub count : ℕ
  pub more : ℕ
  pub first : List ℕ
  pub rows_read : size_at s 0 ≡ Ok (head.rows, second)
  pub columns_read : size_at s second ≡ Ok (head.columns, third)
  pub count_read : number_at s third ≡ Ok (count, start)
  pub first_read :
      ListTaken (first_list kind) s head.rows head.columns count start end (blank kind head.rows head.columns) first
  pub rest_read : RestTaken kind s head.rows head.columns end first b more t
  pub both : count + more ≡ head.count

abbrev headed : ℕ → ℕ → ℕ → Head
headed n m k = record { rows = n; columns = m; count = k }

-- what an answer that accepts says of the last list, and of what follows the first
module _ (s lent b : List ℕ) (head : Head) (t : ℕ) where
  no_file : {A : Type 0} {e : Refusal} {d : List ℕ} → ◌≡◌ {A = FileRead × List ℕ} (Err e, d) (Ok (head, t), b) → A
  no_file {A} {e} {d} q =
      let z : ◌≡◌ {A = FileRead} (Err e) (Ok (head, t)) = ap (λ (x : FileRead × List ℕ). x.0) q in
      absurd (let z : ◌≡◌ {A = ℕ} 0 1 = cc z in omega arith)

  record Whole (h : Head) (u : ℕ) (x : Step × List ℕ) : Type 0 where
    end : ℕ
    last : ℕ
    read : x ≡ (Ok (end, last), b)
    ends : length s ≤ end
    is_head : h ≡ head
    is_trials : u ≡ t

  whole_taken : (h : Head) (u : ℕ) (x : Step × List ℕ) → whole_file s h u lent x ≡ (Ok (head, t), b) → Whole h u x
  whole_taken h u (Err e, c) q = no_file q
  whole_taken h u (Ok (at, p), c) q =
      by_lt at (length s)
      (λ l. no_file (sym (whole_more s h u lent at p c refl l) ∙ q))
      (λ l.
      let f = sym (whole_read s h u lent at p c refl l) ∙ q in
      let g : Ok (h, u) ≡ Ok (head, t) = ap (λ (x : FileRead × List ℕ). x.0) f in
      record {
        end = at;
        last = p;
        read = ap (λ (x : FileRead × List ℕ). (Ok (at, p), x.1)) f;
        ends = l;
        is_head = (ok_parts g).0;
        is_trials = (ok_parts g).1;
      })

  module _ (n m k at p : ℕ) (c : List ℕ) where
    record Rest (kind : Kind) : Type 0 where
      more : ℕ
      taken : RestTaken kind s n m at c b more t
      is_head : headed n m (k + more) ≡ head

    rest_taken : (kind : Kind) → rest_at kind s (headed n m k) lent (Ok (at, p), c) ≡ (Ok (head, t), b) → Rest kind
    rest_taken Map q =
        by_lt at (length s) (λ l. by_number l (number_at s at) refl)
        (λ l.
        let f = sym (second_none s (headed n m k) lent at p c l) ∙ q in
        let g : Ok (headed n m k, 0) ≡ Ok (head, t) = ap (λ (x : FileRead × List ℕ). x.0) f in
        record {
          more = 0;
          taken = (inl (record { ends = l; same = ap (λ (x : FileRead × List ℕ). x.1) f; none = refl }), sym (ok_parts g).1);
          is_head = rw (add-zero k) (ok_parts g).0;
        })
      where
        by_number : at < length s → (r : Number) → number_at s at ≡ r → Rest Map
        by_number l (Err e) u = no_file (sym (second_cut s (headed n m k) lent at p c l e u) ∙ q)
        by_number l (Ok (j, a)) u =
            by_eq j 0
            (λ z. no_file (sym (second_zero s (headed n m k) lent at p c l j a u z) ∙ q))
            (λ z.
            let w = whole_taken (headed n m (k + j)) 0 _ (sym (second_some s (headed n m k) lent at p c l j a u z) ∙ q) in
            record {
              more = j;
              taken = (
                inr
                    (record {
                      start = a;
                      end = w.end;
                      count_read = u;
                      some = z;
                      list_read = record { last = w.last; records_read = w.read };
                      ends = w.ends;
                    }),
                sym w.is_trials,
              );
              is_head = w.is_head;
            })
    rest_taken Plan q = by_number (number_at s at) refl
      where
        by_number : (r : Number) → number_at s at ≡ r → Rest Plan
        by_number (Err e) u = no_file (sym (trials_cut s (headed n m k) lent at p c e u) ∙ q)
        by_number (Ok (j, a)) u =
            let w = whole_taken (headed n m k) j (Ok (a, p), c) (sym (trials_some s (headed n m k) lent at p c j a u) ∙ q) in
            let e : ◌≡◌ {A = Step} (Ok (a, p)) (Ok (w.end, w.last)) = ap (λ (x : Step × List ℕ). x.0) w.read in
            let f : a ≡ w.end = (ok_parts e).0 in
            record {
              more = 0;
              taken =
                  record {
                    end = a;
                    trials_read = u ∙ ap (λ (z : ℕ). Ok (z, a)) w.is_trials;
                    ended = record { ends = omega (arith, w.ends, f); same = ap (λ (x : Step × List ℕ). x.1) w.read; none = refl };
                  };
              is_head = rw (add-zero k) w.is_head;
            }

module _ (kind : Kind) (s lent b : List ℕ) (head : Head) (t : ℕ) (q : read_file kind s lent ≡ (Ok (head, t), b)) where
  abbrev F : Type 0
  F = FileTaken kind s b head t

  refused : {A : Type 0} {e : Refusal} {d : List ℕ} → read_file kind s lent ≡ (Err e, d) → A
  refused r = no_file s lent b head t (sym r ∙ q)

  module _ (w : length lent ≡ 1024) (n a m d k e : ℕ) (u : size_at s 0 ≡ Ok (n, a)) (v : size_at s a ≡ Ok (m, d)) (i : number_at s d ≡ Ok (k, e))
    where
      listed : (r : Step × List ℕ) → records_at (first_list kind) s n m k e 0 (blank kind n m) ≡ r → F
      listed (Err x, c) z = refused (head_read kind s lent w n a u m d v k e i ∙ rest_refused s _ lent kind x c z)
      listed (Ok (at, p), c) z =
          let y = rest_taken s lent b head t n m k at p c kind
          (ap (rest_at kind s (headed n m k) lent) (sym z) ∙ sym (head_read kind s lent w n a u m d v k e i) ∙ q) in
          rw y.is_head at (found y.more y.taken)
        where
          found : (more : ℕ) → RestTaken kind s n m at c b more t → FileTaken kind s b (headed n m (k + more)) t
          found more y =
              record {
                second = a;
                third = d;
                start = e;
                end = at;
                count = k;
                more = more;
                first = c;
                rows_read = u;
                columns_read = v;
                count_read = i;
                first_read = record { last = p; records_read = z };
                rest_read = y;
                both = refl;
              }

  by_count : length lent ≡ 1024 → (n a m d : ℕ) → size_at s 0 ≡ Ok (n, a) → size_at s a ≡ Ok (m, d) → (r : Number) → number_at s d ≡ r → F
  by_count w n a m d u v (Err e) i = refused (no_count kind s lent w n a u m d v e i)
  by_count w n a m d u v (Ok (k, e)) i = listed w n a m d k e u v i (records_at (first_list kind) s n m k e 0 (blank kind n m)) refl

  by_columns : length lent ≡ 1024 → (n a : ℕ) → size_at s 0 ≡ Ok (n, a) → (r : Number) → size_at s a ≡ r → F
  by_columns w n a u (Err e) v = refused (no_columns kind s lent w n a u e v)
  by_columns w n a u (Ok (m, d)) v = by_count w n a m d u v (number_at s d) refl

  by_rows : length lent ≡ 1024 → (r : Number) → size_at s 0 ≡ r → F
  by_rows w (Err e) u = refused (no_rows kind s lent w e u)
  by_rows w (Ok (n, a)) u = by_columns w n a u (size_at s a) refl

  pub file_taken : F
  file_taken = by_eq (length lent) 1024 (λ w. by_rows w (size_at s 0) refl) (λ w. refused (file_short kind s lent w))

-- the other way round: such a file is accepted, over any lent buffer
number_within : (s : List ℕ) (at v next : ℕ) → number_at s at ≡ Ok (v, next) → at < length s
number_within s at v next q =
    by_lt at (length s) (λ l. l) (λ l. absurd (let z : ◌≡◌ {A = ℕ} 0 1 = cc (sym (ended s at 2 at l) ∙ q) in omega arith))

taken_rest :
    (kind : Kind) (s lent b : List ℕ) (n m k at p more t : ℕ) (c : List ℕ) →
    RestTaken kind s n m at c b more t →
    rest_at kind s (headed n m k) lent (Ok (at, p), c) ≡ (Ok (headed n m (k + more), t), b)
taken_rest kind s lent b n m k at p more t c = by_kind kind
  where
    at_end :
        {x : FileRead × List ℕ} {end u : ℕ} →
        Ended s end c b more →
        u ≡ t →
        x ≡ (Ok (headed n m k, u), c) →
        x ≡ (Ok (headed n m (k + more), t), b)
    at_end w z e = e ∙ rw (w.none, w.same, add-zero k, z) refl

    by_kind : (kind : Kind) → RestTaken kind s n m at c b more t
        → rest_at kind s (headed n m k) lent (Ok (at, p), c) ≡ (Ok (headed n m (k + more), t), b)
    by_kind Map (inl w, z) = at_end w (sym z) (second_none s (headed n m k) lent at p c w.ends)
    by_kind Map (inr w, z) =
        second_some s (headed n m k) lent at p c (number_within s at more w.start w.count_read) more w.start w.count_read
        w.some
        ∙ whole_read s (headed n m (k + more)) 0 lent w.end w.list_read.last b w.list_read.records_read w.ends
        ∙ ap (λ (u : ℕ). (Ok (headed n m (k + more), u), b)) (sym z)
    by_kind Plan w =
        at_end w.ended refl
        (trials_some s (headed n m k) lent at p c t w.end w.trials_read
        ∙ whole_read s (headed n m k) t lent w.end p c refl w.ended.ends)

module _ (kind : Kind) (s b : List ℕ) (head : Head) (t : ℕ) (f : FileTaken kind s b head t) where
  pub taken_file : (lent : List ℕ) → length lent ≡ 1024 → read_file kind s lent ≡ (Ok (head, t), b)
  taken_file lent w =
      head_read kind s lent w head.rows _ f.rows_read head.columns _ f.columns_read f.count _ f.count_read
      ∙ ap (rest_at kind s (headed head.rows head.columns f.count) lent) f.first_read.records_read
      ∙ taken_rest kind s lent b head.rows head.columns f.count f.end f.first_read.last f.more t f.first
      f.rest_read
      ∙ rw f.both refl

  -- N and M of such a file
  pub sizes_taken : (size head.rows && size head.columns) ≡ true
  sizes_taken =
      and_both _ _ (size_number s 0 head.rows _ f.rows_read).1 (size_number s _ head.columns _ f.columns_read).1

-- a map that its reader accepts is a file that is accepted with T 0
pub map_read :
    (s lent grid : List ℕ) (head : Head) → read_map s lent ≡ (Ok head, grid) → read_file Map s lent ≡ (Ok (head, 0), grid)
map_read s lent grid head q = by_file (read_file Map s lent) refl
  where
    by_file : (x : FileRead × List ℕ) → read_file Map s lent ≡ x → read_file Map s lent ≡ (Ok (head, 0), grid)
    by_file (Err e, b) u =
        let v : Err e ≡ Ok head = ap (λ (y : FileRead × List ℕ). map_of y.0) (sym u) ∙ ap (λ (y : MapRead × List ℕ). y.0) q in
        absurd (let z : ◌≡◌ {A = ℕ} 0 1 = cc v in omega arith)
    by_file (Ok (h, t), b) u =
        let v : Ok h ≡ Ok head = ap (λ (y : FileRead × List ℕ). map_of y.0) (sym u) ∙ ap (λ (y : MapRead × List ℕ). y.0) q in
        let e : h ≡ head = cc v in
        let f : b ≡ grid = ap (λ (y : FileRead × List ℕ). y.1) (sym u) ∙ ap (λ (y : MapRead × List ℕ). y.1) q in
        let z : t ≡ 0 = (file_taken Map s lent b h t u).rest_read.1 in
        u ∙ rw (e, f, z) refl
