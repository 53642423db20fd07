-- What is written and read again is unchanged: a number, and a file of either kind.
-- Assumes nothing.
use Prim.Native.Nat.{ℕ, suc, ◌+◌, ◌<◌, ◌≤◌}
use mathlib.Core.Path.{◌≡◌, refl, sym, ap, ◌∙◌}
use mathlib.Core.Bool.{true, false}
use mathlib.Core.Logic.{inl, inr, ⊎_elim}
use mathlib.Core.List.{List, [], ◌∷◌, ◌++◌, append_assoc, append-nil}
use native.Mathlib.Nat.{add-zero}
use native.Mathlib.Omega.{arith}
use lib.ListN.{length, get_or, set, take, drop, length-append, length-set}
use borrow.Author.Tests.{le-leb, eqb-true}
use lib.Seq.{set_at, get_or_at, append_snoc, take-append_seam}
use Rattle.array.specs.Place.{row, column, position, size}
use Rattle.array.specs.Buffer.{buffer, positions_along}
use Rattle.array.specs.Map.{dead_mark, allowed}
use Rattle.array.specs.Tests.{refusal}
use Rattle.array.specs.declared.Refusal.{Refusal}
use Rattle.array.specs.Tests.{Verdict}
use Rattle.array.proofs.Bools.{by_bool, by_eq, by_lt, and_both}
use Rattle.array.proofs.Verdicts.{accepted_not}
use Rattle.array.proofs.Scans.{scan_each, buffer_scan}
use Rattle.array.proofs.Fills.{tabulate_length, tabulate_at}
use Rattle.array.proofs.Filters.{positions_short}
use Rattle.formats.specs.Number.{number_at, bytes_of}
use Rattle.formats.specs.Records.{recorded, record_bytes, records_along, record_count, list_bytes, first_list, rest_bytes, file_bytes, file_count, file_trials, blank}
use Rattle.formats.specs.declared.Kind.{Kind}
use Rattle.formats.specs.declared.Kind.TheVariants.{Map, Plan}
use Rattle.formats.specs.declared.Record.{Record}
use Rattle.formats.specs.declared.Record.TheVariants.{Fault, Dead, Path}
use Rattle.formats.proofs.Cases.{ended}
use Rattle.formats.proofs.Trip.{read_written, read_at}
use Rattle.readers.specs.Reading.{record_at, records_at, trials_at, rest_at, read_file, read_plan, map_of, FileRead, Step}
use Rattle.readers.specs.Parts.{repeated}
use Rattle.readers.proofs.Cases.{blank_length, blank_at, record_marked, marked_in_order, in_order, more_suc, none_left, size_good, head_read, trials_cut, trials_some, whole_more}
use Rattle.readers.proofs.Taken.{ListTaken, Ended, SecondTaken, RestTaken, FileTaken, taken_file}
use Rattle.writers.specs.Writing.{buffer_test, trials_test, write_file, FileWritten}
use Rattle.writers.specs.Parts.{value_bytes, records_of}
use Rattle.writers.proofs.Accepted.{element_test, Passed, passed, trials_low, file_refused, file_accepted, file_recorded, put_short, put_whole}
use Rattle.writers.proofs.Records.{dead_some}
use Rattle.files.specs.RoundTrip.{RoundTrip}
use Rattle.files.specs.Endings.{PlanEndings}
use Rattle.files.proofs.Elements.{Read_in, Turned, alive, value_recorded, fault_turned, dead_turned, path_turned, value_read, along_some, along_none, count_some, count_none, same_records}
use Rattle.std.specs.Prelude.{Ok, Err}

number_unchanged : (v : ℕ) (before after : List ℕ) → v < 2097152
    → number_at (before ++ (bytes_of v ++ after)) (length before) ≡ Ok (v, length (before ++ bytes_of v))
number_unchanged v before after h = read_written before v after h ∙ ap (λ (k : ℕ). Ok (v, k)) (sym (length-append before (bytes_of v)))

module _ (kind : Record) (n m : ℕ) where
  abbrev records : ℕ → List ℕ → List ℕ
  records p xs = records_along (recorded kind) (record_bytes kind) p xs

  abbrev count : ℕ → List ℕ → ℕ
  count p xs = length (positions_along (recorded kind) p xs)

  -- The record of an element x at p, which stands behind `front`, is read into a buffer that is `done` before p and has z
  -- there.
  module _
      (small : (n ≤ 30) × (m ≤ 30)) (s front rest done ys : List ℕ) (p x z at before : ℕ) (g : List ℕ)
      (es : s ≡ front ++ (bytes_of (row p) ++ (bytes_of (column p) ++ (value_bytes kind x ++ rest))))
      (ea : at ≡ length front) (eg : g ≡ done ++ z ∷ ys) (ed : length done ≡ p) (lg : length g ≡ 1024) (lp : p < 1024)
      (lb : before ≤ p) (good : Read_in kind n m p z x)
    where
      abbrev row_end : List ℕ
      row_end = front ++ bytes_of (row p)

      abbrev column_end : List ℕ
      column_end = row_end ++ bytes_of (column p)

      abbrev value_end : List ℕ
      value_end = column_end ++ value_bytes kind x

      at_row : length row_end ≡ at + length (bytes_of (row p))
      at_row = omega (arith, length-append front (bytes_of (row p)))

      at_column : length column_end ≡ length row_end + length (bytes_of (column p))
      at_column = length-append row_end (bytes_of (column p))

      after_row : s ≡ row_end ++ (bytes_of (column p) ++ (value_bytes kind x ++ rest))
      after_row = es ∙ sym (append_assoc front (bytes_of (row p)) _)

      after_column : s ≡ column_end ++ (value_bytes kind x ++ rest)
      after_column = after_row ∙ sym (append_assoc row_end (bytes_of (column p)) _)

      after_value : s ≡ value_end ++ rest
      after_value = after_column ∙ sym (append_assoc column_end (value_bytes kind x) rest)

      here : position (row p) (column p) ≡ p
      here = omega arith

      found : get_or g (position (row p) (column p)) 0 ≡ z
      found = rw (eg, here) (get_or_at done z ys 0 p ed)

      stored : set g (position (row p) (column p)) x ≡ (done ++ (x ∷ [])) ++ ys
      stored = rw (eg, here) (set_at done z ys x p ed ∙ sym (append_snoc done x ys))

      free : repeated kind (get_or g (position (row p) (column p)) 0) ≡ false
      free = ap (repeated kind) found ∙ good.free

      record_read : record_at kind s n m at before g ≡ (Ok (length value_end, p), (done ++ (x ∷ [])) ++ ys)
      record_read =
          record_marked s n m at before g (row p) (length row_end) (read_at s front _ (row p) at (length row_end) es ea at_row (omega arith))
          (column p) (length column_end)
          (read_at s row_end _ (column p) (length row_end) (length column_end) after_row refl at_column (omega arith))
          small lg kind x (length value_end)
          (value_read kind s column_end rest x (length column_end) good.value after_column refl
          ∙ ap (λ (k : ℕ). Ok (x, k)) (sym (length-append column_end (value_bytes kind x))))
          ∙ marked_in_order kind n m at before (row p) (column p) x (length value_end) g good.stands free good.value
          ∙ in_order at before (position (row p) (column p)) x (length value_end) g (omega (arith, here))
          ∙ ap (λ (q : ℕ). (Ok (length value_end, q), set g (position (row p) (column p)) x)) here
          ∙ ap (λ (l : List ℕ). (Ok (length value_end, p), l)) stored

  -- The records of the elements xs from p on are read, from where they start to their end, into a buffer that is whole before
  -- p and has zs from there on, after a record that is no higher than p.
  module _ (small : (n ≤ 30) × (m ≤ 30)) (s rest whole : List ℕ) (end : ℕ) (el : end + length rest ≡ length s) where
    record Walked (k at before : ℕ) (g : List ℕ) : Type 0 where
      last : ℕ
      read : records_at kind s n m k at before g ≡ (Ok (end, last), whole)

    walk :
        (zs xs front done : List ℕ) (p at before : ℕ) (g : List ℕ) →
        s ≡ front ++ (records p xs ++ rest) →
        at ≡ length front →
        g ≡ done ++ zs →
        whole ≡ done ++ xs →
        length done ≡ p →
        length g ≡ 1024 →
        length zs ≡ length xs →
        before ≤ p →
        ((j q : ℕ) → q ≡ p + j → j < length xs → Turned kind n m q (get_or zs j 0) (get_or xs j 0)) →
        Walked (count p xs) at before g
    unfolding records_along positions_along
    walk [] (x ∷ xs) front done p at before g es ea eg er ed lg lz lb f = absurd (omega arith)
    walk (z ∷ zs) [] front done p at before g es ea eg er ed lg lz lb f = absurd (omega arith)
    walk [] [] front done p at before g es ea eg er ed lg lz lb f =
        let e : at ≡ end = omega (arith, el, ap length es, length-append front rest) in
        record { last = before; read = none_left kind s n m at before g ∙ rw e (ap (λ (b : List ℕ). (Ok (end, before), b)) (eg ∙ sym er)) }
    walk (z ∷ zs) (x ∷ xs) front done p at before g es ea eg er ed lg lz lb f =
        let er' : whole ≡ (done ++ (x ∷ [])) ++ xs = er ∙ sym (append_snoc done x xs) in
        let ed' : length (done ++ (x ∷ [])) ≡ suc p = omega (arith, length-append done (x ∷ [])) in
        let lp : p < 1024 = omega (arith, lg, ap length eg, length-append done (z ∷ zs)) in
        let on : (j q : ℕ) → q ≡ suc p + j → j < length xs → Turned kind n m q (get_or zs j 0) (get_or xs j 0) =
        λ j q e l. f (suc j) q (omega arith) (omega arith) in
        ⊎_elim
        (λ (k : Read_in kind n m p z x).
        let e = value_recorded kind p x k.value in
        let next : List ℕ = ((front ++ bytes_of (row p)) ++ bytes_of (column p)) ++ value_bytes kind x in
        let es' = es ∙ ap (λ (l : List ℕ). front ++ l) (along_some kind p x xs rest e) in
        let lg' : length ((done ++ (x ∷ [])) ++ zs) ≡ 1024 =
        ap length (sym (stored small s front _ done zs p x z at before g es' ea eg ed lg lp lb k)) ∙ length-set g _ x ∙ lg in
        let w =
        walk zs xs next (done ++ (x ∷ [])) (suc p) (length next) p ((done ++ (x ∷ [])) ++ zs)
        (after_value small s front _ done zs p x z at before g es' ea eg ed lg lp lb k) refl refl er' ed' lg' (omega arith) (omega arith) on in
        record {
          last = w.last;
          read =
              ap (λ (j : ℕ). records_at kind s n m j at before g) (count_some kind p x xs e)
              ∙ more_suc kind s n m _ at before g _ _ _ (record_read small s front _ done zs p x z at before g es' ea eg ed lg lp lb k)
              ∙ w.read;
        })
        (λ (k : (recorded kind p x ≡ false) × (z ≡ x)).
        let es' = es ∙ ap (λ (l : List ℕ). front ++ l) (along_none kind p x xs rest k.0) in
        let eg' : g ≡ (done ++ (x ∷ [])) ++ zs = eg ∙ ap (λ (y : ℕ). done ++ (y ∷ zs)) k.1 ∙ sym (append_snoc done x zs) in
        let w = walk zs xs front (done ++ (x ∷ [])) (suc p) at before g es' ea eg' er' ed' lg (omega arith) (omega arith) on in
        record {
          last = w.last;
          read = ap (λ (j : ℕ). records_at kind s n m j at before g) (count_none kind p x xs k.0) ∙ w.read;
        })
        (f 0 p (omega arith) (omega arith))

  -- A list of records that stands behind `front` is read: the buffer a becomes b.
  list_read :
      (n ≤ 30) × (m ≤ 30) →
      (s front rest a b : List ℕ) →
      s ≡ front ++ (records_of kind b ++ rest) →
      length a ≡ 1024 →
      length b ≡ 1024 →
      ((q : ℕ) → q < 1024 → Turned kind n m q (get_or a q 0) (get_or b q 0)) →
      ListTaken kind s n m (record_count kind b) (length front) (length (front ++ records_of kind b)) a b
  unfolding record_count
  list_read small s front rest a b es la lb f =
      let e = ap length (es ∙ sym (append_assoc front (records_of kind b) rest)) ∙ length-append (front ++ records_of kind b) rest in
      let w =
      walk small s rest b (length (front ++ records_of kind b)) (sym e) a b front [] 0 (length front) 0 a es refl refl refl refl la (la ∙ sym lb)
      (omega arith) (λ j q i l. let o : q ≡ j = omega arith in rw o (f j (omega arith))) in
      record { last = w.last; records_read = w.read }

-- A file of an accepted buffer, with whatever bytes after its first list.
module _ (kind : Kind) (n m : ℕ) (b rest : List ℕ) where
  abbrev first : Record
  first = first_list kind

  abbrev file : List ℕ
  file = bytes_of n ++ (bytes_of m ++ (list_bytes first b ++ rest))

  abbrev tally : List ℕ
  tally = bytes_of (record_count first b)

  -- what stands before the records of the first list, and before what follows them
  abbrev front : List ℕ
  front = (bytes_of n ++ bytes_of m) ++ tally

  abbrev listed : List ℕ
  listed = front ++ records_of first b

  after_columns : file ≡ (bytes_of n ++ bytes_of m) ++ (tally ++ (records_of first b ++ rest))
  after_columns =
      sym (append_assoc (bytes_of n) (bytes_of m) (list_bytes first b ++ rest))
      ∙ ap (λ (l : List ℕ). (bytes_of n ++ bytes_of m) ++ l) (append_assoc tally (records_of first b) (rest))

  after_tally : file ≡ front ++ (records_of first b ++ rest)
  after_tally = after_columns ∙ sym (append_assoc (bytes_of n ++ bytes_of m) tally _)

  after_list : file ≡ listed ++ rest
  after_list = after_tally ∙ sym (append_assoc front (records_of first b) (rest))

  ends_listed : rest ≡ [] → length file ≤ length listed
  ends_listed e = omega (arith, ap length after_list, length-append listed (rest), ap length e)

  module _ (p : Passed kind n m b) where
    few : (r : Record) → record_count r b < 2097152
    unfolding record_count
    few r = let l : length b ≡ 1024 = p.is_long in omega (arith, positions_short (recorded r) b)

    rows_read : number_at file 0 ≡ Ok (n, length (bytes_of n))
    rows_read =
        read_at file [] _ n 0 (length (bytes_of n)) refl refl (omega arith) (omega (arith, p.sizes.rows_high))

    columns_read : number_at file (length (bytes_of n)) ≡ Ok (m, length (bytes_of n ++ bytes_of m))
    columns_read =
        read_at file (bytes_of n) _ m _ _ refl refl (length-append (bytes_of n) (bytes_of m))
        (omega (arith, p.sizes.columns_high))

    tally_read : number_at file (length (bytes_of n ++ bytes_of m)) ≡ Ok (record_count first b, length front)
    tally_read =
        read_at file (bytes_of n ++ bytes_of m) _ (record_count first b) _ _ after_columns refl
        (length-append (bytes_of n ++ bytes_of m) tally) (few first)

    sizes : (size n ≡ true) × (size m ≡ true)
    sizes = let s = p.sizes in (
      and_both _ _ (le-leb 1 n s.rows_low) (le-leb n 30 s.rows_high),
      and_both _ _ (le-leb 1 m s.columns_low) (le-leb m 30 s.columns_high),
    )

    small : (n ≤ 30) × (m ≤ 30)
    small = (p.sizes.rows_high, p.sizes.columns_high)

    passes : (q : ℕ) → q < 1024 → element_test kind n m q (get_or b q 0) ≡ Ok tt
    passes q l = scan_each (buffer_scan (element_test kind n m) b) p.scanned q (omega (arith, p.is_long))

    -- the file, from its lists: after the first the buffer is c
    lists_taken :
        (c : List ℕ) (more u : ℕ) →
        ListTaken first file n m (record_count first b) (length front) (length listed) (blank kind n m) c →
        RestTaken kind file n m (length listed) c b more u →
        FileTaken kind file b (record { rows = n; columns = m; count = record_count first b + more }) u
    lists_taken c more u f w =
        record {
          second = length (bytes_of n);
          third = length (bytes_of n ++ bytes_of m);
          start = length front;
          end = length listed;
          count = record_count first b;
          more = more;
          first = c;
          rows_read = size_good file 0 n _ rows_read sizes.0;
          columns_read = size_good file _ m _ columns_read sizes.1;
          count_read = tally_read;
          first_read = f;
          rest_read = w;
          both = refl;
        }

-- The first list of a map leaves its dead processors healthy, and the second marks them.
module _ (n m : ℕ) (b : List ℕ) (p : Passed Map n m b) where
  abbrev second : List ℕ
  second = rest_bytes Map b 0

  abbrev faults : List ℕ
  faults = buffer (λ q. alive (get_or b q 0))

  faults_at : (q : ℕ) → q < 1024 → get_or faults q 0 ≡ alive (get_or b q 0)
  faults_at q l = tabulate_at (λ q. alive (get_or b q 0)) 1024 q 0 l

  faults_long : length faults ≡ 1024
  faults_long = tabulate_length (λ q. alive (get_or b q 0)) 1024

  marks : (q : ℕ) → q < 1024 → allowed n m q (get_or b q 0) ≡ true
  marks q l = accepted_not _ 3 q 0 (passes Map n m b second p q l)

  same_faults : (record_count Fault faults ≡ record_count Fault b) × (records_of Fault faults ≡ records_of Fault b)
  same_faults =
      same_records Fault faults b faults_long p.is_long
      (λ q l. rw (faults_at q l)
      (by_bool (dead_mark (get_or b q 0))
      (λ d. inr (rw d refl, rw (eqb-true (get_or b q 0) 3 d) refl))
      (λ d. inl (rw d refl))))

  abbrev ahead : List ℕ
  ahead = listed Map n m b second

  abbrev whole : List ℕ
  whole = file Map n m b second

  faults_read : ListTaken Fault whole n m (record_count Fault b) (length (front Map n m b second)) (length ahead) (blank Map n m) faults
  faults_read =
      rw (same_faults.0, same_faults.1) at
      (list_read Fault n m (small Map n m b second p) whole (front Map n m b second) (second) (blank Map n m) faults
      (rw same_faults.1 (after_tally Map n m b second)) (blank_length Map n m) faults_long
      (λ q l. rw (blank_at Map n m q l, faults_at q l) (fault_turned n m q (get_or b q 0) (marks q l))))

  -- the second list, in any file where it stands last
  dead_read :
      (s before : List ℕ) →
      s ≡ before ++ (records_of Dead b ++ []) →
      ListTaken Dead s n m (record_count Dead b) (length before) (length (before ++ records_of Dead b)) faults b
  dead_read s before e =
      list_read Dead n m (small Map n m b second p) s before [] faults b e faults_long p.is_long
      (λ q l. rw (faults_at q l) (dead_turned n m q (get_or b q 0) (marks q l)))

  no_dead : record_count Dead b ≡ 0 → Ended whole (length ahead) faults b (record_count Dead b)
  no_dead z =
      let d = dead_read (records_of Dead b ++ []) [] refl in
      let e = sym (none_left Dead _ n m 0 0 faults) ∙ (rw z at d.records_read) in
      record { ends = ends_listed Map n m b second (rw z refl); same = ap (λ (x : Step × List ℕ). x.1) e; none = z }

  some_dead : (record_count Dead b ≡ 0 → ⊥) → SecondTaken whole n m (length ahead) faults b (record_count Dead b)
  some_dead z =
      let tally : List ℕ = bytes_of (record_count Dead b) in
      let e : whole ≡ ahead ++ (tally ++ records_of Dead b) =
      after_list Map n m b second ∙ ap (λ (l : List ℕ). ahead ++ l) (dead_some (record_count Dead b) b z) in
      let f = e ∙ sym (append_assoc ahead tally (records_of Dead b)) in
      record {
        start = length (ahead ++ tally);
        end = length ((ahead ++ tally) ++ records_of Dead b);
        count_read =
            read_at whole ahead (records_of Dead b) (record_count Dead b) _ _ e refl (length-append ahead tally) (few Map n m b second p Dead);
        some = z;
        list_read = dead_read whole (ahead ++ tally) (f ∙ ap (λ (l : List ℕ). (ahead ++ tally) ++ l) (sym (append-nil (records_of Dead b))));
        ends = omega (arith, ap length f);
      }

-- the paths of a plan are read, whatever follows them
paths_read :
    (n m : ℕ) (b rest : List ℕ) (p : Passed Plan n m b) →
    ListTaken Path (file Plan n m b rest) n m (record_count Path b) (length (front Plan n m b rest)) (length (listed Plan n m b rest))
    (blank Plan n m) b
paths_read n m b rest p =
    list_read Path n m (small Plan n m b rest p) (file Plan n m b rest) (front Plan n m b rest) rest (blank Plan n m) b
    (after_tally Plan n m b rest) (blank_length Plan n m) p.is_long
    (λ q l. rw (blank_at Plan n m q l) (path_turned n m q (get_or b q 0) (passes Plan n m b rest p q l)))

-- T that stands after them is read
trials_read :
    (n m t : ℕ) (b after : List ℕ) →
    trials_test Plan t ≡ Ok tt →
    number_at (file Plan n m b (bytes_of t ++ after)) (length (listed Plan n m b (bytes_of t ++ after)))
    ≡ Ok (t, length (listed Plan n m b (bytes_of t ++ after)) + length (bytes_of t))
trials_read n m t b after h =
    read_at _ (listed Plan n m b (bytes_of t ++ after)) after t _ _ (after_list Plan n m b (bytes_of t ++ after)) refl refl (trials_low t h)

-- The file of an accepted buffer is read as that buffer.
file_is_taken :
    (kind : Kind) (n m : ℕ) (b : List ℕ) (t : ℕ) (p : Passed kind n m b) →
    trials_test kind t ≡ Ok tt →
    FileTaken kind (file_bytes kind n m b t) b (record { rows = n; columns = m; count = file_count kind b }) (file_trials kind t)
unfolding file_bytes
file_is_taken Map n m b t p h =
    lists_taken Map n m b (rest_bytes Map b 0) p (faults n m b p) (record_count Dead b) 0 (faults_read n m b p)
    (by_eq (record_count Dead b) 0 (λ z. inl (no_dead n m b p z)) (λ z. inr (some_dead n m b p z)), refl)
file_is_taken Plan n m b t p h =
    let ahead : List ℕ = listed Plan n m b (bytes_of t) in
    rw (add-zero (record_count Path b)) at
    (lists_taken Plan n m b (bytes_of t) p b 0 t (paths_read n m b (bytes_of t) p)
    (record {
      end = length ahead + length (bytes_of t);
      trials_read = rw (append-nil (bytes_of t)) at (trials_read n m t b [] h);
      ended =
          record {
            ends = omega (arith, ap length (after_list Plan n m b (bytes_of t)), length-append ahead (bytes_of t));
            same = refl;
            none = refl;
          };
    }))

-- A plan file that ends before T, or goes on after it.
module _ (n m : ℕ) (b : List ℕ) (p : Passed Plan n m b) (lent : List ℕ) (w : length lent ≡ 1024) where
  up_to_trials :
      (rest : List ℕ) →
      read_plan (file Plan n m b rest) lent
      ≡ trials_at (file Plan n m b rest) (record { rows = n; columns = m; count = record_count Path b }) lent
      (Ok (length (listed Plan n m b rest), (paths_read n m b rest p).last), b)
  up_to_trials rest =
      let s : List ℕ = file Plan n m b rest in
      head_read Plan s lent w n _ (size_good s 0 n _ (rows_read Plan n m b rest p) (sizes Plan n m b rest p).0) m _
      (size_good s _ m _ (columns_read Plan n m b rest p) (sizes Plan n m b rest p).1) (record_count Path b) _
      (tally_read Plan n m b rest p)
      ∙ ap (rest_at Plan s (record { rows = n; columns = m; count = record_count Path b }) lent) (paths_read n m b rest p).records_read

  without_trials : read_plan (file Plan n m b []) lent ≡ (Err (refusal 8 (length (file Plan n m b [])) 0), lent)
  without_trials =
      let s : List ℕ = file Plan n m b [] in
      let end : ℕ = length (listed Plan n m b []) in
      up_to_trials []
      ∙ trials_cut s _ lent end (paths_read n m b [] p).last b _ (ended s end 2 end (ends_listed Plan n m b [] refl))

  after_trials :
      (t x : ℕ) (xs : List ℕ) →
      trials_test Plan t ≡ Ok tt →
      read_plan (file Plan n m b (bytes_of t ++ (x ∷ xs))) lent
      ≡ (Err (refusal 12 (length (listed Plan n m b []) + length (bytes_of t)) 0), lent)
  after_trials t x xs h =
      let rest : List ℕ = bytes_of t ++ (x ∷ xs) in
      let s : List ℕ = file Plan n m b rest in
      let end : ℕ = length (listed Plan n m b rest) + length (bytes_of t) in
      let l : end < length s =
      omega (
        arith,
        ap length (after_list Plan n m b rest),
        length-append (listed Plan n m b rest) rest,
        length-append (bytes_of t) (x ∷ xs),
      ) in
      up_to_trials rest
      ∙ trials_some s _ lent _ (paths_read n m b rest p).last b t end (trials_read n m t b (x ∷ xs) h)
      ∙ whole_more s _ t lent end (paths_read n m b rest p).last b refl l

pub plan_endings : PlanEndings
unfolding file_bytes
plan_endings =
    record {
      without_trials = λ n m b lent a w.
          let l = list_bytes Path b in
          let e : bytes_of n ++ (bytes_of m ++ (l ++ [])) ≡ bytes_of n ++ (bytes_of m ++ l) =
          ap (λ (z : List ℕ). bytes_of n ++ (bytes_of m ++ z)) (append-nil l) in
          rw e at (without_trials n m b (passed Plan n m b a) lent w);
      after_trials = λ n m t x xs b lent a c w.
          let l = list_bytes Path b in
          let e : (bytes_of n ++ (bytes_of m ++ (l ++ bytes_of t))) ++ (x ∷ xs) ≡ file Plan n m b (bytes_of t ++ (x ∷ xs)) =
          append_assoc (bytes_of n) (bytes_of m ++ (l ++ bytes_of t)) (x ∷ xs)
          ∙ ap (λ (z : List ℕ). bytes_of n ++ z)
          (append_assoc (bytes_of m) (l ++ bytes_of t) (x ∷ xs)
          ∙ ap (λ (z : List ℕ). bytes_of m ++ z) (append_assoc l (bytes_of t) (x ∷ xs))) in
          let k : length (listed Plan n m b []) + length (bytes_of t) ≡ length (bytes_of n ++ (bytes_of m ++ (l ++ bytes_of t))) =
          sym (ap length (after_list Plan n m b (bytes_of t)) ∙ length-append (listed Plan n m b []) (bytes_of t)) in
          ap (λ (s : List ℕ). read_plan s lent) e
          ∙ after_trials n m b (passed Plan n m b a) lent w t x xs c
          ∙ ap (λ (z : ℕ). (Err (refusal 12 z 0), lent)) k;
    }

module _ (kind : Kind) (n m t : ℕ) where
  abbrev Unchanged : ℕ → List ℕ → List ℕ → List ℕ → Type 0
  Unchanged k b out lent =
      read_file kind (take k (write_file kind n m b t out).1) lent
      ≡ (Ok (record { rows = n; columns = m; count = file_count kind b }, file_trials kind t), b)

  module _ (k : ℕ) (b out lent : List ℕ) (w : length lent ≡ 1024) (h : (write_file kind n m b t out).0 ≡ Ok k) where
    -- a writer that answers a length refuses nothing
    no : {A : Type 0} {r : Refusal} {d : List ℕ} → write_file kind n m b t out ≡ (Err r, d) → A
    no e = absurd (let z : ◌≡◌ {A = ℕ} 0 1 = cc (sym h ∙ ap (λ (x : FileWritten × List ℕ). x.0) e) in omega arith)

    -- What the writer accepts is the file, and the file buffer begins with it.
    accepted : buffer_test kind n m b ≡ Ok tt → trials_test kind t ≡ Ok tt → Unchanged k b out lent
    accepted a c =
        let f : List ℕ = file_bytes kind n m b t in
        by_lt (length out) (length f)
        (λ l. no (file_recorded kind n m b t out a c ∙ put_short f out l))
        (λ l.
        let e = file_recorded kind n m b t out a c ∙ put_whole f out l in
        let j : k ≡ length f = cc (sym h ∙ ap (λ (x : FileWritten × List ℕ). x.0) e) in
        ap (λ (s : List ℕ). read_file kind s lent) (rw (e, j) (take-append_seam f (drop (length f) out)))
        ∙ taken_file kind f b _ _ (file_is_taken kind n m b t (passed kind n m b a) c) lent w)

    by_trials : buffer_test kind n m b ≡ Ok tt → (v : Verdict) → trials_test kind t ≡ v → Unchanged k b out lent
    by_trials a (Ok tt) c = accepted a c
    by_trials a (Err r) c = no {r = r} {d = out} (file_accepted kind n m b t out a ∙ rw c refl)

    by_buffer : (v : Verdict) → buffer_test kind n m b ≡ v → Unchanged k b out lent
    by_buffer (Ok tt) a = by_trials a (trials_test kind t) refl
    by_buffer (Err r) a = no (file_refused kind n m b t out r a)

    file_unchanged : Unchanged k b out lent
    file_unchanged = by_buffer (buffer_test kind n m b) refl

file_written : (kind : Kind) (n m t : ℕ) (b out : List ℕ) → buffer_test kind n m b ≡ Ok tt → trials_test kind t ≡ Ok tt
    → length (file_bytes kind n m b t) ≤ length out
    → (write_file kind n m b t out).0 ≡ Ok (length (file_bytes kind n m b t))
file_written kind n m t b out a c l =
    ap (λ (x : FileWritten × List ℕ). x.0) (file_recorded kind n m b t out a c ∙ put_whole (file_bytes kind n m b t) out l)

pub round_trip : RoundTrip
round_trip =
    record {
      number_unchanged = number_unchanged;
      file_written = file_written;
      file_unchanged = λ kind n m t k b out lent w h. file_unchanged kind n m t k b out lent w h;
      map_unchanged = λ n m k grid out lent w h.
          ap (λ (x : FileRead × List ℕ). (map_of x.0, x.1)) (file_unchanged Map n m 0 k grid out lent w h);
    }
