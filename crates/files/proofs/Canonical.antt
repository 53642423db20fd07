-- A file that a reader accepts is, byte for byte, what its writer writes.
-- Assumes nothing.
use Prim.Native.Nat.{ℕ}
use mathlib.Core.Path.{◌≡◌, sym, ap, ◌∙◌}
use mathlib.Core.List.{List, ◌++◌, append_assoc}
use Rattle.formats.specs.Number.{Bytes, bytes_of}
use Rattle.formats.specs.Records.{first_list, rest_bytes, file_bytes}
use Rattle.formats.specs.declared.Kind.{Kind}
use Rattle.formats.specs.declared.Kind.TheVariants.{Map}
use Rattle.formats.proofs.Stands.{number_stands, number_below}
use Rattle.readers.specs.Reading.{read_file}
use Rattle.readers.specs.declared.Head.{Head}
use Rattle.readers.proofs.Cases.{size_number}
use Rattle.readers.proofs.Taken.{file_taken, taken_file, map_read}
use Rattle.writers.specs.Parts.{records_of}
use Rattle.writers.proofs.Accepted.{file_recorded, put_whole}
use Rattle.files.specs.Canonical.{Canonical}
use Rattle.files.proofs.Sound.{lists_read, sound_reading}
use Rattle.std.specs.Prelude.{Ok}

own_bytes :
    (kind : Kind) (s lent b : List ℕ) (head : Head) (t : ℕ) →
    Bytes s →
    read_file kind s lent ≡ (Ok (head, t), b) →
    file_bytes kind head.rows head.columns b t ≡ s
unfolding file_bytes
own_bytes kind s lent b head t bytes q =
    let f = file_taken kind s lent b head t q in
    let h = lists_read kind s b head t f in
    let first : List ℕ = records_of (first_list kind) b in
    sym
    (number_stands s bytes 0 head.rows _ (size_number s 0 head.rows _ f.rows_read).0
    ∙ ap (λ (l : List ℕ). bytes_of head.rows ++ l)
    (number_stands s bytes _ head.columns _ (size_number s _ head.columns _ f.columns_read).0
    ∙ ap (λ (l : List ℕ). bytes_of head.columns ++ l)
    (number_stands s bytes _ f.count _ f.count_read
    ∙ ap (λ (l : List ℕ). bytes_of f.count ++ l)
    (sym (h.first_stands bytes) ∙ ap (λ (l : List ℕ). first ++ l) (sym (h.rest_stands bytes)))
    ∙ sym (append_assoc (bytes_of f.count) first (rest_bytes kind b t))
    ∙ ap (λ (k : ℕ). (bytes_of k ++ first) ++ rest_bytes kind b t) (sym h.first_counted))))

pub canonical : Canonical
canonical =
    record {
      own_bytes = own_bytes;
      written_again = λ kind s lent b out head t bytes q l.
          let e = own_bytes kind s lent b head t bytes q in
          let r = sound_reading kind s lent b head t q in
          file_recorded kind head.rows head.columns b t out r.fit (r.trials_fit bytes)
          ∙ rw e (put_whole s out l);
      no_other = λ kind s r lent loan b head other t bytes bytes' q i en em.
          sym (own_bytes kind s lent b head t bytes q)
          ∙ rw (en, em) (own_bytes kind r loan b other t bytes' i);
      no_other_map = λ s r lent loan grid head other bytes bytes' q i en em.
          sym (own_bytes Map s lent grid head 0 bytes (map_read s lent grid head q))
          ∙ rw (en, em) (own_bytes Map r loan grid other 0 bytes' (map_read r loan grid other i));
      number_bytes = λ s at v next bytes q. (number_stands s bytes at v next q, number_below s bytes at v next q);
      any_loan = λ kind s lent loan b head t w q. taken_file kind s b head t (file_taken kind s lent b head t q) loan w;
    }
