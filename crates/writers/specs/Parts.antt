-- What the parts of a writer write, for all kinds of record. Assumes nothing.
use Rattle.std.specs.Prelude.{ℕ, ◌+◌, ◌*◌, ◌≤◌, ◌≡◌, cond, List, [], ◌++◌, ltb, eqb, length, Ok}
use Rattle.array.specs.Tests.{refuse_if}
use Rattle.array.specs.Tests.{Verdict}
use Rattle.formats.specs.Number.{bytes_of}
use Rattle.formats.specs.Records.{recorded, record_bytes, records_along, record_count, list_bytes, first_list, file_bytes}
use Rattle.formats.specs.declared.Kind.{Kind}
use Rattle.formats.specs.declared.Kind.TheVariants.{Map, Plan}
use Rattle.formats.specs.declared.Record.{Record}
use Rattle.formats.specs.declared.Record.TheVariants.{Fault, Dead, Path}
use Rattle.writers.specs.Writing.{trials_test}

-- the bytes of two numbers
abbrev pub pair_bytes : ℕ → ℕ → List ℕ
pair_bytes x y = bytes_of x ++ bytes_of y

-- the bytes of a record after its row and column
abbrev pub value_bytes : Record → ℕ → List ℕ
value_bytes Fault v = []
value_bytes Dead v = []
value_bytes Path v = bytes_of v

-- the bytes of an element of a buffer: those of its record where it has one
abbrev pub element_bytes : Record → ℕ → ℕ → List ℕ
element_bytes kind p v = cond (recorded kind p v) (record_bytes kind p v) []

-- the records of a buffer
abbrev pub records_of : Record → List ℕ → List ℕ
records_of kind b = records_along (recorded kind) (record_bytes kind) 0 b

-- the length of k records, whose numbers take one byte each, and of their list
abbrev pub records_length : Record → ℕ → ℕ
records_length Fault k = 2 * k
records_length Dead k = 2 * k
records_length Path k = 3 * k

abbrev pub list_length : Record → ℕ → ℕ
list_length kind k = length (bytes_of k) + records_length kind k

-- T-04: how many dead processors a file has records of, and the list of k of them with its length, where there is one
abbrev pub dead_count : Kind → List ℕ → ℕ
dead_count Map grid = record_count Dead grid
dead_count Plan directions = 0

abbrev pub dead_list : ℕ → List ℕ → List ℕ
dead_list k grid = cond (eqb k 0) [] (list_bytes Dead grid)

abbrev pub dead_length : ℕ → ℕ
dead_length k = cond (eqb k 0) 0 (list_length Dead k)

-- T-06: the length of what follows the first list
abbrev pub rest_length : Kind → ℕ → ℕ → ℕ
rest_length Map dead t = dead_length dead
rest_length Plan dead t = length (bytes_of t)

-- room for so many bytes
abbrev pub room_for : ℕ → ℕ → Verdict
room_for needed room = refuse_if (ltb room needed) 14 needed 0

-- what the whole file is written under
pub record Fitting (kind : Kind) (n m count dead t : ℕ) (b out : List ℕ) : Type 0 where
  pub rows : n ≤ 30
  pub columns : m ≤ 30
  pub long : length b ≡ 1024
  pub counted : count ≡ record_count (first_list kind) b
  pub few : count ≤ 1024
  pub dead_counted : dead ≡ dead_count kind b
  pub few_dead : dead ≤ 1024
  pub low_trials : trials_test kind t ≡ Ok tt
  pub room : length (file_bytes kind n m b t) ≤ length out
