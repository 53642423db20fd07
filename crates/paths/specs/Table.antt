-- Document 02, T-02: the clash table. It has one entry for each pair of directions and each pair of classes, of the difference in row and of
-- that in column, and says how two paths from distinct starts clash. Assumes nothing.
use Rattle.std.specs.Prelude.{ℕ, zero, suc, ◌+◌, ◌-◌, ◌*◌, ◌/◌, ◌%◌, ◌≤◌, ◌≡◌, false, cond, ◌&&◌, List, ltb, eqb, length, get_or}
use Rattle.array.specs.Place.{position, row, column}
use Rattle.paths.specs.Path.{Clash, Clear, Meet, NearMiss, clash, Start}

-- the class of a difference, second less first: below −1, −1, 0, 1, above 1
abbrev pub class : ℕ → ℕ → ℕ
class first second =
    cond (ltb (second + 1) first) 0
    (cond (eqb (second + 1) first) 1 (cond (eqb second first) 2 (cond (eqb second (first + 1)) 3 4)))

-- The rule: what the two paths do on an array of 5 x 5, the first from its middle and the second from a start whose differences, −2 to 2, have
-- these classes. Where both classes are that of 0 the starts are not distinct: clear, and unused.
unfoldable pub entry : ℕ → ℕ → ℕ → ℕ → Clash
entry d e rows columns =
    cond (eqb rows 2 && eqb columns 2) Clear (clash 5 5 (position 3 3) d (position (1 + rows) (1 + columns)) e)

-- an entry as the byte that stands in the table, and its place there
abbrev pub byte_of : Clash → ℕ
byte_of Clear = 0
byte_of Meet = 1
byte_of NearMiss = 2

abbrev pub index : ℕ → ℕ → ℕ → ℕ → ℕ
index d e rows columns = ((d - 1) * 4 + (e - 1)) * 25 + 5 * rows + columns

-- A table that follows the rule at each of its entries.
pub record ClashTable (table : List ℕ) : Type 0 where
  pub long : length table ≡ 400
  pub right : (d e rows columns : ℕ) → 1 ≤ d → d ≤ 4 → 1 ≤ e → e ≤ 4 → rows ≤ 4 → columns ≤ 4
      → get_or table (index d e rows columns) 0 ≡ byte_of (entry d e rows columns)

-- What is proved of such a table, for every N and M.
pub record TableAgrees (table : List ℕ) : Type 0 where
  -- between distinct starts its entry is the clash of the two paths, meeting before near-miss
  pub as_defined : (n m p d q e : ℕ) → Start n m p d → Start n m q e → (p ≡ q → ⊥)
      → get_or table (index d e (class (row p) (row q)) (class (column p) (column q))) 0 ≡ byte_of (clash n m p d q e)
  -- and no such starts have the class of 0 twice
  pub unused : (n m p d q e : ℕ) → Start n m p d → Start n m q e → (p ≡ q → ⊥)
      → (eqb (class (row p) (row q)) 2 && eqb (class (column p) (column q)) 2) ≡ false

-- the entry at a place, and how many of the first k are this one
abbrev pub entry_at : ℕ → Clash
entry_at k = entry (k / 100 + 1) (k / 25 % 4 + 1) (k / 5 % 5) (k % 5)

unfoldable pub how_many : Clash → ℕ → ℕ
how_many c zero = 0
how_many c (suc k) = cond (eqb (byte_of (entry_at k)) (byte_of c)) 1 0 + how_many c k

-- computed: of the 400 entries 88 say that the paths meet and 16 that they are a near-miss
pub record Counted : Type 0 where
  pub meetings : how_many Meet 400 ≡ 88
  pub near_misses : how_many NearMiss 400 ≡ 16
