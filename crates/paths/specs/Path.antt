-- Document 01, "Paths and plans", and document 02, T-04: a path is given by the position p of its fault and its direction d.
-- It is the compensation path of Kung, Jean and Chang, "Fault-Tolerant Array Processors Using Single-Track Switches", whose
-- reconfigurability theorem asks for open paths that neither meet nor nearly miss. Assumes nothing.
use Rattle.std.specs.Prelude.{ℕ, ◌+◌, ◌-◌, ◌*◌, ◌≤◌, ◌≡◌, Bool, true, false, cond, not, ◌&&◌, ◌||◌, List, [], ◌∷◌, ltb, eqb, drop, Ok}
use Rattle.array.specs.Place.{row, column, inner}
use Rattle.array.specs.Buffer.{tabulate}
use Rattle.array.specs.Map.{faulty, dead}
use Rattle.array.specs.Tests.{refuse}
use Rattle.array.specs.Tests.{Verdict}

-- a choice by a direction byte, 1 to 4 in this order, and what stands for any other number
abbrev pub by_direction : {A : Type 0} → ℕ → A → A → A → A → A → A
by_direction d south north east west other =
    cond (eqb d 1) south (cond (eqb d 2) north (cond (eqb d 3) east (cond (eqb d 4) west other)))

-- the position k steps ahead of p
abbrev pub ahead : ℕ → ℕ → ℕ → ℕ
ahead p d k = by_direction d (p + 32 * k) (p - 32 * k) (p + k) (p - k) p

-- how many processors a path has, from its fault to the spare on its side; none where d is no direction
abbrev pub path_length : ℕ → ℕ → ℕ → ℕ → ℕ
path_length n m p d = by_direction d (n + 2 - row p) (row p + 1) (m + 2 - column p) (column p + 1) 0

-- a path: the positions from its fault straight on to a spare, the fault first and the spare last
unfoldable pub path : ℕ → ℕ → ℕ → ℕ → List ℕ
path n m p d = tabulate (ahead p d) (path_length n m p d)

unfoldable pub none_faulty : List ℕ → List ℕ → Bool
none_faulty grid [] = true
none_faulty grid (q ∷ qs) = not (faulty grid q) && none_faulty grid qs

-- open as document 01 has it: no processor after the start is faulty, the spare included
unfoldable pub is_free : ℕ → ℕ → List ℕ → ℕ → ℕ → Bool
is_free n m grid p d = none_faulty grid (drop 1 (path n m p d))

-- T-04: south from row 1, north from row N, east from column 1, west from column M. Such a path runs across the whole array,
-- and no link to a neighbour runs through its start.
abbrev pub from_rim : ℕ → ℕ → ℕ → ℕ → Bool
from_rim n m p d = by_direction d (eqb (row p) 1) (eqb (row p) n) (eqb (column p) 1) (eqb (column p) m) false

-- where a path may start: at a dead processor only from the rim, at another fault in every direction
abbrev pub may_start : ℕ → ℕ → List ℕ → ℕ → ℕ → Bool
may_start n m grid p d = not (dead grid p) || from_rim n m p d

-- open: this is what plan check, trials, beyond repair and demand 3 take
unfoldable pub is_open : ℕ → ℕ → List ℕ → ℕ → ℕ → Bool
is_open n m grid p d = may_start n m grid p d && is_free n m grid p d

unfoldable pub member : ℕ → List ℕ → Bool
member q [] = false
member q (x ∷ xs) = eqb q x || member q xs

-- two lists have an element in common
unfoldable pub share : List ℕ → List ℕ → Bool
share [] ys = false
share (x ∷ xs) ys = member x ys || share xs ys

-- two paths meet: they share a processor
unfoldable pub meet : ℕ → ℕ → ℕ → ℕ → ℕ → ℕ → Bool
meet n m p d q e = share (path n m p d) (path n m q e)

-- |a − b|
abbrev pub difference : ℕ → ℕ → ℕ
difference a b = (a - b) + (b - a)

-- south from p, north from q: their columns differ by 1, and the row of p is less
abbrev pub south_north : ℕ → ℕ → ℕ → ℕ → Bool
south_north p d q e = (eqb d 1 && eqb e 2) && (eqb (difference (column p) (column q)) 1 && ltb (row p) (row q))

-- east from p, west from q: their rows differ by 1, and the column of p is less
abbrev pub east_west : ℕ → ℕ → ℕ → ℕ → Bool
east_west p d q e = (eqb d 3 && eqb e 4) && (eqb (difference (row p) (row q)) 1 && ltb (column p) (column q))

-- document 01's "near-miss"; either of the two paths may be named first
unfoldable pub near_miss : ℕ → ℕ → ℕ → ℕ → Bool
near_miss p d q e = (south_north p d q e || east_west p d q e) || (south_north q e p d || east_west q e p d)

pub data Clash : Type 0 where
  Clear : Clash
  Meet : Clash
  NearMiss : Clash

-- how two paths clash: they meet, or else they are a near-miss, or else they are clear of each other
unfoldable pub clash : ℕ → ℕ → ℕ → ℕ → ℕ → ℕ → Clash
clash n m p d q e = cond (meet n m p d q e) Meet (cond (near_miss p d q e) NearMiss Clear)

abbrev pub is_clear : Clash → Bool
is_clear Clear = true
is_clear Meet = false
is_clear NearMiss = false

-- two paths neither meet nor nearly miss
unfoldable pub clear : ℕ → ℕ → ℕ → ℕ → ℕ → ℕ → Bool
clear n m p d q e = is_clear (clash n m p d q e)

-- 6 of two that meet, 7 of a near-miss, with both starts
abbrev pub refuse_clash : ℕ → ℕ → Clash → Verdict
refuse_clash p q Clear = (Ok tt)
refuse_clash p q Meet = refuse 6 p q
refuse_clash p q NearMiss = refuse 7 p q

-- what the plan check says of two paths
unfoldable pub pair_test : ℕ → ℕ → ℕ → ℕ → ℕ → ℕ → Verdict
pair_test n m p d q e = refuse_clash p q (clash n m p d q e)

-- a start and a direction that a path may have
pub record Start (n m p d : ℕ) : Type 0 where
  pub rows : n ≤ 30
  pub columns : m ≤ 30
  pub at : inner n m p ≡ true
  pub low : 1 ≤ d
  pub high : d ≤ 4
