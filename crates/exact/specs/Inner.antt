-- What the inner parts of the exact planner ask and promise.
-- Assumes nothing.
use Rattle.std.specs.Prelude.{ℕ, Option, Some, None, MatchOption, ◌+◌, ◌*◌, ◌-◌, ◌≤◌, ◌<◌, ◌≡◌, Bool, true, false, cond, ◌&&◌, ◌||◌, ◌⊎◌, List, length, get_or, set}
use Rattle.array.specs.Place.{inner}
use Rattle.array.specs.Buffer.{Ascending}
use Rattle.paths.specs.Path.{is_open, clear}
use Rattle.paths.specs.Table.{ClashTable}
use Rattle.exact.specs.Masks.{leaves}
use Rattle.exact.specs.Options.{at, Later, NotLater, Solution, NoSolution, FirstSolution, ClosedAt, Narrowed}
use Rattle.exact.specs.Problem.{Fit, Covered}

-- a yes that promises A, a no that promises B
pub record Judged (r : Bool) (A B : Type 0) : Type 0 where
  pub yes : r ≡ true → A
  pub no : r ≡ false → B

-- The test of two paths, by the numbers of the faults at these starts. How two paths clash does not depend on the size of
-- the array (T-02): it is said of the largest one.
abbrev pub clears_on : List ℕ → ℕ → ℕ → ℕ → ℕ → Bool
clears_on starts i d j e = clear 30 30 (at starts i) d (at starts j) e

-- what two paths are tested by: the clash table, and the starts of at most 128 faults in row order
pub record Sited (clashes starts : List ℕ) : Type 0 where
  pub table : ClashTable clashes
  pub few : length starts ≤ 128
  pub inside : (k : ℕ) → k < length starts → inner 30 30 (at starts k) ≡ true
  pub ascend : Ascending starts

-- two buffers with options for this many faults: directions, the lesser first
pub record Held (count : ℕ) (lo hi : List ℕ) : Type 0 where
  pub room : count ≤ 128
  pub low_long : length lo ≡ 128
  pub high_long : length hi ≡ 128
  pub low : (k : ℕ) → k < count → 1 ≤ at lo k
  pub ordered : (k : ℕ) → k < count → at lo k ≤ at hi k
  pub high : (k : ℕ) → k < count → at hi k ≤ 4

-- the options of fault k
abbrev pub OneOf : (ℕ → ℕ) → (ℕ → ℕ) → ℕ → ℕ → Type 0
OneOf lo hi k x = (x ≡ lo k) ⊎ (x ≡ hi k)

-- every direction that fault f may have passes with every one that fault h may have
abbrev pub Passes : (ℕ → ℕ → ℕ → ℕ → Bool) → (ℕ → ℕ → Type 0) → ℕ → ℕ → Type 0
Passes clears may f h = (x y : ℕ) → may f x → may h y → clears f x h y ≡ true

-- fault h stands in one of these places of the lists
pub record Named (lists : List ℕ) (begin end h : ℕ) : Type 0 where
  pub place : ℕ
  pub from : begin ≤ place
  pub below : place < end
  pub is : at lists place ≡ h

-- in these places stand other faults than f
pub record Others (count : ℕ) (lists : List ℕ) (f begin end : ℕ) : Type 0 where
  pub fits : end ≤ 2048
  pub inside : (i : ℕ) → begin ≤ i → i < end → at lists i < count
  pub other : (i : ℕ) → begin ≤ i → i < end → f ≡ at lists i → ⊥

-- The lists: row f has the places from ends f to ends (f + 1). It names every fault below rest f that may clash
-- with f; those from rest f on are not listed.
module _ (count : ℕ) (clears : ℕ → ℕ → ℕ → ℕ → Bool) (may : ℕ → ℕ → Type 0) where
  pub record Row (lists : List ℕ) (f begin end rest : ℕ) : Type 0 where
    pub ordered : begin ≤ end
    pub within : rest ≤ count
    pub others : Others count lists f begin end
    pub covers : (h : ℕ) → h < rest → (f ≡ h → ⊥) → Passes clears may f h ⊎ Named lists begin end h

  pub record Listed (lists ends rest : List ℕ) : Type 0 where
    pub long : length lists ≡ 2048
    pub ends_long : length ends ≡ 129
    pub rest_long : length rest ≡ 128
    pub rows : (f : ℕ) → f < count → Row lists f (at ends f) (at ends (f + 1)) (at rest f)

  -- row f is right, and the rows before it are as they were
  pub record RowListed (f : ℕ) (lists ends rest lists' ends' rest' : List ℕ) : Type 0 where
    pub long : length lists' ≡ 2048
    pub ends_long : length ends' ≡ 129
    pub rest_long : length rest' ≡ 128
    pub same : (i : ℕ) → i < at ends f → at lists' i ≡ at lists i
    pub same_ends : (j : ℕ) → j ≤ f → at ends' j ≡ at ends j
    pub same_rest : (j : ℕ) → j < f → at rest' j ≡ at rest j
    pub row : Row lists' f (at ends f) (at ends' (f + 1)) (at rest' f)

module _ (count : ℕ) (clears : ℕ → ℕ → ℕ → ℕ → Bool) where
  -- the faults that are marked are closed
  abbrev pub Marked : (ℕ → ℕ) → (ℕ → ℕ) → (ℕ → ℕ) → Type 0
  Marked lo hi done = (f : ℕ) → f < count → (done f ≡ 0 → ⊥) → ClosedAt count clears lo hi f

  -- all that have one option are closed
  abbrev pub Closed : (ℕ → ℕ) → (ℕ → ℕ) → Type 0
  Closed lo hi = (f : ℕ) → f < count → lo f ≡ hi f → ClosedAt count clears lo hi f

  -- no solution is lost
  abbrev pub Keeps : (ℕ → ℕ) → (ℕ → ℕ) → (ℕ → ℕ) → (ℕ → ℕ) → Type 0
  Keeps lo hi lo' hi' = (q : ℕ → ℕ) → Solution count clears lo hi q → Solution count clears lo' hi' q

  -- fault f, which has one option, passes with every option that the faults of P are left
  pub record Striking (lo hi : List ℕ) (f : ℕ) (P : ℕ → Type 0) (lo' hi' : List ℕ) : Type 0 where
    pub low_same : length lo' ≡ length lo
    pub high_same : length hi' ≡ length hi
    pub held : Held count lo' hi'
    pub narrowed : Narrowed count (at lo) (at hi) (at lo') (at hi')
    pub keeps : Keeps (at lo) (at hi) (at lo') (at hi')
    pub passed : (j : ℕ) → j < count → P j → (f ≡ j → ⊥)
        → (clears f (at lo f) j (at lo' j) ≡ true) × (clears f (at lo f) j (at hi' j) ≡ true)

  -- fault f, which has one option, is closed
  pub record Struck (lo hi lo' hi' : ℕ → ℕ) (f : ℕ) : Type 0 where
    pub narrowed : Narrowed count lo hi lo' hi'
    pub keeps : Keeps lo hi lo' hi'
    pub closed : ClosedAt count clears lo' hi' f

  -- all faults that have one option are closed
  pub record Spread (lo hi lo' hi' done : ℕ → ℕ) : Type 0 where
    pub narrowed : Narrowed count lo hi lo' hi'
    pub keeps : Keeps lo hi lo' hi'
    pub closed : Closed lo' hi'
    pub marked : Marked lo' hi' done

  -- and fault k has one option, the least that any solution has
  pub record Settled (k : ℕ) (lo hi lo' hi' done : ℕ → ℕ) : Type 0 where
    pub narrowed : Narrowed count lo hi lo' hi'
    pub closed : Closed lo' hi'
    pub marked : Marked lo' hi' done
    pub one : lo' k ≡ hi' k
    pub least : (q : ℕ → ℕ) → Solution count clears lo hi q → Solution count clears lo' hi' q ⊎ (lo' k < q k)

-- what the propagation works over
pub record Spreadable (starts lists ends rest lo hi done : List ℕ) : Type 0 where
  pub held : Held (length starts) lo hi
  pub listed : Listed (length starts) (clears_on starts) (OneOf (at lo) (at hi)) lists ends rest
  pub done_long : length done ≡ 128
  pub marked : Marked (length starts) (clears_on starts) (at lo) (at hi) (at done)

-- What the parts answer (r), by the buffers before and after.
module _ (starts : List ℕ) where
  -- fault g keeps those of its options that pass with direction d of fault f; r says whether there is one
  abbrev pub StrikesOne : List ℕ → List ℕ → ℕ → ℕ → ℕ → Bool → List ℕ → List ℕ → Type 0
  StrikesOne lo hi f d g r lo' hi' =
      let a = clears_on starts f d g (at lo g) in
      let b = clears_on starts f d g (at hi g) in
      (r ≡ (a || b))
      × Judged r ((lo' ≡ set lo g (cond a (at lo g) (at hi g))) × (hi' ≡ set hi g (cond b (at hi g) (at lo g))))
      ((lo' ≡ lo) × (hi' ≡ hi))

  -- the faults of P keep what passes with the one option of fault f
  abbrev pub StrikesThose : (ℕ → Type 0) → List ℕ → List ℕ → ℕ → Bool → List ℕ → List ℕ → Type 0
  StrikesThose P lo hi f r lo' hi' =
      Held (length starts) lo' hi'
      × Judged r (Striking (length starts) (clears_on starts) lo hi f P lo' hi')
      (NoSolution (length starts) (clears_on starts) (at lo) (at hi))

  abbrev pub Strikes : List ℕ → List ℕ → ℕ → Bool → List ℕ → List ℕ → Type 0
  Strikes lo hi f r lo' hi' =
      Held (length starts) lo' hi'
      × Judged r (Struck (length starts) (clears_on starts) (at lo) (at hi) (at lo') (at hi') f)
      (NoSolution (length starts) (clears_on starts) (at lo) (at hi))

  abbrev pub Spreads : List ℕ → List ℕ → Bool → List ℕ → List ℕ → List ℕ → Type 0
  Spreads lo hi r lo' hi' done' =
      Held (length starts) lo' hi' × (length done' ≡ 128)
      × Judged r (Spread (length starts) (clears_on starts) (at lo) (at hi) (at lo') (at hi') (at done'))
      (NoSolution (length starts) (clears_on starts) (at lo) (at hi))

  abbrev pub Settles : ℕ → List ℕ → List ℕ → Bool → List ℕ → List ℕ → List ℕ → Type 0
  Settles k lo hi r lo' hi' done' =
      Held (length starts) lo' hi' × (length done' ≡ 128)
      × Judged r (Settled (length starts) (clears_on starts) k (at lo) (at hi) (at lo') (at hi') (at done'))
      (NoSolution (length starts) (clears_on starts) (at lo) (at hi))

  abbrev pub Solves : List ℕ → List ℕ → Bool → List ℕ → List ℕ → Type 0
  Solves lo hi r lo' hi' =
      Held (length starts) lo' hi'
      × Judged r (FirstSolution (length starts) (clears_on starts) (at lo) (at hi) (at lo'))
      (NoSolution (length starts) (clears_on starts) (at lo) (at hi))

-- one of these faults that has one option and is not marked, or none of those from a number on
pub record Fresh (count : ℕ) (lo hi done : ℕ → ℕ) (f : ℕ) : Type 0 where
  pub below : f < count
  pub one : lo f ≡ hi f
  pub new : done f ≡ 0

abbrev pub Next : ℕ → ℕ → (ℕ → ℕ) → (ℕ → ℕ) → (ℕ → ℕ) → Option ℕ → Type 0
Next from count lo hi done found =
    MatchOption found ((k : ℕ) → from ≤ k → k < count → lo k ≡ hi k → done k ≡ 0 → ⊥) (Fresh count lo hi done)

-- the directions allowed alone, as a table of four for each fault
abbrev pub alone_in : List Bool → ℕ → ℕ → Bool
alone_in table k d = get_or table (4 * k + d - 1) false

-- the directions that a pair of ends leaves a fault
abbrev pub offered : Bool → ℕ → ℕ → List ℕ → List Bool → ℕ → ℕ → Bool
offered columns a b starts table k d = alone_in table k d && leaves columns a b (at starts k) d

abbrev pub lowest : Bool → Bool → Bool → Bool → ℕ
lowest s n e w = cond s 1 (cond n 2 (cond e 3 (cond w 4 0)))

abbrev pub highest : Bool → Bool → Bool → Bool → ℕ
highest s n e w = cond w 4 (cond e 3 (cond n 2 (cond s 1 0)))

-- lo and hi are the options that the pair leaves
pub record Offers (columns : Bool) (a b : ℕ) (starts : List ℕ) (table : List Bool) (lo hi : List ℕ) : Type 0 where
  pub held : Held (length starts) lo hi
  pub low_offered : (k : ℕ) → k < length starts → offered columns a b starts table k (at lo k) ≡ true
  pub high_offered : (k : ℕ) → k < length starts → offered columns a b starts table k (at hi k) ≡ true
  pub only : (k d : ℕ) → k < length starts → 1 ≤ d → d ≤ 4 → offered columns a b starts table k d ≡ true → (d ≡ at lo k) ⊎ (d ≡ at hi k)

-- some fault is left none
pub record Starved (columns : Bool) (a b : ℕ) (starts : List ℕ) (table : List Bool) : Type 0 where
  pub k : ℕ
  pub below : k < length starts
  pub none : (d : ℕ) → 1 ≤ d → d ≤ 4 → offered columns a b starts table k d ≡ false

-- some fault has no direction that is allowed alone
pub record Stuck (count : ℕ) (table : List Bool) : Type 0 where
  pub k : ℕ
  pub below : k < count
  pub none : (d : ℕ) → 1 ≤ d → d ≤ 4 → alone_in table k d ≡ false

abbrev pub Alone : List Bool → ℕ → ℕ → Type 0
Alone table k d = (1 ≤ d) × (d ≤ 4) × (alone_in table k d ≡ true)

-- A best plan so far, or none: there is one, and it is q or comes before it; and what comes before it.
abbrev pub Ahead : ℕ → Option (List ℕ) → (ℕ → ℕ) → Type 0
Ahead count None q = ⊥
Ahead count (Some best) q = NotLater count (at best) q

abbrev pub Before : ℕ → List ℕ → Option (List ℕ) → Type 0
Before count a None = Unit {0}
Before count a (Some best) = Later count (at a) (at best)

-- The best so far, where there is one, and the solutions of these options: none of either comes before what is kept.
pub record Takes (starts lo hi : List ℕ) (best best' : Option (List ℕ)) : Type 0 where
  pub kept : (q : ℕ → ℕ) → Ahead (length starts) best q → Ahead (length starts) best' q
  pub added : (q : ℕ → ℕ) → Solution (length starts) (clears_on starts) (at lo) (at hi) q → Ahead (length starts) best' q
  pub from : (b : List ℕ) → best' ≡ Some b
      → (best ≡ Some b) ⊎ ((length b ≡ 128) × Solution (length starts) (clears_on starts) (at lo) (at hi) (at b))

-- a plan by the table of the directions allowed alone
abbrev pub FitOn : List ℕ → List Bool → (ℕ → ℕ) → Type 0
FitOn starts table q = Fit (length starts) (alone_in table) (clears_on starts) q

-- such a plan in a buffer
abbrev pub BufferFits : List ℕ → List Bool → List ℕ → Type 0
BufferFits starts table b = (length b ≡ 128) × FitOn starts table (at b)

-- The best plan so far, where there is one: what is added to the plans seen, P, and what is kept of it.
pub record Bettered (starts : List ℕ) (table : List Bool) (P : (ℕ → ℕ) → Type 0) (best best' : Option (List ℕ)) : Type 0 where
  pub kept : (q : ℕ → ℕ) → Ahead (length starts) best q → Ahead (length starts) best' q
  pub added : (q : ℕ → ℕ) → FitOn starts table q → P q → Ahead (length starts) best' q
  pub plans : ((b : List ℕ) → best ≡ Some b → BufferFits starts table b) → (b : List ℕ) → best' ≡ Some b
      → BufferFits starts table b

-- the plans that a pair of ends leaves
abbrev pub LeftBy : Bool → ℕ → ℕ → List ℕ → (ℕ → ℕ) → Type 0
LeftBy columns a b starts q = (k : ℕ) → k < length starts → leaves columns a b (at starts k) (q k) ≡ true

-- for some k below t
pub record SomeBelow (P : ℕ → (ℕ → ℕ) → Type 0) (t : ℕ) (q : ℕ → ℕ) : Type 0 where
  pub k : ℕ
  pub below : k < t
  pub is : P k q

-- some pair with fault a leaves each fault its direction, and some pair does
abbrev pub RowCovered : Bool → List ℕ → ℕ → (ℕ → ℕ) → Type 0
RowCovered by_columns starts a q =
    SomeBelow (λ b r. Covered (length starts) (at starts) r by_columns a b) (length starts + 1) q

abbrev pub SomeCovered : Bool → List ℕ → (ℕ → ℕ) → Type 0
SomeCovered by_columns starts q = SomeBelow (RowCovered by_columns starts) (length starts + 1) q

-- some pair leaves each fault its direction, by rows or by columns
abbrev pub SomeLeft : List ℕ → (ℕ → ℕ) → Type 0
SomeLeft starts q = SomeCovered false starts q ⊎ SomeCovered true starts q

-- the table holds which paths are open
abbrev pub Tabled : ℕ → ℕ → List ℕ → List ℕ → List Bool → Type 0
Tabled n m grid starts table =
    (k d : ℕ) → k < length starts → 1 ≤ d → d ≤ 4 → alone_in table k d ≡ is_open n m grid (at starts k) d

-- the starts of the faults of an array of at most 30 by 30, in row order
pub record Placed (n m : ℕ) (starts : List ℕ) : Type 0 where
  pub rows : n ≤ 30
  pub columns : m ≤ 30
  pub short : length starts ≤ 128
  pub inside : (k : ℕ) → k < length starts → inner n m (at starts k) ≡ true
  pub ascend : Ascending starts
