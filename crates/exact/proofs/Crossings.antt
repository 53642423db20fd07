-- Which paths of a plan never cross, from the definition of meeting; a start on an array of any size is one on the largest,
-- where paths clash alike.
-- Assumes nothing.
use Prim.Native.Nat.{ℕ, ◌≤◌, ◌<◌}
use mathlib.Core.Path.{◌≡◌, sym, ap, ◌∙◌}
use mathlib.Core.Bool.{true}
use mathlib.Core.List.{List}
use native.Mathlib.Omega.{arith}
use lib.Dec.{eqb}
use lib.ListN.{length}
use Rattle.array.specs.Place.{row, column, inner}
use Rattle.array.proofs.Places.{Inner, inner_holds, inner_between}
use Rattle.paths.specs.Path.{is_clear, clear, Start}
use Rattle.paths.specs.Table.{class, entry, byte_of}
use Rattle.paths.proofs.Entries.{byte_clear}
use Rattle.paths.proofs.Ways.{south, north, east, west}
use Rattle.paths.proofs.Clashes.{clear_comm}
use Rattle.paths.proofs.Agreement.{entry_is_clash}
use Rattle.plans.proofs.Facts.{ascending_distinct}
use Rattle.plans.proofs.Spares.{crossed}
use Rattle.exact.specs.Options.{at, Apart}
use Rattle.exact.specs.Inner.{clears_on, Sited, Placed}
use Rattle.exact.specs.Problem.{Crossing, Facing}

pub clears_comm : (starts : List ℕ) (i d j e : ℕ) → clears_on starts i d j e ≡ clears_on starts j e i d
clears_comm starts i d j e = clear_comm 30 30 (at starts i) d (at starts j) e

-- a place inside an array is inside the largest one
pub inner_largest : (n m p : ℕ) → n ≤ 30 → m ≤ 30 → inner n m p ≡ true → inner 30 30 p ≡ true
inner_largest n m p a b h =
    let i = inner_holds n m p h in
    inner_between 30 30 (row p) (column p) i.row_low (omega (arith, i.row_high)) i.column_low (omega (
      arith,
      i.column_high,
    ))

-- a fault's start, with a direction
pub start_at : {n m : ℕ} {starts : List ℕ} → Placed n m starts → (k p d : ℕ) → k < length starts → p ≡ at starts k →
    1 ≤ d → d ≤ 4
    → Start n m p d
start_at {n} {m} t k p d l e a b =
    record { rows = t.rows; columns = t.columns; at = ap (inner n m) e ∙ t.inside k l; low = a; high = b }

pub site_at : {clashes starts : List ℕ} → Sited clashes starts → (k d : ℕ) → k < length starts → 1 ≤ d → d ≤ 4
    → Start 30 30 (at starts k) d
site_at t k d l a b = record { rows = omega arith; columns = omega arith; at = t.inside k l; low = a; high = b }

-- what the code makes of the entry of two faults' paths
pub entry_passes : {clashes starts : List ℕ} → Sited clashes starts → (f d g e byte : ℕ) → f < length starts → g <
    length starts
    → (f ≡ g → ⊥) → 1 ≤ d → d ≤ 4 → 1 ≤ e → e ≤ 4
    → byte ≡ byte_of (entry d e (class (row (at starts f)) (row (at starts g))) (class (column (at starts f)) (column
    (at starts g))))
    → eqb byte 0 ≡ clears_on starts f d g e
unfolding clear
entry_passes {clashes} {starts} t f d g e byte h l ne d1 d4 e1 e4 is =
    ap (λ (b : ℕ). eqb b 0) is
    ∙ byte_clear (entry d e (class (row (at starts f)) (row (at starts g))) (class (column (at starts f)) (column (at
    starts g))))
    ∙ ap is_clear
    (entry_is_clash 30 30 (at starts f) d (at starts g) e (site_at t f d h d1 d4) (site_at t g e l e1 e4)
    (ascending_distinct starts t.ascend f g ne h l))

-- distinct starts clash alike on both
pub clear_largest : (n m p d q e : ℕ) → Start n m p d → Start n m q e → (p ≡ q → ⊥) → clear n m p d q e ≡ clear 30 30
    p d q e
unfolding clear
clear_largest n m p d q e s t ne =
    ap is_clear (sym (entry_is_clash n m p d q e s t ne) ∙ entry_is_clash 30 30 p d q e (large s) (large t) ne)
  where
    large : {p d : ℕ} → Start n m p d → Start 30 30 p d
    large {p} s =
        record {
          rows = omega arith;
          columns = omega arith;
          at = inner_largest n m p s.rows s.columns s.at;
          low = s.low;
          high = s.high;
        }

module _ (n m : ℕ) (hn : n ≤ 30) (hm : m ≤ 30) where
  -- of faults at inner positions
  module _ (count : ℕ) (starts q : ℕ → ℕ) (inside : (k : ℕ) → k < count → inner n m (starts k) ≡ true)
      (apart : Apart count (λ i d j e. clear n m (starts i) d (starts j) e) q) where
    place : (k : ℕ) → k < count → Inner n m (starts k)
    place k l = inner_holds n m (starts k) (inside k l)

    clear_at : (a f d e : ℕ) → a < count → f < count → q a ≡ d → q f ≡ e → (d ≡ e → ⊥) → clear n m (starts a) d
        (starts f) e ≡ true
    clear_at a f d e h l x y ne =
        sym (λ i. clear n m (starts a) (x i) (starts f) (y i))
        ∙ apart a f h l (λ z. ne (sym x ∙ ap q z ∙ y))

    pub crossing : Crossing count (λ k. row (starts k)) (λ k. column (starts k)) q
    crossing = record {
      north_west = λ a f h l x y g i.
          let j = place a h in
          let k = place f l in
          crossed n m hn hm (starts a) 2 (starts f) 4 north west j k (clear_at a f 2 4 h l x y (λ z. omega arith))
          (omega arith) (omega arith) (omega arith) (omega arith);
      north_east = λ a f h l x y g i.
          let j = place a h in
          let k = place f l in
          crossed n m hn hm (starts a) 2 (starts f) 3 north east j k (clear_at a f 2 3 h l x y (λ z. omega arith))
          (omega arith) (omega arith) (omega arith) (omega arith);
      south_west = λ a f h l x y g i.
          let j = place a h in
          let k = place f l in
          crossed n m hn hm (starts a) 1 (starts f) 4 south west j k (clear_at a f 1 4 h l x y (λ z. omega arith))
          (omega arith) (omega arith) (omega arith) (omega arith);
      south_east = λ a f h l x y g i.
          let j = place a h in
          let k = place f l in
          crossed n m hn hm (starts a) 1 (starts f) 3 south east j k (clear_at a f 1 3 h l x y (λ z. omega arith))
          (omega arith) (omega arith) (omega arith) (omega arith);
    }

    pub facing : Facing count (λ k. row (starts k)) (λ k. column (starts k)) q
    facing a b h l x y g i =
        let j = place a h in
        let k = place b l in
        crossed n m hn hm (starts a) 2 (starts b) 1 north south j k (clear_at a b 2 1 h l x y (λ z. omega arith))
        (omega arith) (omega arith) (omega arith) (omega arith)
