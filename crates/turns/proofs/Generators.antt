-- The laws of the eight turnings, from those of two: rows and columns exchanged, columns counted from the other end.
-- Assumes nothing.
use Prim.Native.Nat.{ℕ, ◌+◌, ◌-◌, ◌≤◌, ◌<◌}
use mathlib.Core.Path.{◌≡◌, refl, ap, ap₂, ◌∙◌}
use mathlib.Core.Bool.{Bool, true, false, ◌&&◌, ◌||◌, and_comm, or_comm}
use native.Mathlib.Omega.{arith}
use borrow.Author.Tests.{eqb-true, eq-eqb, ltb-true, lt-ltb}
use lib.Dec.{eqb, ltb}
use Rattle.array.specs.Place.{row, column}
use Rattle.array.proofs.Bools.{bool_ext}
use Rattle.array.proofs.Places.{Inner}
use Rattle.paths.specs.Path.{ahead, path_length, near_miss, difference, south_north, east_west, from_rim}
use Rattle.paths.proofs.Ways.{Way, south, north, east, west}
use Rattle.turns.specs.Turn.{Turn, turn, same, rows_of, columns_of, place_of, way_of}
use Rattle.turns.proofs.Places.{inner_within, sizes_high, place_then, place_read, place_after}
use Rattle.turns.proofs.Carrying.{Carries, carries_then}

-- a turning carries arrays of every size along
abbrev pub Lawful : Turn → Type 0
Lawful t = (n m : ℕ) → n ≤ 30 → m ≤ 30 → Carries n m (rows_of t n m) (columns_of t n m) (place_of t n m) (way_of t)

-- what holds of each of the four directions
each_way : (P : ℕ → Type 0) → P 1 → P 2 → P 3 → P 4 → (d : ℕ) → Way d → P d
each_way P a b c e d south = a
each_way P a b c e d north = b
each_way P a b c e d east = c
each_way P a b c e d west = e

-- what the turned direction tells of the direction
abbrev Tells : Turn → ℕ → ℕ → ℕ → Type 0
Tells t k j d = eqb (way_of t d) k ≡ eqb d j

tells : (t : Turn) (k j : ℕ) → Tells t k j 1 → Tells t k j 2 → Tells t k j 3 → Tells t k j 4 → (d : ℕ) → Way d
    → Tells t k j d
tells t k j = each_way (Tells t k j)

-- four tests, each equal to another
four : {a b c d a' b' c' d' : Bool} → a ≡ a' → b ≡ b' → c ≡ c' → d ≡ d'
    → ((a && b) && (c && d)) ≡ ((a' && b') && (c' && d'))
four p q r s = λ i. (p i && q i) && (r i && s i)

eithers : {a b c d a' b' c' d' : Bool} → a ≡ a' → b ≡ b' → c ≡ c' → d ≡ d'
    → ((a || b) || (c || d)) ≡ ((a' || b') || (c' || d'))
eithers p q r s = λ i. (p i || q i) || (r i || s i)

crossed : (a b c d : Bool) → ((a || b) || (c || d)) ≡ ((a || d) || (c || b))
crossed true b c d = refl
crossed false true true d = or_comm true d
crossed false true false d = or_comm true d
crossed false false c d = or_comm c d ∙ ap (λ (x : Bool). d || x) (or_comm false c)

eqb_same : (a b c d : ℕ) → (a ≡ b → c ≡ d) → (c ≡ d → a ≡ b) → eqb a b ≡ eqb c d
eqb_same a b c d f g = bool_ext _ _ (λ h. eq-eqb c d (f (eqb-true a b h))) (λ h. eq-eqb a b (g (eqb-true c d h)))

ltb_same : (a b c d : ℕ) → (a < b → c < d) → (c < d → a < b) → ltb a b ≡ ltb c d
ltb_same a b c d f g = bool_ext _ _ (λ h. lt-ltb c d (f (ltb-true a b h))) (λ h. lt-ltb a b (g (ltb-true c d h)))

-- Rows and columns exchanged.
abbrev X : Turn
X = turn true false false

module _ (n m : ℕ) (hn : n ≤ 30) (hm : m ≤ 30) where
  abbrev put_x : ℕ → ℕ
  put_x = place_of X n m

  read_x : (p : ℕ) → Inner n m p → (row (put_x p) ≡ column p) × (column (put_x p) ≡ row p)
  read_x p i = place_read X n m hn hm p (inner_within i)

  straight_x : (d : ℕ) → Way d → Way (way_of X d)
  straight_x d south = east
  straight_x d north = west
  straight_x d east = south
  straight_x d west = north

  long_x : (p d : ℕ) → Inner n m p → Way d → path_length m n (put_x p) (way_of X d) ≡ path_length n m p d
  long_x p d i south = omega arith
  long_x p d i north = omega arith
  long_x p d i east = omega arith
  long_x p d i west = omega arith

  steps_x : (p d k : ℕ) → Inner n m p → Way d → k < path_length n m p d
      → ahead (put_x p) (way_of X d) k ≡ put_x (ahead p d k)
  steps_x p d k i south l = omega arith
  steps_x p d k i north l = omega arith
  steps_x p d k i east l = omega arith
  steps_x p d k i west l = omega arith

  module _ (p d q e : ℕ) (i : Inner n m p) (j : Inner n m q) (w : Way d) (v : Way e) where
    south_north_x : south_north (put_x p) (way_of X d) (put_x q) (way_of X e) ≡ east_west p d q e
    south_north_x =
        let a = read_x p i in
        let b = read_x q j in
        four (tells X 1 3 refl refl refl refl d w) (tells X 2 4 refl refl refl refl e v)
        (ap₂ (λ (x y : ℕ). eqb (difference x y) 1) a.1 b.1) (ap₂ ltb a.0 b.0)

    east_west_x : east_west (put_x p) (way_of X d) (put_x q) (way_of X e) ≡ south_north p d q e
    east_west_x =
        let a = read_x p i in
        let b = read_x q j in
        four (tells X 3 1 refl refl refl refl d w) (tells X 4 2 refl refl refl refl e v)
        (ap₂ (λ (x y : ℕ). eqb (difference x y) 1) a.0 b.0) (ap₂ ltb a.1 b.1)

  near_x : (p d q e : ℕ) → Inner n m p → Inner n m q → Way d → Way e
      → near_miss (put_x p) (way_of X d) (put_x q) (way_of X e) ≡ near_miss p d q e
  unfolding near_miss
  near_x p d q e i j w v =
      eithers (south_north_x p d q e i j w v) (east_west_x p d q e i j w v) (south_north_x q e p d j i v w)
      (east_west_x q e p d j i v w)
      ∙ ap₂ ◌||◌ (or_comm (east_west p d q e) (south_north p d q e)) (or_comm (east_west q e p d) (south_north q e p d))

  rim_x : (p d : ℕ) → Inner n m p → Way d → from_rim m n (put_x p) (way_of X d) ≡ from_rim n m p d
  rim_x p d i south = ap (λ (x : ℕ). eqb x 1) (read_x p i).1
  rim_x p d i north = ap (λ (x : ℕ). eqb x n) (read_x p i).1
  rim_x p d i east = ap (λ (x : ℕ). eqb x 1) (read_x p i).0
  rim_x p d i west = ap (λ (x : ℕ). eqb x m) (read_x p i).0

lawful_x : Lawful X
lawful_x n m hn hm =
    record {
      stays = λ p w. omega arith;
      inside = λ p i. omega arith;
      apart = λ p q w v e. omega arith;
      straight = straight_x n m hn hm;
      long = long_x n m hn hm;
      steps = steps_x n m hn hm;
      near = near_x n m hn hm;
      rim = rim_x n m hn hm;
    }

-- Columns counted from the other end.
abbrev M : Turn
M = turn false false true

module _ (n m : ℕ) (hn : n ≤ 30) (hm : m ≤ 30) where
  abbrev put_m : ℕ → ℕ
  put_m = place_of M n m

  read_m : (p : ℕ) → Inner n m p → (row (put_m p) ≡ row p) × (column (put_m p) ≡ m + 1 - column p)
  read_m p i = place_read M n m hn hm p (inner_within i)

  straight_m : (d : ℕ) → Way d → Way (way_of M d)
  straight_m d south = south
  straight_m d north = north
  straight_m d east = west
  straight_m d west = east

  long_m : (p d : ℕ) → Inner n m p → Way d → path_length n m (put_m p) (way_of M d) ≡ path_length n m p d
  long_m p d i south = omega arith
  long_m p d i north = omega arith
  long_m p d i east = omega arith
  long_m p d i west = omega arith

  steps_m : (p d k : ℕ) → Inner n m p → Way d → k < path_length n m p d
      → ahead (put_m p) (way_of M d) k ≡ put_m (ahead p d k)
  steps_m p d k i south l = omega arith
  steps_m p d k i north l = omega arith
  steps_m p d k i east l = omega arith
  steps_m p d k i west l = omega arith

  module _ (p d q e : ℕ) (i : Inner n m p) (j : Inner n m q) (w : Way d) (v : Way e) where
    south_north_m : south_north (put_m p) (way_of M d) (put_m q) (way_of M e) ≡ south_north p d q e
    south_north_m =
        let a = read_m p i in
        let b = read_m q j in
        let f : difference (column (put_m p)) (column (put_m q)) ≡ difference (column p) (column q) =
        omega (arith, a.1, b.1) in
        four (tells M 1 1 refl refl refl refl d w) (tells M 2 2 refl refl refl refl e v) (ap (λ (x : ℕ). eqb x 1) f)
        (ap₂ ltb a.0 b.0)

    -- the one that went east goes west
    east_west_m : east_west (put_m p) (way_of M d) (put_m q) (way_of M e) ≡ east_west q e p d
    east_west_m =
        let a = read_m p i in
        let b = read_m q j in
        let f : difference (row (put_m p)) (row (put_m q)) ≡ difference (row q) (row p) = omega (arith, a.0, b.0) in
        four (tells M 3 4 refl refl refl refl d w) (tells M 4 3 refl refl refl refl e v) (ap (λ (x : ℕ). eqb x 1) f)
        (ltb_same (column (put_m p)) (column (put_m q)) (column q) (column p) (omega (arith, a.1, b.1))
        (omega (arith, a.1, b.1)))
        ∙ ap (λ (x : Bool). x && (eqb (difference (row q) (row p)) 1 && ltb (column q) (column p)))
        (and_comm (eqb d 4) (eqb e 3))

  near_m : (p d q e : ℕ) → Inner n m p → Inner n m q → Way d → Way e
      → near_miss (put_m p) (way_of M d) (put_m q) (way_of M e) ≡ near_miss p d q e
  unfolding near_miss
  near_m p d q e i j w v =
      eithers (south_north_m p d q e i j w v) (east_west_m p d q e i j w v) (south_north_m q e p d j i v w)
      (east_west_m q e p d j i v w)
      ∙ crossed (south_north p d q e) (east_west q e p d) (south_north q e p d) (east_west p d q e)

  rim_m : (p d : ℕ) → Inner n m p → Way d → from_rim n m (put_m p) (way_of M d) ≡ from_rim n m p d
  rim_m p d i south = ap (λ (x : ℕ). eqb x 1) (read_m p i).0
  rim_m p d i north = ap (λ (x : ℕ). eqb x n) (read_m p i).0
  rim_m p d i east = let c = (read_m p i).1 in eqb_same (column (put_m p)) m (column p) 1 (omega arith) (omega arith)
  rim_m p d i west = let c = (read_m p i).1 in eqb_same (column (put_m p)) 1 (column p) m (omega arith) (omega arith)

lawful_m : Lawful M
lawful_m n m hn hm =
    record {
      stays = λ p w. omega arith;
      inside = λ p i. omega arith;
      apart = λ p q w v e. omega arith;
      straight = straight_m n m hn hm;
      long = long_m n m hn hm;
      steps = steps_m n m hn hm;
      near = near_m n m hn hm;
      rim = rim_m n m hn hm;
    }

-- Two lawful turnings in a row, and so all eight.
module _ (t u : Turn) (way : ℕ → ℕ) (ways : (d : ℕ) → Way d → way d ≡ way_of u (way_of t d)) (f : Lawful t) (g : Lawful u)
    (n m : ℕ) (hn : n ≤ 30) (hm : m ≤ 30) where
  abbrev n' : ℕ
  n' = rows_of t n m

  abbrev m' : ℕ
  m' = columns_of t n m

  carries_after : Carries n m (rows_of u n' m') (columns_of u n' m') (place_then t u n m) way
  carries_after =
      let h = sizes_high t n m hn hm in
      carries_then (place_then t u n m) way hn hm (λ p w. place_after t n m hn hm p w u) ways (f n m hn hm)
      (g n' m' h.0 h.1)

lawful_same : Lawful same
lawful_same =
    carries_after X X (way_of same) (each_way (λ d. d ≡ way_of X (way_of X d)) refl refl refl refl) lawful_x lawful_x

-- a quarter turn
abbrev Q : Turn
Q = turn true false true

lawful_q : Lawful Q
lawful_q = carries_after X M (way_of Q) (λ d w. refl) lawful_x lawful_m

-- rows counted from the other end: columns so, between two exchanges
abbrev U : Turn
U = turn false true false

lawful_u : Lawful U
lawful_u =
    carries_after Q X (way_of U) (each_way (λ d. way_of U d ≡ way_of X (way_of Q d)) refl refl refl refl) lawful_q lawful_x

-- each of the three choices, made or not
mirrored_or_not : (c : Bool) → Lawful (turn false false c)
mirrored_or_not true = lawful_m
mirrored_or_not false = lawful_same

upended_or_not : (b c : Bool) → Lawful (turn false b c)
upended_or_not true c =
    carries_after U (turn false false c) (way_of (turn false true c)) (λ d w. refl) lawful_u (mirrored_or_not c)
upended_or_not false c = mirrored_or_not c

exchanged_or_not : (a b c : Bool) → Lawful (turn a b c)
exchanged_or_not true b c =
    carries_after X (turn false b c) (way_of (turn true b c)) (λ d w. refl) lawful_x (upended_or_not b c)
exchanged_or_not false b c = upended_or_not b c

pub lawful : (t : Turn) → Lawful t
lawful t = exchanged_or_not t.exchange t.upend t.mirror
