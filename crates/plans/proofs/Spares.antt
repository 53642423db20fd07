-- A plan has no more paths than the array has spares: two paths of one direction in one line would meet.
-- Assumes nothing.
use Prim.Native.Nat.{ℕ, zero, suc, ◌+◌, ◌-◌, ◌*◌, ◌≤◌, ◌<◌}
use mathlib.Core.Path.{◌≡◌, sym, ◌∙◌}
use mathlib.Core.Bool.{true, cond, true≢false}
use mathlib.Core.List.{List}
use native.Mathlib.Omega.{arith}
use borrow.Author.Tests.{eq-eqb, ne_eqb, le-leb}
use lib.Dec.{eqb}
use lib.ListN.{length, get_or}
use Rattle.array.specs.Place.{row, column, inner}
use Rattle.array.proofs.Bools.{and_true, by_lt, by_eq}
use Rattle.array.proofs.Places.{Inner, inner_holds}
use Rattle.paths.specs.Path.{by_direction, clear}
use Rattle.paths.proofs.Ways.{Way, south, north, east, west, way}
use Rattle.paths.proofs.Meeting.{top, bottom, west_end, east_end, overlap, overlap_is_meet}
use Rattle.paths.proofs.Clashes.{clear_neither, neither_clear}
use Rattle.plans.specs.Faults.{faults}
use Rattle.plans.specs.Plan.{Plan, SpareEach}
use Rattle.plans.proofs.Facts.{fault_hit}

-- distinct numbers below k are at most k
no_more : (k n : ℕ) (f : ℕ → ℕ) → ((i : ℕ) → i < n → f i < k) → ((i j : ℕ) → i < j → j < n → f i ≡ f j → ⊥) → n ≤ k
no_more zero n f low apart = by_lt 0 n (λ h. absurd (omega (arith, low 0 h))) (λ h. h)
no_more (suc k) zero f low apart = omega arith
no_more (suc k) (suc n) f low apart =
    let r = no_more k n g g_low g_apart in
    omega arith
  where
    -- the last number takes the place of k
    g : ℕ → ℕ
    g i = cond (eqb (f i) k) (f n) (f i)

    g_k : (i : ℕ) → f i ≡ k → g i ≡ f n
    g_k i e = rw (eq-eqb (f i) k e)

    g_other : (i : ℕ) → (f i ≡ k → ⊥) → g i ≡ f i
    g_other i e = rw (ne_eqb (f i) k e)

    g_low : (i : ℕ) → i < n → g i < k
    g_low i h =
        let a = low i (omega arith) in
        let b = low n (omega arith) in
        let u = apart i n h (omega arith) in
        by_eq (f i) k
        (λ e. let z : f n ≡ k → ⊥ = λ x. u (e ∙ sym x) in omega (arith, g_k i e))
        (λ e. omega (arith, g_other i e))

    g_apart : (i j : ℕ) → i < j → j < n → g i ≡ g j → ⊥
    g_apart i j h l x =
        by_eq (f i) k
        (λ e.
        by_eq (f j) k
        (λ o. apart i j h (omega arith) (e ∙ sym o))
        (λ o. apart j n l (omega arith) (sym (sym (g_k i e) ∙ x ∙ g_other j o))))
        (λ e.
        by_eq (f j) k
        (λ o. apart i n (omega arith) (omega arith) (sym (g_other i e) ∙ x ∙ g_k j o))
        (λ o. apart i j h (omega arith) (sym (g_other i e) ∙ x ∙ g_other j o)))

module _ (n m : ℕ) (hn : n ≤ 30) (hm : m ≤ 30) where
  -- two paths whose rows and columns overlap are not clear
  pub crossed : (p d q e : ℕ) → Way d → Way e → Inner n m p → Inner n m q → clear n m p d q e ≡ true
      → top p d ≤ bottom n q e → top q e ≤ bottom n p d → west_end p d ≤ east_end m q e → west_end q e ≤ east_end m p
      d → ⊥
  unfolding overlap
  crossed p d q e w w' i j c h1 h2 h3 h4 =
      let o : overlap n m p d q e ≡ true = rw (
        le-leb (top p d) (bottom n q e) h1,
        le-leb (top q e) (bottom n p d) h2,
        le-leb (west_end p d) (east_end m q e) h3,
        le-leb (west_end q e) (east_end m p d) h4,
      ) in
      true≢false (sym o ∙ overlap_is_meet n m hn hm p d q e w w' i j ∙ (clear_neither n m p d q e c).0)

  -- the spare of a path, by its side and line
  abbrev spare : ℕ → ℕ → ℕ
  spare p d = by_direction d (column p - 1) (m + column p - 1) (2 * m + row p - 1) (2 * m + n + row p - 1) 0

  spare_below : (p d : ℕ) → Way d → Inner n m p → spare p d < 2 * (n + m)
  spare_below p d south i = omega arith
  spare_below p d north i = omega arith
  spare_below p d east i = omega arith
  spare_below p d west i = omega arith

  -- two paths with one spare are not clear
  spares_differ : (p d q e : ℕ) → Way d → Way e → Inner n m p → Inner n m q → clear n m p d q e ≡ true
      → spare p d ≡ spare q e → ⊥
  spares_differ p d q e south south i j c h =
      crossed p 1 q 1 south south i j c (omega arith) (omega arith) (omega arith) (omega arith)
  spares_differ p d q e north north i j c h =
      crossed p 2 q 2 north north i j c (omega arith) (omega arith) (omega arith) (omega arith)
  spares_differ p d q e east east i j c h =
      crossed p 3 q 3 east east i j c (omega arith) (omega arith) (omega arith) (omega arith)
  spares_differ p d q e west west i j c h =
      crossed p 4 q 4 west west i j c (omega arith) (omega arith) (omega arith) (omega arith)
  spares_differ p d q e south north i j c h = omega arith
  spares_differ p d q e south east i j c h = omega arith
  spares_differ p d q e south west i j c h = omega arith
  spares_differ p d q e north south i j c h = omega arith
  spares_differ p d q e north east i j c h = omega arith
  spares_differ p d q e north west i j c h = omega arith
  spares_differ p d q e east south i j c h = omega arith
  spares_differ p d q e east north i j c h = omega arith
  spares_differ p d q e east west i j c h = omega arith
  spares_differ p d q e west south i j c h = omega arith
  spares_differ p d q e west north i j c h = omega arith
  spares_differ p d q e west east i j c h = omega arith

module _ (n m : ℕ) (grid : List ℕ) where
  abbrev fs : List ℕ
  fs = faults n m grid

  abbrev at : List ℕ → ℕ → ℕ
  at l k = get_or l k 0

  -- of a plan any two paths are clear
  pub plan_clear : (xs : List ℕ) → Plan n m grid xs → (i j : ℕ) → i < j → j < length fs
      → clear n m (at fs i) (at xs i) (at fs j) (at xs j) ≡ true
  plan_clear xs p i j l h =
      let many : length xs ≡ length fs = p.one_path.one_each in
      neither_clear n m (at fs i) (at xs i) (at fs j) (at xs j) (p.no_meeting i j l (omega arith))
      (p.no_near_miss i j l (omega arith))

  ways : (xs : List ℕ) → Plan n m grid xs → (k : ℕ) → k < length fs → (1 ≤ at xs k) × (at xs k ≤ 4)
  ways xs p k l = p.one_path.straight k (omega (arith, p.one_path.one_each))

  within : (k : ℕ) → k < length fs → inner n m (at fs k) ≡ true
  within k l = (and_true (inner n m (at fs k)) _ (fault_hit n m grid k l).passes).0

  pub plan_spares : (xs : List ℕ) → n ≤ 30 → m ≤ 30 → Plan n m grid xs → length fs ≤ 2 * (n + m)
  plan_spares xs hn hm p =
      let place : (k : ℕ) → k < length fs → Inner n m (at fs k) = λ k l. inner_holds n m (at fs k) (within k l) in
      no_more (2 * (n + m)) (length fs) (λ k. spare n m hn hm (at fs k) (at xs k))
      (λ k l.
      let w = ways xs p k l in
      spare_below n m hn hm (at fs k) (at xs k) (way (at xs k) w.0 w.1) (place k l))
      (λ i j l h.
      let v = ways xs p i (omega arith) in
      let w = ways xs p j h in
      spares_differ n m hn hm (at fs i) (at xs i) (at fs j) (at xs j) (way (at xs i) v.0 v.1)
      (way (at xs j) w.0 w.1) (place i (omega arith)) (place j h) (plan_clear xs p i j l h))

pub spare_each : SpareEach
spare_each n m grid xs a b p = omega (arith, plan_spares n m grid xs a b p, p.one_path.one_each)
