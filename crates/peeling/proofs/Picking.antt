-- What is settled next, and which faults are then left.
-- Assumes nothing.
use Prim.Native.Nat.{ℕ, zero, suc, ◌≤◌, ◌<◌}
use mathlib.Core.Path.{◌≡◌, refl, sym, ap, ◌∙◌}
use mathlib.Core.Bool.{Bool, true, false, cond, ◌&&◌}
use mathlib.Core.List.{List, [], ◌∷◌}
use native.Mathlib.Nat.{le_of_suc-le-suc, not-suc-le-zero}
use native.Mathlib.Omega.{arith}
use borrow.Author.Tests.{leb-true, le-leb, eq-eqb, ne_eqb}
use lib.Dec.{eqb}
use lib.ListN.{length, get_or}
use Rattle.array.specs.Place.{inner}
use Rattle.array.specs.Buffer.{positions_along, Index, Lists}
use Rattle.array.specs.Map.{inner_faulty, inner_fault}
use Rattle.array.proofs.Bools.{by_eq, and_true, and_one, and_none}
use Rattle.array.proofs.Filters.{hit_along, position_at}
use Rattle.array.proofs.Marks.{mark_read, faulty_below}
use Rattle.array.proofs.Positions.{position_index, positions_rise}
use Rattle.paths.proofs.Ways.{Way, south, north, east, west}
use Rattle.plans.specs.Faults.{faults, fault}
use Rattle.plans.specs.declared.Fault.{Fault}
use Rattle.trials.specs.Search.{direction_of}
use Rattle.trials.specs.Completing.{left_in}
use Rattle.peeling.specs.Peel.{as_far_out, outermost, Pick, settles, stops, pick_along, pick, left_on}
use Rattle.peeling.specs.Settling.{Outer}
use Rattle.peeling.specs.Inner.{without}

far_outer : {d : ℕ} (p q : ℕ) → Way d → as_far_out d p q ≡ true → Outer d p q
far_outer p q south h = leb-true _ _ h
far_outer p q north h = leb-true _ _ h
far_outer p q east h = leb-true _ _ h
far_outer p q west h = leb-true _ _ h

pub outer_far : {d : ℕ} (p q : ℕ) → Way d → Outer d p q → as_far_out d p q ≡ true
outer_far p q south h = le-leb _ _ h
outer_far p q north h = le-leb _ _ h
outer_far p q east h = le-leb _ _ h
outer_far p q west h = le-leb _ _ h

pub outermost_at : (d p : ℕ) (qs : List ℕ) (k : ℕ) → Way d → outermost d p qs ≡ true → k < length qs
    → Outer d p (get_or qs k 0)
outermost_at d p [] k w h l = absurd (not-suc-le-zero l)
outermost_at d p (q ∷ qs) zero w h l = far_outer p q w (and_true (as_far_out d p q) _ h).0
outermost_at d p (q ∷ qs) (suc k) w h l =
    outermost_at d p qs k w (and_true (as_far_out d p q) _ h).1 (le_of_suc-le-suc l)

-- What is picked: one of the faults left, outermost, with a path that passes.
module _ (opens : ℕ → ℕ → Bool) (left : List ℕ) where
  pub record Picked (f d : ℕ) : Type 0 where
    pub among : Index left f
    pub low : 1 ≤ d
    pub high : d ≤ 4
    pub outer : outermost d f left ≡ true
    pub open_path : opens f d ≡ true

  abbrev pub Picks : Pick → Type 0
  Picks (settles f d) = Picked f d
  Picks stops = Unit {0}

  picks_either : (b : Bool) (x y : Pick) → (b ≡ true → Picks x) → Picks y → Picks (cond b x y)
  picks_either true x y f g = f refl
  picks_either false x y f g = g

  picks_along : (d : ℕ) → 1 ≤ d → d ≤ 4 → (ps : List ℕ) → ((k : ℕ) → k < length ps → Index left (get_or ps k 0))
      → (others : Pick) → Picks others → Picks (pick_along opens left d ps others)
  unfolding pick_along
  picks_along d l h [] each others g = g
  picks_along d l h (p ∷ ps) each others g =
      picks_either _ (settles p d) (pick_along opens left d ps others)
      (λ e.
      let a = and_true _ _ e in
      record { among = each 0 (omega arith); low = l; high = h; outer = a.0; open_path = a.1 })
      (picks_along d l h ps (λ k m. each (suc k) (omega arith)) others g)

  pub picks : Picks (pick opens left)
  picks =
      let each : (k : ℕ) → k < length left → Index left (get_or left k 0) =
      λ k l. record { k = k; below = l; is = refl } in
      picks_along 4 (omega arith) (omega arith) left each _
      (picks_along 3 (omega arith) (omega arith) left each _
      (picks_along 2 (omega arith) (omega arith) left each _
      (picks_along 1 (omega arith) (omega arith) left each stops tt)))

pub nothing_picked : (opens : ℕ → ℕ → Bool) (left : List ℕ) → length left ≤ 0 → pick opens left ≡ stops
unfolding pick_along
nothing_picked opens [] h = refl
nothing_picked opens (p ∷ ps) h = absurd (omega arith)

-- Two tests of a position and its element, the same from i on.
same_along : (t u : ℕ → ℕ → Bool) (i : ℕ) (xs : List ℕ) → ((p x : ℕ) → i ≤ p → u p x ≡ t p x)
    → positions_along u i xs ≡ positions_along t i xs
unfolding positions_along
same_along t u i [] same = refl
same_along t u i (x ∷ xs) same =
    let r = same_along t u (suc i) xs (λ p y l. same p y (omega arith)) in
    (λ z. cond (same i x (omega arith) z) (i ∷ r z) (r z))

-- A test that only f fails besides: f is taken out.
module _ (t u : ℕ → ℕ → Bool) (f : ℕ) (off : (x : ℕ) → u f x ≡ false)
    (same : (p x : ℕ) → (p ≡ f → ⊥) → u p x ≡ t p x) where
  -- the list, and the list with f taken out, of what comes after the first element
  abbrev after : ℕ → List ℕ → List ℕ
  after i xs = positions_along t (suc i) xs

  abbrev less : ℕ → List ℕ → List ℕ
  less i xs = positions_along u (suc i) xs

  by_first : (i x : ℕ) (xs : List ℕ) (b : Bool) → t i x ≡ b
      → ((k : ℕ) → k < length (after i xs) → get_or (after i xs) k 0 ≡ f → less i xs ≡ without k (after i xs))
      → (k : ℕ) → k < length (cond b (i ∷ after i xs) (after i xs)) → get_or (cond b (i ∷ after i xs) (after i xs)) k 0 ≡ f
      → cond (u i x) (i ∷ less i xs) (less i xs) ≡ without k (cond b (i ∷ after i xs) (after i xs))
  by_first i x xs true e ih zero l h =
      rw (ap (λ (p : ℕ). u p x) h ∙ off x) (same_along t u (suc i) xs (λ p y m. same p y (λ z. omega arith)))
  by_first i x xs true e ih (suc k) l h =
      let s = hit_along t (suc i) xs k (le_of_suc-le-suc l) in
      rw (same i x (λ z. omega (arith, s.is)) ∙ e) (ap (λ (r : List ℕ). i ∷ r) (ih k (le_of_suc-le-suc l) h))
  by_first i x xs false e ih k l h =
      rw (by_eq i f (λ z. ap (λ (p : ℕ). u p x) z ∙ off x) (λ z. same i x z ∙ e)) (ih k l h)

  one_out : (i : ℕ) (xs : List ℕ) (k : ℕ) → k < length (positions_along t i xs)
      → get_or (positions_along t i xs) k 0 ≡ f → positions_along u i xs ≡ without k (positions_along t i xs)
  unfolding positions_along
  one_out i [] k l h = absurd (not-suc-le-zero l)
  one_out i (x ∷ xs) k l h = by_first i x xs (t i x) refl (one_out (suc i) xs) k l h

module _ (n m : ℕ) (grid : List ℕ) where
  abbrev unsettled_fault : List Fault → ℕ → ℕ → Bool
  unsettled_fault kept p x = inner_faulty n m p x && eqb (direction_of kept p) 0

  -- the faults left are the inner faults that are not settled, each once
  pub left_lists : (kept : List Fault)
      → Lists (left_in (inner_fault n m grid) (direction_of kept)) (left_on n m grid kept)
  unfolding left_on
  left_lists kept =
      let t = unsettled_fault kept in
      record {
        each = λ k h.
            let x = position_at t grid k h in
            ap (t (get_or (left_on n m grid kept) k 0)) (mark_read grid _ x.below) ∙ x.passes;
        all = λ p h.
            let l = faulty_below grid p (and_true (inner n m p) _ (and_true (inner_fault n m grid p) _ h).0).1 in
            position_index t grid p l (sym (ap (t p) (mark_read grid p l)) ∙ h);
        once = λ i j a b e. omega (arith, e, positions_rise t grid i j a b);
      }

  -- before the first settling they are all the inner faults, and each settling takes one out
  pub left_first : left_on n m grid [] ≡ faults n m grid
  unfolding left_on faults direction_of
  left_first = same_along (inner_faulty n m) (unsettled_fault []) 0 grid (λ p x l. and_one (inner_faulty n m p x))

  pub left_next : (kept : List Fault) (k d : ℕ) → k < length (left_on n m grid kept) → 1 ≤ d
      → left_on n m grid (fault (get_or (left_on n m grid kept) k 0) d ∷ kept) ≡ without k (left_on n m grid kept)
  unfolding left_on direction_of
  left_next kept k d l h =
      let f = get_or (left_on n m grid kept) k 0 in
      one_out (unsettled_fault kept) (unsettled_fault (fault f d ∷ kept)) f
      (λ x. rw (eq-eqb f f refl, ne_eqb d 0 (λ z. omega arith)) (and_none (inner_faulty n m f x)))
      (λ p x ne. rw (ne_eqb p f ne)) 0 grid k l refl
