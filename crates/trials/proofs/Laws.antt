-- What the trial rule finds, for any test of a trial: the first of all directions kept in turn, or none where there are none; and how many
-- trials it can take. Assumes nothing.
use Prim.Native.Nat.{ℕ, suc, ◌+◌, ◌*◌, ◌^◌, ◌≤◌, ◌<◌}
use mathlib.Core.Path.{◌≡◌, refl, sym, subst, ◌∙◌}
use mathlib.Core.Bool.{Bool, true, false, true≢false}
use mathlib.Core.Logic.{◌⊎◌, inl, inr, ⊎_elim}
use mathlib.Core.List.{List, [], ◌∷◌}
use native.Mathlib.Nat.{suc-mul, pow-succ'}
use native.Mathlib.Omega.{arith}
use lib.ListN.{length}
use Rattle.plans.specs.Faults.{fault}
use Rattle.plans.specs.Plan.{NotAfter}
use Rattle.plans.specs.declared.Fault.{Fault}
use Rattle.trials.specs.Trials.{Search, found, exhausted, more, in_order, offer, trials, count}
use Rattle.trials.proofs.Offers.{next, offer_next}

-- y is one of these directions
abbrev pub In : ℕ → List ℕ → Type 0
In y [] = ⊥
In y (d ∷ l) = (y ≡ d) ⊎ In y l

-- each of these directions is below those that follow it
abbrev Rising : List ℕ → Type 0
Rising [] = Unit {0}
Rising (d ∷ l) = ((y : ℕ) → In y l → d < y) × Rising l

rising : Rising in_order
rising = (
  λ y m. ⊎_elim (λ e. omega arith) (⊎_elim (λ e. omega arith) (⊎_elim (λ e. omega arith) (λ z. absurd z))) m,
  (
    λ y m. ⊎_elim (λ e. omega arith) (⊎_elim (λ e. omega arith) (λ z. absurd z)) m,
    (λ y m. ⊎_elim (λ e. omega arith) (λ z. absurd z) m, (λ y m. absurd m, tt)),
  ),
)

module _ (keep : List Fault → ℕ → ℕ → Bool) where
  -- the faults at these positions keep these directions in turn, after the faults of `kept`
  abbrev pub Kept : List Fault → List ℕ → List ℕ → Type 0
  Kept kept [] [] = Unit {0}
  Kept kept [] (d ∷ xs) = ⊥
  Kept kept (p ∷ ps) [] = ⊥
  Kept kept (p ∷ ps) (d ∷ xs) = In d in_order × (keep kept p d ≡ true) × Kept (fault p d ∷ kept) ps xs

  -- what the end of the trials says: nothing kept in turn comes before what is found; or nothing is kept in turn
  abbrev pub Answers : List Fault → List ℕ → Search → Type 0
  Answers kept ps (found t xs) = Kept kept ps xs × ((ys : List ℕ) → Kept kept ps ys → NotAfter xs ys)
  Answers kept ps (exhausted t) = (ys : List ℕ) → Kept kept ps ys → ⊥

  module _ (kept : List Fault) (p : ℕ) (ps : List ℕ) where
    -- the fault at p keeps d, and those after it keep xs
    abbrev Then : ℕ → List ℕ → Type 0
    Then d xs = (keep kept p d ≡ true) × Kept (fault p d ∷ kept) ps xs

    -- the same as `Answers`, where the fault at p has only the directions l left
    abbrev Among : List ℕ → Search → Type 0
    Among l (found t xs) =
        Kept kept (p ∷ ps) xs × ((y : ℕ) (ys : List ℕ) → In y l → Then y ys → NotAfter xs (y ∷ ys))
    Among l (exhausted t) = (y : ℕ) (ys : List ℕ) → In y l → Then y ys → ⊥

    abbrev Barred : ℕ → Type 0
    Barred d = (ys : List ℕ) → Then d ys → ⊥

    barred_at : (d y : ℕ) → Barred d → y ≡ d → Barred y
    barred_at d y b e = subst Barred (sym e) b

    among_more : (d t : ℕ) (l : List ℕ) (r : Search) → Barred d → Among l r → Among (d ∷ l) (more t r)
    among_more d t l (found u xs) b h =
        (h.0, λ y ys m v. ⊎_elim (λ e. absurd (barred_at d y b e ys v)) (λ k. h.1 y ys k v) m)
    among_more d t l (exhausted u) b h = λ y ys m v. ⊎_elim (λ e. barred_at d y b e ys v) (λ k. h y ys k v) m

    among_next : (d : ℕ) (l : List ℕ) (b : Bool) (s r : Search)
        → keep kept p d ≡ b → In d in_order → ((y : ℕ) → In y l → d < y) → Answers (fault p d ∷ kept) ps s → Among l r
        → Among (d ∷ l) (next b s d r)
    among_next d l true (found t xs) r e i low h k = (
      (i, e, h.0),
      λ y ys m v.
          ⊎_elim
          (λ q. inr (sym q, h.1 ys (subst (λ (x : ℕ). Then x ys) q v).1))
          (λ j. inl (low y j))
          m,
    )
    among_next d l true (exhausted t) r e i low h k = among_more d (1 + t) l r (λ ys v. h ys v.1) k
    among_next d l false s r e i low h k = among_more d 1 l r (λ ys v. true≢false (sym v.0 ∙ e)) k

    among_offer : (go : ℕ → Search) → ((d : ℕ) → Answers (fault p d ∷ kept) ps (go d))
        → (l : List ℕ) → Rising l → ((y : ℕ) → In y l → In y in_order) → Among l (offer (keep kept p) go l)
    unfolding offer
    among_offer go h [] rise sub = λ y ys m v. m
    among_offer go h (d ∷ l) rise sub =
        rw (offer_next (keep kept p) go d l)
        (among_next d l (keep kept p d) (go d) (offer (keep kept p) go l) refl (sub d (inl refl)) rise.0 (h d)
        (among_offer go h l rise.1 (λ y m. sub y (inr m))))

    among_all : (s : Search) → Among in_order s → Answers kept (p ∷ ps) s
    among_all (found t xs) h = (h.0, by)
      where
        by : (ys : List ℕ) → Kept kept (p ∷ ps) ys → NotAfter xs ys
        by [] v = absurd v
        by (y ∷ ys) v = h.1 y ys v.0 (v.1, v.2)
    among_all (exhausted t) h = by
      where
        by : (ys : List ℕ) → Kept kept (p ∷ ps) ys → ⊥
        by [] v = v
        by (y ∷ ys) v = h y ys v.0 (v.1, v.2)

  pub answers : (ps : List ℕ) (kept : List Fault) → Answers kept ps (trials keep kept ps)
  unfolding trials
  answers [] kept = (tt, λ ys v. tt)
  answers (p ∷ ps) kept =
      among_all kept p ps (offer (keep kept p) (λ d. trials keep (fault p d ∷ kept) ps) in_order)
      (among_offer kept p ps (λ d. trials keep (fault p d ∷ kept) ps) (λ d. answers ps (fault p d ∷ kept)) in_order rising
      (λ y m. m))

count_more : (t : ℕ) (s : Search) → count (more t s) ≡ t + count s
count_more t (found k xs) = refl
count_more t (exhausted k) = refl

next_bound : (b : Bool) (s : Search) (d : ℕ) (r : Search) (k q m : ℕ)
    → 3 * count s + 4 ≤ m → 3 * count r + k ≤ q → k ≤ q → 3 * count (next b s d r) + suc k ≤ q + m
next_bound true (found t xs) d r k q m h i j = omega arith
next_bound true (exhausted t) d r k q m h i j = omega (arith, count_more (1 + t) r)
next_bound false s d r k q m h i j = omega (arith, count_more 1 r)

offer_bound : (keep : ℕ → Bool) (go : ℕ → Search) (m : ℕ) → ((d : ℕ) → 3 * count (go d) + 4 ≤ m)
    → (l : List ℕ) → 3 * count (offer keep go l) + length l ≤ length l * m
unfolding offer
offer_bound keep go m h [] = omega arith
offer_bound keep go m h (d ∷ l) =
    rw (offer_next keep go d l, suc-mul (length l) m)
    (next_bound (keep d) (go d) d (offer keep go l) (length l) (length l * m) m (h d) (offer_bound keep go m h l)
    (omega (arith, offer_bound keep go m h l)))

-- the bound on T, without a division
pub trials_bound : (keep : List Fault → ℕ → ℕ → Bool) (ps : List ℕ) (kept : List Fault)
    → 3 * count (trials keep kept ps) + 4 ≤ 4 ^ suc (length ps)
unfolding trials
trials_bound keep [] kept = omega arith
trials_bound keep (p ∷ ps) kept =
    let h : 3 * count (offer (keep kept p) (λ d. trials keep (fault p d ∷ kept) ps) in_order) + 4 ≤ 4 * 4 ^ suc (length ps)
    = offer_bound (keep kept p) (λ d. trials keep (fault p d ∷ kept) ps) (4 ^ suc (length ps))
    (λ d. trials_bound keep ps (fault p d ∷ kept)) in_order in
    rw (pow-succ' 4 (suc (length ps))) h
