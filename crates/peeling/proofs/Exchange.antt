-- Settling outer faults first: a settled path is clear of every open path of a fault that is left, so where there is a
-- plan one agrees with the settlings; and what is settled is itself a plan of the settled faults. Assumes nothing.
use Prim.Native.Nat.{ℕ, ◌≤◌}
use mathlib.Core.Path.{◌≡◌, refl, sym, ap, ap₂, subst, ◌∙◌}
use mathlib.Core.Bool.{Bool, true}
use mathlib.Core.List.{List}
use mathlib.Core.Logic.{inl, inr, ⊎_elim}
use native.Mathlib.Omega.{arith}
use borrow.Author.Tests.{eq-eqb, ne_eqb}
use Rattle.array.specs.Place.{inner}
use Rattle.array.specs.Map.{inner_fault}
use Rattle.array.proofs.Bools.{by_eq, and_true, and_both}
use Rattle.array.proofs.Places.{inner_holds}
use Rattle.paths.specs.Path.{is_open, clear}
use Rattle.paths.proofs.Ways.{Way, way}
use Rattle.paths.proofs.Opens.{open_alone}
use Rattle.plans.specs.PlanAt.{PlanAt, EitherFirst}
use Rattle.trials.specs.Trials.{clear_of}
use Rattle.trials.specs.Completing.{settled_in, left_in, Has, KeepsSettled, Agreeing}
use Rattle.trials.proofs.Completing.{is_settled, is_left, left_or_settled}
use Rattle.peeling.specs.Settling.{Outer, settle, unsettled, Outward, Peeled, none, more, settled_faults}
use Rattle.peeling.proofs.Outward.{outward_clear}

-- What settling asks of the tests: the path of a fault that lies at least as far out on its side as another is clear of
-- each path of the other that passes.
abbrev pub OutwardClears : (ℕ → Bool) → (ℕ → ℕ → Bool) → (ℕ → ℕ → ℕ → ℕ → Bool) → Type 0
OutwardClears fault opens clears =
    (f d q e : ℕ) → fault f ≡ true → fault q ≡ true → Way d → Way e → (f ≡ q → ⊥) → opens q e ≡ true → Outer d f q
    → clears f d q e ≡ true

-- what stands where after a settling
module _ (part : ℕ → ℕ) (f d p : ℕ) where
  settle_at : p ≡ f → settle part f d p ≡ d
  settle_at e = rw (eq-eqb p f e)

  pub settle_off : (p ≡ f → ⊥) → settle part f d p ≡ part p
  settle_off e = rw (ne_eqb p f e)

  -- an unsettled position was unsettled, and is not the one settled
  settle_free : 1 ≤ d → settle part f d p ≡ 0 → (p ≡ f → ⊥) × (part p ≡ 0)
  settle_free l h = by_eq p f (λ e. let z = settle_at e in absurd (omega arith)) (λ e. (e, sym (settle_off e) ∙ h))

settled_too : (fault : ℕ → Bool) (part : ℕ → ℕ) (p : ℕ) → fault p ≡ true → (part p ≡ 0 → ⊥)
    → settled_in fault part p ≡ true
settled_too fault part p fp np = rw (fp, ne_eqb (part p) 0 np)

module _ {fault : ℕ → Bool} {opens : ℕ → ℕ → Bool} {part : ℕ → ℕ} {f d : ℕ} (o : Outward fault opens part f d) where
  -- a fault left after a settling is another one, and was left before
  left_before : (q : ℕ) → left_in fault (settle part f d) q ≡ true → (f ≡ q → ⊥) × (left_in fault part q ≡ true)
  left_before q h =
      let x = is_left fault (settle part f d) q h in
      let z = settle_free part f d q o.low x.1 in
      (λ e. z.0 (sym e), and_both _ _ x.0 (eq-eqb (part q) 0 z.1))

  -- a settled fault is the one just settled, or was settled before
  settled_before : (p : ℕ) → settled_in fault (settle part f d) p ≡ true → (p ≡ f → ⊥) → settled_in fault part p ≡ true
  settled_before p h ne =
      let x = is_settled fault (settle part f d) p h in
      settled_too fault part p x.0 (λ z. x.1 (settle_off part f d p ne ∙ z))

  settled_now : (p : ℕ) → p ≡ f → settled_in fault (settle part f d) p ≡ true
  settled_now p e =
      let z = settle_at part f d p e in
      settled_too fault (settle part f d) p (ap fault e ∙ o.is_fault) (λ y. omega (arith, o.low))

  settled_still : (p : ℕ) → settled_in fault part p ≡ true
      → (settled_in fault (settle part f d) p ≡ true) × (part p ≡ settle part f d p)
  settled_still p h =
      let x = is_settled fault part p h in
      let z = settle_off part f d p (λ e. x.1 (ap part e ∙ o.free)) in
      (settled_too fault (settle part f d) p x.0 (λ y. x.1 (sym z ∙ y)), sym z)

-- the list of the settled faults
module _ (fault : ℕ → Bool) (opens : ℕ → ℕ → Bool) where
  has_settled : {part : ℕ → ℕ} (s : Peeled fault opens part) (p e : ℕ) → Has (settled_faults s) p e
      → (settled_in fault part p ≡ true) × (e ≡ part p)
  has_settled none p e a = absurd a
  has_settled (more {part = part} f d s o) p e (inl x) =
      (settled_now o p (sym x.0), sym x.1 ∙ sym (settle_at part f d p (sym x.0)))
  has_settled (more {part = part} f d s o) p e (inr x) =
      let y = has_settled s p e x in
      let z = settled_still o p y.0 in
      (z.0, y.1 ∙ z.1)

  settled_has : {part : ℕ → ℕ} (s : Peeled fault opens part) (p : ℕ) → settled_in fault part p ≡ true
      → Has (settled_faults s) p (part p)
  settled_has none p h = absurd ((is_settled fault unsettled p h).1 refl)
  settled_has (more {part = part} f d s o) p h =
      by_eq p f (λ e. inl (sym e, sym (settle_at part f d p e)))
      (λ ne.
      let x = settled_has s p (settled_before o p h ne) in
      inr (subst (λ (e : ℕ). Has (settled_faults s) p e) (sym (settle_off part f d p ne)) x))

  pub kept_settled : {part : ℕ → ℕ} (s : Peeled fault opens part) → KeepsSettled fault part (settled_faults s)
  kept_settled s = record { held = has_settled s; holds = settled_has s }

module _ {fault : ℕ → Bool} {opens : ℕ → ℕ → Bool} {clears : ℕ → ℕ → ℕ → ℕ → Bool}
    (rule : OutwardClears fault opens clears) where
  -- the path just settled, and a path that passes of a fault that is left
  now_clear : {part : ℕ → ℕ} {f d : ℕ} → Outward fault opens part f d → (q e : ℕ) → left_in fault part q ≡ true
      → (f ≡ q → ⊥) → Way e → opens q e ≡ true → clears f d q e ≡ true
  now_clear {part} {f} {d} o q e h ne w p =
      let x = is_left fault part q h in
      rule f d q e o.is_fault x.0 (way d o.low o.high) w ne p (o.outermost q x.0 x.1)

  -- each settled path, and all of them
  settled_clear : {part : ℕ → ℕ} → Peeled fault opens part → (p q e : ℕ) → settled_in fault part p ≡ true
      → left_in fault part q ≡ true → Way e → opens q e ≡ true → clears p (part p) q e ≡ true
  settled_clear none p q e a b w h = absurd ((is_settled fault unsettled p a).1 refl)
  settled_clear (more {part = part} f d s o) p q e a b w h =
      let x = left_before o q b in
      by_eq p f
      (λ z. (λ i. clears (z i) (settle_at part f d p z i) q e) ∙ now_clear o q e x.1 x.0 w h)
      (λ z.
      ap (λ (c : ℕ). clears p c q e) (settle_off part f d p z)
      ∙ settled_clear s p q e (settled_before o p a z) x.1 w h)

  before_clear : {part : ℕ → ℕ} {f d : ℕ} → Peeled fault opens part → Outward fault opens part f d → (g : ℕ)
      → settled_in fault part g ≡ true → clears g (part g) f d ≡ true
  before_clear {part} {f} {d} s o g h =
      settled_clear s g f d h (and_both _ _ o.is_fault (eq-eqb (part f) 0 o.free)) (way d o.low o.high)
      o.open_path

  pub kept_clear : {part : ℕ → ℕ} (s : Peeled fault opens part) (q e : ℕ) → left_in fault part q ≡ true → Way e
      → opens q e ≡ true → clear_of clears (settled_faults s) q e ≡ true
  unfolding clear_of
  kept_clear none q e b w h = refl
  kept_clear (more f d s o) q e b w h =
      let x = left_before o q b in
      and_both _ _ (now_clear o q e x.1 x.0 w h) (kept_clear s q e x.1 w h)

  module _ (round : EitherFirst clears) where
    -- A plan changed at f, of the same faults or with f as well: the path there passes, and is clear of each other.
    changed : (test test' : ℕ → Bool) (dir : ℕ → ℕ) (f d : ℕ) → 1 ≤ d → d ≤ 4 → opens f d ≡ true
        → ((p : ℕ) → test' p ≡ true → (p ≡ f → ⊥) → test p ≡ true)
        → ((g : ℕ) → test g ≡ true → (g ≡ f → ⊥) → clears g (dir g) f d ≡ true)
        → PlanAt test opens clears dir → PlanAt test' opens clears (settle dir f d)
    changed test test' dir f d low high passes others apart plan =
        record {
          straight = λ p h.
              by_eq p f (λ e. let z = settle_at dir f d p e in omega arith)
              (λ e. let z = settle_off dir f d p e in let s = plan.straight p (others p h e) in omega arith);
          open_path = λ p h.
              by_eq p f (λ e. ap₂ opens e (settle_at dir f d p e) ∙ passes)
              (λ e. ap (opens p) (settle_off dir f d p e) ∙ plan.open_path p (others p h e));
          clear_pair = λ p q h g ne.
              by_eq p f (λ e. round q _ p _ (at_f q p g e (λ z. ne (e ∙ sym z))))
              (λ np.
              by_eq q f (λ e. at_f p q h e np)
              (λ nq.
              (λ i. clears p (settle_off dir f d p np i) q (settle_off dir f d q nq i))
              ∙ plan.clear_pair p q (others p h np) (others q g nq) ne));
        }
      where
        at_f : (p q : ℕ) → test' p ≡ true → q ≡ f → (p ≡ f → ⊥)
            → clears p (settle dir f d p) q (settle dir f d q) ≡ true
        at_f p q h e np =
            (λ i. clears p (settle_off dir f d p np i) (e i) (settle_at dir f d q e i)) ∙ apart p (others p h np) np

    -- where there is a plan there is one that agrees with the settlings
    pub exchanged : {part : ℕ → ℕ} → Peeled fault opens part → (dir : ℕ → ℕ) → PlanAt fault opens clears dir
        → Agreeing fault opens clears part
    exchanged none dir plan = record { dir = dir; plan = plan; agrees = λ p fp np. absurd (np refl) }
    exchanged (more {part = part} f d s o) dir plan = by (exchanged s dir plan)
      where
        apart : (a : Agreeing fault opens clears part) (g : ℕ) → fault g ≡ true → (g ≡ f → ⊥)
            → clears g (a.dir g) f d ≡ true
        apart a g h ne =
            ⊎_elim
            (λ l.
            let t = a.plan.straight g h in
            round f d g (a.dir g)
            (now_clear o g (a.dir g) l (λ z. ne (sym z)) (way (a.dir g) t.0 t.1) (a.plan.open_path g h)))
            (λ l. ap (λ (e : ℕ). clears g e f d) (a.agrees g h (is_settled fault part g l).1) ∙ before_clear s o g l)
            (left_or_settled fault part g h)

        by : Agreeing fault opens clears part → Agreeing fault opens clears (settle part f d)
        by a =
            record {
              dir = settle a.dir f d;
              plan =
                  changed fault fault a.dir f d o.low o.high o.open_path (λ p h ne. h) (apart a) a.plan;
              agrees = λ p fp np.
                  by_eq p f (λ e. settle_at a.dir f d p e ∙ sym (settle_at part f d p e))
                  (λ e.
                  let z = settle_off part f d p e in
                  settle_off a.dir f d p e ∙ a.agrees p fp (λ y. np (z ∙ y)) ∙ sym z);
            }

    -- what is settled is a plan of the settled faults
    pub peeled_plan : {part : ℕ → ℕ} → Peeled fault opens part → PlanAt (settled_in fault part) opens clears part
    peeled_plan none =
        record {
          straight = λ p h. absurd ((is_settled fault unsettled p h).1 refl);
          open_path = λ p h. absurd ((is_settled fault unsettled p h).1 refl);
          clear_pair = λ p q h g ne. absurd ((is_settled fault unsettled p h).1 refl);
        }
    peeled_plan (more {part = part} f d s o) =
        changed (settled_in fault part) (settled_in fault (settle part f d)) part f d o.low o.high o.open_path
        (settled_before o) (λ g h ne. before_clear s o g h) (peeled_plan s)

-- so it is on a map: no open path runs over another fault
pub outward_clears_on : (n m : ℕ) (grid : List ℕ) → n ≤ 30 → m ≤ 30
    → OutwardClears (inner_fault n m grid) (is_open n m grid) (clear n m)
outward_clears_on n m grid hn hm f d q e ff fq w v ne o out =
    let a = and_true (inner n m f) _ ff in
    outward_clear n m hn hm f d q e (inner_holds n m f a.0) (inner_holds n m q (and_true (inner n m q) _ fq).0) w v
    (λ h. ne (open_alone n m q e f grid v o h a.1)) out
