-- From the best of all pairs to the first of all plans: what the trials find, where they find one.
-- Assumes nothing.
use Prim.Native.Nat.{ℕ, zero, suc, ◌+◌, ◌*◌, ◌≤◌, ◌<◌}
use mathlib.Core.Path.{◌≡◌, refl, sym, ap, subst, ◌∙◌}
use mathlib.Core.Bool.{Bool, true, false, cond, false≢true}
use mathlib.Core.Logic.{inl, inr}
use mathlib.Core.List.{List, [], ◌∷◌}
use Rattle.std.specs.Prelude.{Option, Some, None, IfSome, is_some}
use native.Mathlib.Nat.{le_of_suc-le-suc, not-suc-le-zero}
use native.Mathlib.Omega.{arith}
use lib.ListN.{length, get_or, take}
use lib.Seq.{length-take-le, get_or-take, ext_get_or}
use Rattle.array.specs.Place.{inner}
use Rattle.array.specs.Buffer.{buffer, zeros}
use Rattle.array.proofs.Bools.{by_lt, and_true}
use Rattle.array.proofs.Places.{Inner, inner_holds}
use Rattle.paths.specs.Path.{is_open, meet, near_miss, clear}
use Rattle.paths.proofs.Ways.{way}
use Rattle.paths.proofs.Clashes.{clear_neither, clear_comm}
use Rattle.plans.specs.Faults.{faults, paired}
use Rattle.plans.specs.Plan.{Plan, NotAfter, FirstPlan}
use Rattle.plans.proofs.Facts.{fault_hit, faults_rise, ascending_distinct}
use Rattle.plans.proofs.Planned.{plan_not_blocked}
use Rattle.trials.specs.Trials.{Search, found, exhausted}
use Rattle.trials.specs.Search.{planned, direction_of}
use Rattle.trials.proofs.Theorems.{trial_rule}
use Rattle.exact.specs.declared.Decision.TheVariants.{Repaired, Beyond}
use Rattle.exact.specs.Options.{at, NotLater}
use Rattle.exact.specs.Problem.{Covered}
use Rattle.exact.specs.Inner.{clears_on, Placed, Stuck, FitOn, BufferFits, Ahead, Bettered, SomeCovered, SomeLeft, Tabled}
use Rattle.exact.specs.Exact.{is_found, decided, directions_found, HoldsFound}
use Rattle.exact.proofs.Crossings.{clear_largest, inner_largest, start_at, crossing, facing}
use Rattle.exact.proofs.Cover.{some_pair}
use Rattle.exact.proofs.Options.{later_then}
use Rattle.exact.proofs.Pairs.{stuck_none}
use Rattle.plans.proofs.Spares.{plan_clear, plan_spares}

-- the order of lists, by index
pub after_later : (xs ys : List ℕ) → length xs ≡ length ys → NotAfter xs ys → NotLater (length xs) (at xs) (at ys)
after_later [] ys h n = inl (λ j l. absurd (not-suc-le-zero l))
after_later (x ∷ xs) [] h n = absurd n
after_later (x ∷ xs) (y ∷ ys) h (inl l) = inr (record {
  i = 0;
  below = omega arith;
  before = λ j m. absurd
      (not-suc-le-zero m);
  more = l;
})
after_later (x ∷ xs) (y ∷ ys) h (inr (e, n)) = on (after_later xs ys (omega (arith, h)) n)
  where
    first : {k : ℕ} → ((j : ℕ) → j < k → at ys j ≡ at xs j) → (j : ℕ) → j < suc k → at (y ∷ ys) j ≡ at (x ∷ xs) j
    first f zero l = sym e
    first f (suc j) l = f j (le_of_suc-le-suc l)

    on : NotLater (length xs) (at xs) (at ys) → NotLater (suc (length xs)) (at (x ∷ xs)) (at (y ∷ ys))
    on (inl f) = inl (first f)
    on (inr w) = inr (record {
      i = suc w.i;
      below = omega (arith, w.below);
      before = first w.before;
      more = w.more;
    })

-- neither of two is later: they are the same
pub never_later : {count : ℕ} {a b : ℕ → ℕ} → NotLater count a b → NotLater count b a → (j : ℕ) → j < count → b j ≡
    a j
never_later (inl e) n j l = e j l
never_later (inr w) n j l = let z = later_then w n in absurd (omega (arith, z.more))

None≢Some : {b : List ℕ} → None ≡ Some b → ⊥
None≢Some e = cc

module _ (n m : ℕ) (grid : List ℕ) where
  abbrev fs : List ℕ
  fs = faults n m grid

  ways : (xs : List ℕ) → Plan n m grid xs → (k : ℕ) → k < length fs → (1 ≤ at xs k) × (at xs k ≤ 4)
  ways xs p k l = p.one_path.straight k (omega (arith, p.one_path.one_each))

  within : (k : ℕ) → k < length fs → inner n m (at fs k) ≡ true
  within k l = (and_true (inner n m (at fs k)) _ (fault_hit n m grid k l).passes).0

  module _ (placed : Placed n m fs) (table : List Bool) (tabled : Tabled n m grid fs table) where
    -- two faults' paths are clear on this array exactly where they are on the largest
    same_clear : (i j d e : ℕ) → i < length fs → j < length fs → (i ≡ j → ⊥) → (1 ≤ d) × (d ≤ 4) → (1 ≤ e) × (e ≤ 4)
        → clear n m (at fs i) d (at fs j) e ≡ clears_on fs i d j e
    same_clear i j d e h l ne x y =
        clear_largest n m (at fs i) d (at fs j) e (start_at placed i (at fs i) d h refl x.0 x.1)
        (start_at placed j (at fs j) e l refl y.0 y.1) (ascending_distinct fs placed.ascend i j ne h l)

    -- a plan by the list of the faults is one by their numbers
    pub plan_fit : (xs : List ℕ) → Plan n m grid xs → FitOn fs table (at xs)
    plan_fit xs p =
        let many : length xs ≡ length fs = p.one_path.one_each in
        let ahead : (i j : ℕ) → i < j → j < length fs → clears_on fs i (at xs i) j (at xs j) ≡ true
        = λ i j l h.
        sym
        (same_clear i j (at xs i) (at xs j) (omega arith) h (λ e. omega arith) (ways xs p i (omega arith)) (ways xs p
        j h))
        ∙ plan_clear n m grid xs p i j l h in
        record {
          straight = ways xs p;
          open_path = λ k l.
              let s = ways xs p k l in
              tabled k (at xs k) l s.0 s.1 ∙ p.open_path k (omega arith);
          apart = λ i j h l ne.
              by_lt i j (λ b. ahead i j b l)
              (λ b. clear_comm 30 30 (at fs i) (at xs i) (at fs j) (at xs j) ∙ ahead j i (omega arith) h);
        }

    fit_plan : (best : List ℕ) → length fs ≤ length best → FitOn fs table (at best) → Plan n m grid (take (length
        fs) best)
    fit_plan best room f =
        let front = take (length fs) best in
        let many : length front ≡ length fs = length-take-le (length fs) best room in
        let same : (k : ℕ) → k < length fs → at front k ≡ at best k = λ k l. get_or-take (length fs) best k 0 l in
        let far : (i j : ℕ) → i < j → j < length fs
        → (meet n m (at fs i) (at front i) (at fs j) (at front j) ≡ false)
        × (near_miss (at fs i) (at front i) (at fs j) (at front j) ≡ false)
        = λ i j h l.
        let g : i < length fs = omega arith in
        let ne : i ≡ j → ⊥ = λ e. omega arith in
        clear_neither n m (at fs i) (at front i) (at fs j) (at front j)
        ((λ z. clear n m (at fs i) (same i g z) (at fs j) (same j l z))
        ∙ same_clear i j (at best i) (at best j) g l ne (f.straight i g) (f.straight j l)
        ∙ f.apart i j g l ne) in
        record {
          one_path = record {
            one_each = many;
            straight = λ k l.
                let s = f.straight k (omega arith) in
                let e = same k (omega arith) in
                (omega arith, omega arith);
          };
          open_path = λ k l.
              let b : k < length fs = omega arith in
              let s = f.straight k b in
              ap (is_open n m grid (at fs k)) (same k b) ∙ sym (tabled k (at best k) b s.0 s.1) ∙ f.open_path
              k b;
          no_meeting = λ i j h l. (far i j h (omega arith)).0;
          no_near_miss = λ i j h l. (far i j h (omega arith)).1;
        }

    some : (q : ℕ → ℕ) (b : Bool) (i j : ℕ) → Covered (length fs) (at fs) q b i j → SomeCovered b fs q
    some q b i j c =
        record {
          k = i;
          below = omega (arith, c.a_within);
          is = record { k = j; below = omega (arith, c.b_within); is = c };
        }

    by_side : (q : ℕ → ℕ) (b : Bool) (i j : ℕ) → Covered (length fs) (at fs) q b i j → SomeLeft fs q
    by_side q false i j c = inl (some q false i j c)
    by_side q true i j c = inr (some q true i j c)

    -- every plan is left by some pair
    all_left : (q : ℕ → ℕ) → FitOn fs table q → SomeLeft fs q
    all_left q f =
        let large : (k : ℕ) → k < length fs → inner 30 30 (at fs k) ≡ true
        = λ k l. inner_largest n m (at fs k) placed.rows placed.columns (placed.inside k l) in
        let places : (k : ℕ) → k < length fs → Inner 30 30 (at fs k) = λ k l. inner_holds 30 30 (at fs k) (large k l) in
        let p =
        some_pair (length fs) (at fs) q (λ k l. way (q k) (f.straight k l).0 (f.straight k l).1)
        (λ k l. let i = places k l in (omega arith, omega arith))
        (λ k l. let i = places k l in (omega arith, omega arith))
        (crossing 30 30 (omega arith) (omega arith) (length fs) (at fs) q large f.apart)
        (facing 30 30 (omega arith) (omega arith) (length fs) (at fs) q large f.apart) in
        by_side q p.by_columns p.a p.b p.covered

    module _ {best : Option (List ℕ)} (both : Bettered fs table (SomeLeft fs) None best) where
      fit : (b : List ℕ) → best ≡ Some b → BufferFits fs table b
      fit = both.plans (λ b n. absurd (None≢Some n))

      room : (b : List ℕ) → best ≡ Some b → length fs ≤ length b
      room b e = omega (arith, placed.short, (fit b e).0)

      best_plan : (b : List ℕ) → best ≡ Some b → Plan n m grid (take (length fs) b)
      best_plan b e = fit_plan b (room b e) (fit b e).1

      ahead : (xs : List ℕ) → FirstPlan n m grid xs → Ahead (length fs) best (at xs)
      ahead xs f = let fit = plan_fit xs f.is_plan in both.added (at xs) fit (all_left (at xs) fit)

      first_best : (b : List ℕ) → best ≡ Some b → (xs : List ℕ) → FirstPlan n m grid xs → take (length fs) b ≡ xs
      first_best b e xs f =
          let p = best_plan b e in
          let front = take (length fs) b in
          let many : length front ≡ length fs = length-take-le (length fs) b (room b e) in
          let wide : length xs ≡ length fs = f.is_plan.one_path.one_each in
          let l : NotLater (length fs) (at xs) (at front)
          = subst (λ (k : ℕ). NotLater k (at xs) (at front)) wide (after_later xs front (wide ∙ sym many) (f.none_before front p)) in
          let a : NotLater (length fs) (at b) (at xs) = subst (λ (o : Option (List ℕ)). Ahead (length fs) o (at xs)) e (ahead xs f) in
          let g : NotLater (length fs) (at front) (at xs) = front_not_later b (at xs) a in
          ext_get_or 0 front xs (many ∙ sym wide) (λ j k. never_later l g j (omega arith))
        where
          front_not_later : (b : List ℕ) (q : ℕ → ℕ) → NotLater (length fs) (at b) q
              → NotLater (length fs) (at (take (length fs) b)) q
          front_not_later b q (inl e) = inl (λ j l. e j l ∙ sym (get_or-take (length fs) b j 0 l))
          front_not_later b q (inr w) =
              inr (record {
                i = w.i;
                below = w.below;
                before = λ j l. w.before j l ∙ sym (get_or-take (length fs) b j 0 (omega (arith, w.below)));
                more = let z = get_or-take (length fs) b w.i 0 w.below in omega (arith, w.more);
              })

      pub best_found : (is_some best ≡ is_found (planned n m grid))
          × IfSome best (λ b. HoldsFound (planned n m grid) (take (length fs) b))
      best_found = by (planned n m grid) refl best refl
        where
          by : (s : Search) → planned n m grid ≡ s → (o : Option (List ℕ)) → best ≡ o
              → (is_some o ≡ is_found s) × IfSome o (λ b. HoldsFound s (take (length fs) b))
          by (found k xs) e None z = absurd (subst (λ (o : Option (List ℕ)). Ahead (length fs) o (at xs)) z (ahead xs (trial_rule.first_of_plans n m k grid xs e)))
          by (found k xs) e (Some b) z = (refl, first_best b z xs (trial_rule.first_of_plans n m k grid xs e))
          by (exhausted k) e None z = (refl, tt)
          by (exhausted k) e (Some b) z =
              let p = best_plan b z in
              absurd (plan_not_blocked n m grid _ p (trial_rule.none_found n m k grid e _ p.one_path))

-- where there is no plan the trials find none
none_by : (front : List ℕ) (s : Search) → ((k : ℕ) (xs : List ℕ) → s ≡ found k xs → ⊥) → (false ≡ is_found s) ×
    HoldsFound s front
none_by front (found k xs) none = absurd (none k xs refl)
none_by front (exhausted k) none = (refl, tt)

pub none_found : (n m : ℕ) (grid front : List ℕ) → ((xs : List ℕ) → Plan n m grid xs → ⊥)
    → (false ≡ is_found (planned n m grid)) × HoldsFound (planned n m grid) front
none_found n m grid front none =
    none_by front (planned n m grid) (λ k xs e. none xs (trial_rule.first_of_plans n m k grid xs e).is_plan)

-- The parts, where these are the starts of the faults.
module _ (n m : ℕ) (grid starts : List ℕ) (table : List Bool) (e : starts ≡ faults n m grid) (placed : Placed n m starts)
    (tabled : Tabled n m grid starts table) where
  here : Placed n m (faults n m grid)
  here = subst (λ (l : List ℕ). Placed n m l) e placed

  listed : Tabled n m grid (faults n m grid) table
  listed = subst (λ (l : List ℕ). Tabled n m grid l table) e tabled

  pub stuck_found : Stuck (length starts) table → (front : List ℕ)
      → (false ≡ is_found (planned n m grid)) × HoldsFound (planned n m grid) front
  stuck_found s front =
      none_found n m grid front
      (λ xs p.
      stuck_none (faults n m grid) table (subst (λ (l : List ℕ). Stuck (length l) table) e s) (at xs)
      (plan_fit n m grid here table listed xs p))

  pub best_of : {best : Option (List ℕ)} → Bettered starts table (SomeLeft starts) None best
      → (is_some best ≡ is_found (planned n m grid))
      × IfSome best (λ b. HoldsFound (planned n m grid) (take (length starts) b))
  best_of {best} =
      subst
      (λ (l : List ℕ).
      Bettered l table (SomeLeft l) None best
      → (is_some best ≡ is_found (planned n m grid)) × IfSome best (λ b. HoldsFound (planned n m grid) (take (length l) b)))
      (sym e) (λ x. best_found n m grid here table listed x)

-- the faults, where they are few
pub faults_placed : (n m : ℕ) (grid starts : List ℕ) → starts ≡ faults n m grid → n ≤ 30 → m ≤ 30 → length starts ≤ 128
    → Placed n m starts
faults_placed n m grid starts e a b h =
    record {
      rows = a;
      columns = b;
      short = h;
      inside =
          subst (λ (l : List ℕ). (k : ℕ) → k < length l → inner n m (get_or l k 0) ≡ true) (sym e)
          (λ i l. (and_true (inner n m (get_or (faults n m grid) i 0)) _ (fault_hit n m grid i l).passes).0);
      ascend = subst (λ (l : List ℕ). (i j : ℕ) → i < j → j < length l → get_or l i 0 < get_or l j 0) (sym e)
          (faults_rise n m grid);
    }

-- the buffer written
pub written_found : (starts front : List ℕ) (s : Search) → HoldsFound s front
    → cond (is_found s) (buffer (direction_of (paired starts front))) zeros ≡ directions_found starts s
unfolding directions_found
written_found starts front (found k xs) h = ap (λ (l : List ℕ). buffer (direction_of (paired starts l))) h
written_found starts front (exhausted k) h = refl

pub found_written : (n m : ℕ) (grid starts best directions : List ℕ) (f : Bool) → starts ≡ faults n m grid
    → f ≡ is_found (planned n m grid) → HoldsFound (planned n m grid) (take (length starts) best)
    → directions ≡ cond f (buffer (direction_of (paired starts (take (length starts) best)))) zeros
    → directions ≡ directions_found (faults n m grid) (planned n m grid)
found_written n m grid starts best directions f e p h q =
    q ∙ ap (λ (b : Bool). cond b (buffer (direction_of (paired starts (take (length starts) best)))) zeros) p
    ∙ written_found starts (take (length starts) best) (planned n m grid) h
    ∙ ap (λ (l : List ℕ). directions_found l (planned n m grid)) e

pub none_written : (starts : List ℕ) (s : Search) → false ≡ is_found s → zeros ≡ directions_found starts s
unfolding directions_found
none_written starts (found k xs) e = absurd (false≢true e)
none_written starts (exhausted k) e = refl

-- more faults than spares
pub too_many : (n m : ℕ) (grid starts : List ℕ) → starts ≡ faults n m grid → n ≤ 30 → m ≤ 30 → 2 * (n + m) < length
    starts
    → (false ≡ is_found (planned n m grid)) × (zeros ≡ directions_found (faults n m grid) (planned n m grid))
too_many n m grid starts e a b h =
    let none = none_found n m grid [] (λ xs p. omega (arith, plan_spares n m grid xs a b p, h, ap length e)) in (
      none.0,
      ap (λ (f : Bool). cond f (buffer (direction_of (paired (faults n m grid) []))) zeros) none.0
          ∙ written_found (faults n m grid) [] (planned n m grid) none.1,
    )

-- what is answered
pub decided_found : (s : Search) {r : Bool} → r ≡ is_found s → r ≡ true → Repaired ≡ decided s
unfolding decided
decided_found (found k xs) e h = refl
decided_found (exhausted k) e h = absurd (false≢true (sym e ∙ h))

pub decided_none : (s : Search) {r : Bool} → r ≡ is_found s → r ≡ false → Beyond ≡ decided s
unfolding decided
decided_none (exhausted k) e h = refl
decided_none (found k xs) e h = absurd (false≢true (sym h ∙ e))
