-- The kept paths of a plan that a counter counts are no more than the plan's faults, and these no more than the spares.
-- Assumes nothing.
use Rattle.std.specs.Prelude.{Ok}
use Prim.Native.Nat.{ℕ, suc, ◌+◌, ◌*◌, ◌≤◌, ◌<◌}
use mathlib.Core.Path.{◌≡◌, refl, sym, ap, subst, ◌∙◌}
use mathlib.Core.Bool.{Bool, true, false, cond, false≢true}
use mathlib.Core.List.{List, [], ◌∷◌}
use native.Mathlib.Omega.{arith}
use native.Mathlib.Nat.{suc-ne-zero, add-zero, zero-add, add-suc, suc-add}
use lib.ListN.{length, get_or}
use Rattle.array.specs.Buffer.{positions_along, positions_in}
use Rattle.array.specs.Map.{inner_faulty, inner_fault}
use Rattle.array.proofs.Bools.{by_bool}
use Rattle.array.proofs.Marks.{inner_fault_read}
use Rattle.plans.specs.Faults.{faults}
use Rattle.plans.specs.Check.{check_plan}
use Rattle.plans.proofs.Accepts.{accepts_plans}
use Rattle.plans.proofs.Spares.{plan_spares}
use Rattle.counters.specs.Count.{counts}
use Rattle.counters.specs.Inner.{Kept}
use Rattle.counters.proofs.Tallies.{no_path_counts}
use Rattle.sessions.proofs.Stood.{map_formed, started}

-- one position, of two lists that are otherwise no longer one than the other
one_more : (i : ℕ) (a b : Bool) (r s : List ℕ) → (a ≡ true → b ≡ true) → length r ≤ length s
    → length (cond a (i ∷ r) r) ≤ length (cond b (i ∷ s) s)
one_more i false false r s f h = h
one_more i false true r s f h = omega arith
one_more i true true r s f h = omega arith
one_more i true false r s f h = absurd (false≢true (f refl))

along_fewer : (t u : ℕ → ℕ → Bool) (i : ℕ) (b c : List ℕ) → length b ≡ length c
    → ((k : ℕ) → k < length b → t (i + k) (get_or b k 0) ≡ true → u (i + k) (get_or c k 0) ≡ true)
    → length (positions_along t i b) ≤ length (positions_along u i c)
unfolding positions_along
along_fewer t u i [] c e h = omega arith
along_fewer t u i (x ∷ xs) [] e h = absurd (suc-ne-zero (length xs) e)
along_fewer t u i (x ∷ xs) (y ∷ ys) e h =
    one_more i (t i x) (u i y) (positions_along t (suc i) xs) (positions_along u (suc i) ys)
    (rw (add-zero i) at (h 0 (omega arith)))
    (along_fewer t u (suc i) xs ys (omega arith)
    (λ k l. rw (sym (suc-add i k ∙ sym (add-suc i k))) at (h (suc k) (omega arith))))

-- where the test of one buffer implies that of another at each position, no more positions pass it
pub count_fewer : (t u : ℕ → ℕ → Bool) (b c : List ℕ) → length b ≡ length c
    → ((p : ℕ) → p < length b → t p (get_or b p 0) ≡ true → u p (get_or c p 0) ≡ true)
    → length (positions_in t b) ≤ length (positions_in u c)
count_fewer t u b c e h =
    along_fewer t u 0 b c e
    (λ k l. subst (λ (j : ℕ). t j (get_or b k 0) ≡ true → u j (get_or c k 0) ≡ true) (sym (zero-add k)) (h k l))

module _ (n m : ℕ) (grid directions : List ℕ) (h : check_plan n m grid directions ≡ Ok tt) (d p : ℕ) where
  tall : length grid ≡ 1024
  tall = (map_formed n m grid directions h).length_is

  wide : length directions ≡ 1024
  wide = (started n m grid directions h).long

  -- what counts starts at an inner fault
  counted_fault : (q : ℕ) → q < length directions → counts n m d p q (get_or directions q 0) ≡ true
      → inner_faulty n m q (get_or grid q 0) ≡ true
  counted_fault q l c =
      let w = wide in
      let e = inner_fault_read n m grid q (omega (arith, tall)) in
      by_bool (inner_fault n m grid q) (λ f. sym e ∙ f)
      (λ f.
      let z = ((accepts_plans n m grid directions).0 h).elsewhere q (omega arith) f in
      absurd (false≢true (sym (ap (counts n m d p q) z ∙ no_path_counts n m d p q) ∙ c)))

  pub few_count : length (positions_in (counts n m d p) directions) ≤ 2 * (n + m)
  unfolding faults
  few_count =
      let z = (map_formed n m grid directions h).sizes in
      let a = count_fewer (counts n m d p) (inner_faulty n m) directions grid (wide ∙ sym tall) counted_fault in
      let b = plan_spares n m grid _ z.rows_high z.columns_high ((accepts_plans n m grid directions).0 h).plan in
      omega (arith, a, b)

pub kept : (n m : ℕ) (grid directions : List ℕ) → check_plan n m grid directions ≡ Ok tt → Kept n m directions
kept n m grid directions h =
    let s = started n m grid directions h in
    let z = (map_formed n m grid directions h).sizes in
    record {
      long = s.long;
      each = s.each;
      few = λ d p. omega (arith, few_count n m grid directions h d p, z.rows_high, z.columns_high);
    }
