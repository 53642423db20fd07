-- What the library's comparison of two lists says of the order of directions.
-- Assumes nothing.
use Rattle.std.proofs.Common.{ℕ, zero, suc, ◌≡◌, ◌<◌, ◌≤◌, refl, sym, ◌∙◌, Bool, true, false, cond, eqb, ltb, List, [], ◌∷◌, length, take, Some, ne_eqb, arith}
use mathlib.Core.Logic.{inl, inr}
use native.Mathlib.Nat.{le_of_suc-le-suc, not-suc-le-zero}
use borrow.Author.Tests.{lt-ltb, le-ltb, eq-eqb}
use lib.Seq.{get_or-take, length-take-le}
use Rattle.std.specs.Ordering.{nat_cmp, is_lt, is_some_and}
use Rattle.std.specs.Cmp.Lexicographic.{slice_partial_cmp}
use Rattle.std.proofs.lemmas.Cmp.{same_from_slice_cmp_tested}
use Rattle.std.proofs.lemmas.Bool.Decides.{nat_tests}
use Rattle.array.proofs.Bools.{by_eq, by_lt}
use Rattle.exact.specs.Options.{at, Later, NotLater}
use Rattle.exact.specs.Inner.{Judged}
use Rattle.exact.proofs.Striking.{judge_yes, judge_no}

abbrev less : List ℕ → List ℕ → Bool
less [] [] = false
less [] (y ∷ ys) = true
less (x ∷ xs) [] = false
less (x ∷ xs) (y ∷ ys) = cond (eqb x y) (less xs ys) (ltb x y)

is_less : (xs ys : List ℕ) (r : Bool) → r ≡ is_some_and is_lt (slice_partial_cmp (λ x y. Some (nat_cmp x y)) xs ys) → r ≡ less xs ys
is_less = same_from_slice_cmp_tested nat_cmp is_lt less refl (λ _ _. refl) (λ _ _. refl) (λ x y xs ys o h. grind (arith, nat_tests))

-- the same first element
module _ (x y : ℕ) (xs ys : List ℕ) (e : y ≡ x) where
  same_more : {k : ℕ} → ((j : ℕ) → j < k → at ys j ≡ at xs j) → (j : ℕ) → j < suc k → at (y ∷ ys) j ≡ at (x ∷ xs) j
  same_more f zero l = e
  same_more f (suc j) l = f j (le_of_suc-le-suc l)

  later_more : {n : ℕ} → Later n (at xs) (at ys) → Later (suc n) (at (x ∷ xs)) (at (y ∷ ys))
  later_more w = record { i = suc w.i; below = omega (arith, w.below); before = same_more w.before; more = w.more }

  not_later_more : {n : ℕ} → NotLater n (at xs) (at ys) → NotLater (suc n) (at (x ∷ xs)) (at (y ∷ ys))
  not_later_more (inl f) = inl (same_more f)
  not_later_more (inr w) = inr (later_more w)

-- another first element
later_first : {n : ℕ} (x y : ℕ) (xs ys : List ℕ) → x < y → Later (suc n) (at (x ∷ xs)) (at (y ∷ ys))
later_first x y xs ys l = record { i = 0; below = omega arith; before = λ j b. absurd (not-suc-le-zero b); more = l }

less_judged : (xs ys : List ℕ) → length xs ≡ length ys
    → Judged (less xs ys) (Later (length xs) (at xs) (at ys)) (NotLater (length xs) (at ys) (at xs))
less_judged [] [] h = judge_no (inl (λ j l. absurd (not-suc-le-zero l)))
less_judged [] (y ∷ ys) h = absurd (omega arith)
less_judged (x ∷ xs) [] h = absurd (omega arith)
less_judged (x ∷ xs) (y ∷ ys) h =
    let r = less_judged xs ys (omega arith) in
    by_eq x y
    (λ (e : x ≡ y).
    rw (eq-eqb x y e) (record {
      yes = λ t. later_more x y xs ys (sym e) (r.yes t);
      no = λ t. not_later_more y x ys xs e (r.no t);
    }))
    (λ o. rw (ne_eqb x y o)
    (by_lt x y (λ l. rw (lt-ltb x y l) (judge_yes (later_first x y xs ys l)))
    (λ l. rw (le-ltb x y l) (judge_no (inr (later_first y x ys xs (omega arith)))))))

-- and of their first elements
module _ (n : ℕ) (a b : List ℕ) where
  later_front : Later n (at (take n a)) (at (take n b)) → Later n (at a) (at b)
  later_front w = record {
    i = w.i;
    below = w.below;
    before = λ j l.
        let m : j < n = omega (arith, w.below) in
        sym (get_or-take n b j 0 m) ∙ w.before j l ∙ get_or-take n a j 0 m;
    more = omega (arith, w.more, get_or-take n a w.i 0 w.below, get_or-take n b w.i 0 w.below);
  }

  not_later_front : NotLater n (at (take n a)) (at (take n b)) → NotLater n (at a) (at b)
  not_later_front (inl f) = inl (λ j l. sym (get_or-take n b j 0 l) ∙ f j l ∙ get_or-take n a j 0 l)
  not_later_front (inr w) = inr (later_front w)

pub compared : (n : ℕ) (a b : List ℕ) → n ≤ length a → n ≤ length b → (r : Bool)
    → r ≡ is_some_and is_lt (slice_partial_cmp (λ x y. Some (nat_cmp x y)) (take n a) (take n b))
    → Judged r (Later n (at a) (at b)) (NotLater n (at b) (at a))
compared n a b x y r e =
    let s = is_less (take n a) (take n b) r e in
    let la = length-take-le n a x in
    let lb = length-take-le n b y in
    let j = less_judged (take n a) (take n b) (la ∙ sym lb) in
    let k : Judged (less (take n a) (take n b)) (Later n (at (take n a)) (at (take n b))) (NotLater n (at (take n b)) (at (take n a)))
    = rw la at j in
    record { yes = λ t. later_front n a b (k.yes (sym s ∙ t)); no = λ t. not_later_front n b a (k.no (sym s ∙ t)) }
