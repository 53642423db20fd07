-- The numbers of refusals are those of the documents: the laws of tests in order, and the tests 1 to 3.
-- Assumes nothing.
use Prim.Native.Nat.{ℕ, suc}
use mathlib.Core.Path.{◌≡◌}
use mathlib.Core.Bool.{Bool, true, false, cond, ◌&&◌}
use mathlib.Core.List.{List, [], ◌∷◌}
use borrow.Author.Tests.{leb-true}
use lib.Dec.{leb}
use Rattle.array.specs.Tests.{or_else, first_of, first_along, Told, accepts, refuses, told, last_number, Numbered}
use Rattle.array.specs.Map.{map_tests}
use Rattle.array.specs.Tests.{Verdict}
use Rattle.std.specs.Prelude.{Ok, Err}
use Rattle.array.proofs.Bools.{and_true}

-- `Numbered` as a test, which computes
abbrev pub in_range : Told → Bool
in_range (accepts values) = true
in_range (refuses k p q) = leb 1 k && leb k last_number

-- an answer, by what it tells
pub record NumberedAs {A : Type 0} (told : A → Told) (x : A) : Type 0 where
  pub numbered : Numbered (told x)

abbrev pub NumberedVerdict : Verdict → Type 0
NumberedVerdict = NumberedAs told

range_numbered : (t : Told) → in_range t ≡ true → Numbered t
range_numbered (accepts values) h = tt
range_numbered (refuses k p q) h =
    let x = and_true (leb 1 k) (leb k last_number) h in
    (leb-true 1 k x.0, leb-true k last_number x.1)

module _ {A : Type 0} {told : A → Told} where
  pub numbered_told : (x : A) → in_range (told x) ≡ true → NumberedAs told x
  numbered_told x h = record { numbered = range_numbered (told x) h }

  pub numbered_cond : (b : Bool) {x y : A} → NumberedAs told x → NumberedAs told y → NumberedAs told (cond b x y)
  numbered_cond true h g = h
  numbered_cond false h g = g

pub numbered_or : (a : Verdict) {b : Verdict} → NumberedVerdict a → NumberedVerdict b → NumberedVerdict (or_else a b)
numbered_or (Ok tt) h g = g
numbered_or (Err r) h g = h

pub numbered_each : {A : Type 0} (f : A → Verdict) → ((x : A) → NumberedVerdict (f x)) → (xs : List A)
    → NumberedVerdict (first_of f xs)
unfolding first_of
numbered_each f h [] = record { numbered = tt }
numbered_each f h (x ∷ xs) = numbered_or (f x) (h x) (numbered_each f h xs)

pub numbered_along : (f : ℕ → ℕ → Verdict) → ((p x : ℕ) → NumberedVerdict (f p x)) → (i : ℕ) (xs : List ℕ)
    → NumberedVerdict (first_along f i xs)
unfolding first_along
numbered_along f h i [] = record { numbered = tt }
numbered_along f h i (x ∷ xs) = numbered_or (f i x) (h i x) (numbered_along f h (suc i) xs)

-- the laws by which `search` proves this of tests
pub ruleset numbers = (numbered_told, numbered_cond, numbered_or, numbered_each, numbered_along)

pub map_numbered : (n m : ℕ) (right : Bool) (grid : List ℕ) → NumberedVerdict (map_tests n m right grid)
unfolding map_tests
map_numbered n m right grid = search numbers
