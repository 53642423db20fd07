-- What is proved of the exact planner's rule: the statements (docs/EXACT.md). `TwoOptions` and `NothingLost` are about
-- rows and columns alone, `NarrowingKeeps` is over any symmetric test of two paths; `PathsApart` is about the paths of
-- document 01.
-- Assumes nothing.
use Rattle.std.specs.Prelude.{ℕ, ◌≤◌, ◌<◌, ◌≡◌, Bool, true}
use Rattle.array.specs.Place.{row, column, inner}
use Rattle.paths.specs.Path.{clear}
use Rattle.exact.specs.Masks.{leaves, tried}
use Rattle.exact.specs.Options.{Apart, Solution, Narrowed}
use Rattle.exact.specs.Problem.{Crossing, Facing, SomePair}
use Rattle.exact.specs.Inner.{Closed}

-- a pair that is tried leaves no fault three directions
abbrev pub TwoOptions : Type 0
TwoOptions =
    (columns : Bool) (a b p d e f : ℕ) → tried columns a b ≡ true → 1 ≤ d → d < e → e < f → f ≤ 4
    → leaves columns a b p d ≡ true → leaves columns a b p e ≡ true → leaves columns a b p f ≡ true → ⊥

-- some pair that is tried leaves every fault the direction that it has, where paths do not cross or run into each other
abbrev pub NothingLost : Type 0
NothingLost =
    (count : ℕ) (starts q : ℕ → ℕ) → ((k : ℕ) → k < count → (1 ≤ q k) × (q k ≤ 4))
    → ((k : ℕ) → k < count → (1 ≤ row (starts k)) × (row (starts k) ≤ 30))
    → ((k : ℕ) → k < count → (1 ≤ column (starts k)) × (column (starts k) ≤ 30))
    → Crossing count (λ k. row (starts k)) (λ k. column (starts k)) q
    → Facing count (λ k. row (starts k)) (λ k. column (starts k)) q
    → SomePair count starts q

-- and the paths of a plan do not
abbrev pub PathsApart : Type 0
PathsApart =
    (n m count : ℕ) (starts q : ℕ → ℕ) → n ≤ 30 → m ≤ 30 → ((k : ℕ) → k < count → inner n m (starts k) ≡ true)
    → Apart count (λ i d j e. clear n m (starts i) d (starts j) e) q
    → Crossing count (λ k. row (starts k)) (λ k. column (starts k)) q × Facing count (λ k. row (starts k)) (λ k. column (starts k)) q

pub record SomeSolution (count : ℕ) (clears : ℕ → ℕ → ℕ → ℕ → Bool) (lo hi : ℕ → ℕ) : Type 0 where
  pub q : ℕ → ℕ
  pub is : Solution count clears lo hi q

-- Two options each, some narrowed to one, and every fault that has one closed: where there was a solution there still is one.
abbrev pub NarrowingKeeps : Type 0
NarrowingKeeps =
    (count : ℕ) (clears : ℕ → ℕ → ℕ → ℕ → Bool) → ((i d j e : ℕ) → clears i d j e ≡ clears j e i d)
    → (lo hi lo' hi' : ℕ → ℕ) → Narrowed count lo hi lo' hi' → Closed count clears lo' hi'
    → SomeSolution count clears lo hi → SomeSolution count clears lo' hi'
