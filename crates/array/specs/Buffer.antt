-- Document 01, "The array": buffers of 1,024 elements indexed by position, as lists.
-- Assumes nothing.
use Rattle.std.specs.Prelude.{ℕ, zero, suc, ◌<◌, ◌≡◌, Bool, true, cond, ◌&&◌, List, [], ◌∷◌, eqb, length, get_or}
use Rattle.array.specs.Tests.{Verdict}
use Rattle.std.specs.Prelude.{Ok, Err}

-- f i, f (i + 1), .. of k places
unfoldable pub span : (ℕ → ℕ) → ℕ → ℕ → List ℕ
span f i zero = []
span f i (suc k) = f i ∷ span f (suc i) k

-- f 0, f 1, .. f (n - 1)
abbrev pub tabulate : (ℕ → ℕ) → ℕ → List ℕ
tabulate f n = span f 0 n

-- the whole buffer that holds f p at position p
abbrev pub buffer : (ℕ → ℕ) → List ℕ
buffer f = tabulate f 1024

abbrev pub nothing_at : ℕ → ℕ
nothing_at p = 0

-- 0 in the whole buffer
abbrev pub zeros : List ℕ
zeros = buffer nothing_at

-- the positions, from i on, whose element passes a test, ascending: document 01's row order
unfoldable pub positions_along : (ℕ → ℕ → Bool) → ℕ → List ℕ → List ℕ
positions_along t i [] = []
positions_along t i (x ∷ xs) = cond (t i x) (i ∷ positions_along t (suc i) xs) (positions_along t (suc i) xs)

abbrev pub positions_in : (ℕ → ℕ → Bool) → List ℕ → List ℕ
positions_in t b = positions_along t 0 b

-- each of these positions is below those after it
abbrev pub Ascending : List ℕ → Type 0
Ascending ps = (i j : ℕ) → i < j → j < length ps → get_or ps i 0 < get_or ps j 0

-- where a number stands in a list
pub record Index (l : List ℕ) (p : ℕ) : Type 0 where
  pub k : ℕ
  pub below : k < length l
  pub is : get_or l k 0 ≡ p

-- a list has the positions that pass a test, each once
pub record Lists (test : ℕ → Bool) (ps : List ℕ) : Type 0 where
  pub each : (k : ℕ) → k < length ps → test (get_or ps k 0) ≡ true
  pub all : (p : ℕ) → test p ≡ true → Index ps p
  pub once : (i j : ℕ) → i < j → j < length ps → get_or ps i 0 ≡ get_or ps j 0 → ⊥

-- a buffer has exactly 1,024 elements
abbrev pub long : List ℕ → Bool
long b = eqb (length b) 1024

abbrev pub all_long : List (List ℕ) → Bool
all_long [] = true
all_long (b ∷ bs) = long b && all_long bs

-- a buffer after a call: what is written where the call is accepted, else as it was
abbrev pub written : Verdict → List ℕ → List ℕ → List ℕ
written (Ok tt) new old = new
written (Err r) new old = old
