-- The tests of the rows: what they say at a place, and the first that is wrong over an index range.
-- Assumes nothing.
use Prim.Native.Nat.{ℕ, suc, ◌+◌, ◌-◌, ◌<◌, ◌≤◌}
use mathlib.Core.Path.{◌≡◌, refl, sym, ◌∙◌}
use mathlib.Core.Bool.{Bool, true, false, cond}
use native.Mathlib.Numerals.{add-one}
use native.Mathlib.Omega.{arith}
use Rattle.array.proofs.Scans.{Answers, ScanOf}
use Rattle.std.specs.declared.result.Result.TheVariants.{Err}
use Rattle.grids.specs.declared.wrong.Wrong.{Wrong}
use Rattle.grids.specs.Reading.{Judged, good, or_else, first_wrong}

-- The first wrong over an index range.
pub judgements : Answers good Err or_else
judgements = record { passes_on = λ later. refl; stays = λ w later. refl }

module _ (f : ℕ → Judged) (k : ℕ) where
  abbrev pub wrong_from : ℕ → Judged
  wrong_from i = first_wrong f i (k - i)

  pub wrong_turn : (i : ℕ) → i < k → wrong_from i ≡ or_else (f i) (wrong_from (i + 1))
  unfolding first_wrong
  wrong_turn i h = let e : k - i ≡ suc (k - (i + 1)) = omega arith in rw (e, add-one i)

  pub wrong_end : (i : ℕ) → k ≤ i → wrong_from i ≡ good
  unfolding first_wrong
  wrong_end i h = let e : k - i ≡ 0 = omega arith in rw e

  pub wrong_scan : ScanOf judgements f wrong_from k
  wrong_scan = record { turn = wrong_turn; end = wrong_end }

pub place_good : (p q : Bool) (l t : Judged) → (p ≡ true → l ≡ good) → t ≡ good → cond p (or_else (cond q l good) t) good ≡ good
place_good false q l t h g = refl
place_good true false l t h g = g
place_good true true l t h g = rw (h refl) g

-- the loop over the positions: a place that is good, one that is wrong, and the end
module _ (f : ℕ → Judged) (k i : ℕ) where
  pub wrong_pass : (r : Judged) → i < k → r ≡ f i → r ≡ good → wrong_from f k i ≡ wrong_from f k (i + 1)
  wrong_pass r h e g = let d : f i ≡ good = sym e ∙ g in wrong_turn f k i h ∙ rw d

  pub wrong_stop : (r : Judged) (w : Wrong) → i < k → r ≡ f i → r ≡ Err w → wrong_from f k i ≡ Err w
  wrong_stop r w h e g = let d : f i ≡ Err w = sym e ∙ g in wrong_turn f k i h ∙ rw d
