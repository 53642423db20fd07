-- The notes on open and closed paths: what a note says, and that writing a right one keeps them right.
-- Assumes nothing.
use Prim.Native.Nat.{ℕ, ◌+◌, ◌-◌, ◌*◌, ◌≤◌, ◌<◌}
use mathlib.Core.Path.{◌≡◌, refl, ap, ◌∙◌}
use mathlib.Core.Bool.{Bool, true, false, cond}
use mathlib.Core.List.{List}
use native.Mathlib.Omega.{arith}
use lib.Dec.{eqb}
use lib.ListN.{length, get_or, set, length-set, replicate, length-replicate, get_or-replicate}
use lib.Seq.{get_or-set_same, get_or-set_other}
use Rattle.array.proofs.Bools.{by_eq}
use Rattle.paths.specs.Path.{is_open}
use Rattle.trials.specs.Inner.{Notes, Noted}

-- a note that is there says whether the path is open
pub note_says : (note : ℕ) (opens : Bool) → Notes note opens → (note ≡ 0 → ⊥) → eqb note 2 ≡ opens
note_says note opens s h = ap (λ (k : ℕ). eqb k 2) (s h) ∙ by opens
  where
    by : (b : Bool) → eqb (cond b 2 1) 2 ≡ b
    by true = refl
    by false = refl

-- nothing is noted yet
pub none_noted : {n m : ℕ} {grid starts : List ℕ} (len : ℕ) → 4 * length starts ≤ len → Noted n m grid starts (replicate len 0)
none_noted {starts = starts} len h =
    record {
      room = omega (arith, length-replicate {A = ℕ} len 0);
      right = λ k d l a b.
          let within : 4 * k + d - 1 < len = omega arith in
          λ h. absurd (h (get_or-replicate len (4 * k + d - 1) 0 0 within));
    }

module _ {n m : ℕ} {grid starts notes : List ℕ} (s : Noted n m grid starts notes) where
  pub noted_set : (k d note : ℕ) → k < length starts → 1 ≤ d → d ≤ 4 → note ≡ cond (is_open n m grid (get_or starts k 0) d) 2 1
      → Noted n m grid starts (set notes (4 * k + d - 1) note)
  noted_set k d note h a b e =
      record { room = omega (arith, s.room, length-set notes (4 * k + d - 1) note); right = right }
    where
      i : ℕ
      i = 4 * k + d - 1

      within : i < length notes
      within = omega (arith, s.room)

      Right : ℕ → ℕ → Type 0
      Right l f = Notes (get_or (set notes i note) (4 * l + f - 1) 0) (is_open n m grid (get_or starts l 0) f)

      right : (l f : ℕ) → l < length starts → 1 ≤ f → f ≤ 4 → Right l f
      right l f g c u =
          by_eq (4 * l + f - 1) i
          (λ z.
          let x : l ≡ k = omega (arith, z) in
          let y : f ≡ d = omega (arith, z) in
          rw (x, y, get_or-set_same notes i note 0 within) (λ _. e))
          (λ z. rw (get_or-set_other notes i (4 * l + f - 1) note 0 z) (s.right l f g c u))
