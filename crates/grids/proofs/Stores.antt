-- What a list holds after a run of stores.
-- Assumes nothing.
use Prim.Native.Nat.{ℕ, zero, suc, ◌+◌, ◌<◌, ◌≤◌}
use mathlib.Core.Path.{◌≡◌, refl, sym, ap, ◌∙◌}
use mathlib.Core.List.{List, [], ◌∷◌}
use native.Mathlib.Omega.{arith}
use native.Mathlib.Nat.{add-zero, not-suc-le-zero, le_of_suc-le-suc}
use lib.ListN.{length, get_or, set, length-set}
use Rattle.std.proofs.lemmas.Slice.{put_mid-paste}
use borrow.Rule.Slice.PartMut.{put_mid}
use Rattle.std.proofs.lemmas.List.Edits.{sets-eq}
use Rattle.std.proofs.Math.Seq.{take-length}
use lib.Seq.{sets, get_or-set_same, get_or-set_other}

pub sets_other : (vs l : List ℕ) (i p d : ℕ) → ((k : ℕ) → k < length vs → p ≡ i + k → ⊥) → get_or (sets l i vs) p d ≡ get_or l p d
sets_other [] l i p d h = refl
sets_other (a ∷ vs) l i p d h =
    sets_other vs (set l i a) (suc i) p d (λ k g e. h (suc k) (omega arith) (omega arith))
    ∙ get_or-set_other l i p a d (λ e. h 0 (omega arith) (omega arith))

pub sets_at : (vs l : List ℕ) (i k d : ℕ) → k < length vs → i + k < length l → get_or (sets l i vs) (i + k) d ≡ get_or vs k d
sets_at [] l i k d h g = absurd (not-suc-le-zero h)
sets_at (a ∷ vs) l i zero d h g =
    ap (λ (j : ℕ). get_or (sets (set l i a) (suc i) vs) j d) (add-zero i)
    ∙ sets_other vs (set l i a) (suc i) i d (λ k f e. omega arith)
    ∙ get_or-set_same l i a d (omega arith)
sets_at (a ∷ vs) l i (suc k) d h g =
    let e : i + suc k ≡ suc i + k = omega arith in
    let f = length-set l i a in
    ap (λ (j : ℕ). get_or (sets (set l i a) (suc i) vs) j d) e ∙ sets_at vs (set l i a) (suc i) k d (le_of_suc-le-suc h) (omega arith)

-- a run of stores as one write of a part
pub part_stored :
    (xs : List ℕ) (a k : ℕ) (ys zs : List ℕ) → ys ≡ zs → length zs ≡ k → a + length zs ≤ length xs → put_mid a k xs ys ≡ sets xs a zs
part_stored xs a k ys zs e h l =
    put_mid-paste a k xs ys zs (length zs) e h refl ∙ rw (take-length zs) refl ∙ sym (sets-eq zs xs a l)
