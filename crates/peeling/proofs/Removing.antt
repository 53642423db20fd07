-- The law of the loop that takes one element out of a list.
-- Assumes nothing.
use Prim.Native.Nat.{ℕ, suc, ◌+◌, ◌-◌, ◌≤◌, ◌<◌}
use mathlib.Core.Path.{◌≡◌, refl, sym, ap, ◌∙◌}
use mathlib.Core.List.{List}
use native.Mathlib.Numerals.{add-one}
use native.Mathlib.Omega.{arith}
use borrow.Author.Count.{below_more}
use lib.ListN.{length, get_or, set, take, drop, length-append, length-drop, length-set, get_or-append}
use lib.Seq.{ext_get_or, get_or-set_same, get_or-set_other, get_or-append-add, get_or-take, get_or-drop, length-take-le}
use Rattle.peeling.specs.Inner.{without}

without_length : (k : ℕ) (l : List ℕ) → k < length l → length (without k l) ≡ length l - 1
without_length k l h =
    omega (arith, length-append (take k l) (drop (suc k) l), length-take-le k l (omega arith), length-drop (suc k) l)

module _ (k : ℕ) (l : List ℕ) (h : k < length l) (i : ℕ) where
  short : length (take k l) ≡ k
  short = length-take-le k l (omega arith)

  without_before : i < k → get_or (without k l) i 0 ≡ get_or l i 0
  without_before a = get_or-append (take k l) (drop (suc k) l) 0 i (omega (arith, short)) ∙ get_or-take k l i 0 a

  without_after : k ≤ i → get_or (without k l) i 0 ≡ get_or l (suc i) 0
  without_after a =
      let e : i ≡ length (take k l) + (i - k) = omega (arith, short) in
      let z : suc k + (i - k) ≡ suc i = omega arith in
      ap (λ (j : ℕ). get_or (without k l) j 0) e
      ∙ get_or-append-add (take k l) (drop (suc k) l) (i - k) 0
      ∙ get_or-drop (suc k) l (i - k) 0
      ∙ ap (λ (j : ℕ). get_or l j 0) z

-- The invariant of the loop: the first k places hold what they shall, and the others what they held.
pub record Removing (at : ℕ) (old : List ℕ) (k : ℕ) (new : List ℕ) : Type 0 where
  pub from : at ≤ k
  pub within : k < length old
  pub long : length new ≡ length old
  pub shifted : (i : ℕ) → i < k → get_or new i 0 ≡ get_or (without at old) i 0
  pub still : (i : ℕ) → k ≤ i → get_or new i 0 ≡ get_or old i 0

pub remove_start : (at : ℕ) (old : List ℕ) → at < length old → Removing at old at old
remove_start at old h =
    record {
      from = omega arith;
      within = h;
      long = refl;
      shifted = λ i l. sym (without_before at old h i l);
      still = λ i l. refl;
    }

module _ {at : ℕ} {old : List ℕ} {k : ℕ} {new : List ℕ} (s : Removing at old k new) where
  pub remove_step : k < length old - 1 → Removing at old (k + 1) (set new k (get_or new (k + 1) 0))
  remove_step h =
      let v = get_or new (k + 1) 0 in
      let z : length new ≡ length old = s.long in
      record {
        from = omega (arith, s.from);
        within = omega arith;
        long = length-set new k v ∙ s.long;
        shifted =
            below_more _ k (λ i l. get_or-set_other new k i v 0 (λ e. omega arith) ∙ s.shifted i l)
            (get_or-set_same new k v 0 (omega arith)
            ∙ s.still (k + 1) (omega arith)
            ∙ ap (λ (i : ℕ). get_or old i 0) (add-one k)
            ∙ sym (without_after at old (omega (arith, s.from, s.within)) k s.from));
        still = λ i l. get_or-set_other new k i v 0 (λ e. omega arith) ∙ s.still i (omega arith);
      }

  pub remove_end : length old - 1 ≤ k → take (length old - 1) new ≡ without at old
  remove_end h =
      let n = length old - 1 in
      let z : length new ≡ length old = s.long in
      let l : at < length old = omega (arith, s.from, s.within) in
      let a = length-take-le n new (omega arith) in
      ext_get_or 0 (take n new) (without at old) (a ∙ sym (without_length at old l))
      (λ i m. get_or-take n new i 0 (omega arith) ∙ s.shifted i (omega arith))
