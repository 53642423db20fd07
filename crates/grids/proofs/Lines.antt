-- The lines of a text: where the next line ends, what is left after it, and how its end is trimmed.
-- Assumes nothing.
use Prim.Native.Nat.{ℕ, suc, ◌+◌, ◌≤◌}
use mathlib.Core.Path.{◌≡◌, refl}
use mathlib.Core.Bool.{true, false, cond}
use mathlib.Core.List.{List, [], ◌∷◌, ◌++◌}
use native.Mathlib.Numerals.{add-one, one-add}
use native.Mathlib.Omega.{arith}
use lib.Dec.{eqb, ltb}
use lib.ListN.{length, take, drop}
use Rattle.std.specs.Prelude.{Option, None, Some, unwrap_or}
use borrow.Author.Tests.{lt-ltb, le-ltb}
use Rattle.array.proofs.Bools.{by_bool, by_lt}
use Rattle.grids.specs.Parts.{line_length}
use Rattle.grids.specs.Reading.{lines_of, trim, blank_letter}

-- the first line, and the lines after its line feed
cut : (c : ℕ) (t : List ℕ) → lines_of (c ∷ t) ≡ take (line_length (c ∷ t)) (c ∷ t) ∷ lines_of (drop (suc (line_length (c ∷ t))) (c ∷ t))
unfolding lines_of
cut c [] = by_bool (eqb c 10) (λ t. rw t) (λ t. rw t)
cut c (d ∷ t) = by_bool (eqb c 10) (λ e. rw e) (λ e. rw (e, cut d t, one-add (line_length (d ∷ t))))

pub line_within : (s : List ℕ) → line_length s ≤ length s
line_within [] = omega arith
line_within (c ∷ s) =
    by_bool (eqb c 10) (λ e. rw e (omega arith)) (λ e. let h = line_within s in rw e (omega arith))

-- the first line of a text that has one, and the lines after it
pub lines_cut : (s : List ℕ) → (length s ≡ 0 → ⊥) → lines_of s ≡ take (line_length s) s ∷ lines_of (drop (line_length s + 1) s)
lines_cut [] h = absurd (h refl)
lines_cut (c ∷ t) h = rw add-one (cut c t)

-- a text without a line feed is one line
unwrapped : (k n : ℕ) → k ≤ n → unwrap_or (cond (ltb k n) (Some k) None) n ≡ k
unwrapped k n h =
    by_lt k n (λ l. let t = lt-ltb k n l in rw t refl) (λ l. let t = le-ltb k n l in let e : n ≡ k = omega arith in rw t e)

pub first_feed :
    (s : List ℕ) (r : Option ℕ) →
    r ≡ cond (ltb (line_length s) (length s)) (Some (line_length s)) None →
    unwrap_or r (length s) ≡ line_length s
first_feed s r e = rw e (unwrapped (line_length s) (length s) (line_within s))

-- the last character is trimmed, or nothing is
pub trim_last : (l : List ℕ) (b : ℕ) → blank_letter b ≡ true → trim (l ++ (b ∷ [])) ≡ trim l
unfolding trim
trim_last [] b h = rw h
trim_last (c ∷ l) b h = rw (trim_last l b h)

pub trim_kept : (l : List ℕ) (b : ℕ) → blank_letter b ≡ false → trim (l ++ (b ∷ [])) ≡ l ++ (b ∷ [])
unfolding trim
trim_kept [] b h = rw h
trim_kept (c ∷ []) b h = rw h
trim_kept (c ∷ d ∷ l) b h = rw (trim_kept (d ∷ l) b h)

pub trim_nothing : (l : List ℕ) → length l ≡ 0 → l ≡ trim l
unfolding trim
trim_nothing [] h = refl
trim_nothing (c ∷ l) h = absurd (omega arith)
