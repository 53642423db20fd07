-- The bytes along a list, a turn and the end: the law of every loop that appends what each element gives; and the digits of a number.
-- Assumes nothing.
use Prim.Native.Nat.{ℕ, zero, suc, ◌+◌, ◌-◌, ◌/◌, ◌<◌, ◌≤◌}
use mathlib.Core.Path.{◌≡◌, refl, sym, ap, ◌∙◌}
use mathlib.Core.Bool.{true, false, ◌||◌, true≢false}
use mathlib.Core.List.{List, [], ◌∷◌, ◌++◌}
use native.Mathlib.Numerals.{add-one, sub-one}
use borrow.Author.Tests.{ne_eqb}
use Rattle.array.proofs.Bools.{or_false}
use native.Mathlib.Omega.{arith}
use lib.ListN.{length, get_or, drop, drop_of_length-le}
use lib.Dec.{eqb, ltb}
use lib.Seq.{drop-cons}
use Rattle.std.proofs.Common.{append_assoc, append-nil, length-append}
use Rattle.listing.specs.Listing.{along, last_digit, digits}
use Rattle.listing.specs.Parts.{HasRoom}

-- what is left to append from index p on
abbrev pub along_from : (ℕ → ℕ → List ℕ) → List ℕ → ℕ → List ℕ
along_from f b p = along f p (drop p b)

-- `now` and what is left are the text that is to be, which has room
pub record Left (old all now rest : List ℕ) : Type 0 where
  pub whole : now ++ rest ≡ old ++ all
  pub room : HasRoom old all

module _ {old all now : List ℕ} where
  -- there is room for what is left, and for the first part of it
  pub left_room : (rest : List ℕ) → Left old all now rest → HasRoom now rest
  left_room rest l = omega (arith, l.room, ap length l.whole, length-append now rest, length-append old all)

  pub left_first : (one rest : List ℕ) → Left old all now (one ++ rest) → HasRoom now one
  left_first one rest l = omega (arith, left_room (one ++ rest) l, length-append one rest)

  pub left_next : (one rest : List ℕ) {new : List ℕ} → new ≡ now ++ one → Left old all now (one ++ rest) → Left old all new rest
  left_next one rest e l = record { whole = ap (λ (x : List ℕ). x ++ rest) e ∙ append_assoc now one rest ∙ l.whole; room = l.room }

  -- what is left is appended at once, or nothing is left
  pub left_last : (one : List ℕ) {new : List ℕ} → new ≡ now ++ one → Left old all now one → new ≡ old ++ all
  left_last one e l = e ∙ l.whole

  pub left_none : (rest : List ℕ) → rest ≡ [] → Left old all now rest → now ≡ old ++ all
  left_none rest e l = sym (append-nil now) ∙ ap (λ (x : List ℕ). now ++ x) (sym e) ∙ l.whole

pub left_start : {old all : List ℕ} → HasRoom old all → Left old all old all
left_start h = record { whole = refl; room = h }

-- the same, where what is to be appended is known in another form
pub left_start_as : {old all rest : List ℕ} → rest ≡ all → HasRoom old all → Left old all old rest
left_start_as {old} e h = record { whole = ap (λ (x : List ℕ). old ++ x) e; room = h }

module _ (f : ℕ → ℕ → List ℕ) (b : List ℕ) (p : ℕ) where
  pub along_turn : p < length b → along_from f b p ≡ f p (get_or b p 0) ++ along_from f b (p + 1)
  unfolding along
  along_turn h = rw (drop-cons b p 0 h, add-one p)

  pub along_end : length b ≤ p → along_from f b p ≡ []
  unfolding along
  along_end h = rw (drop_of_length-le b h)

-- a turn of such a loop
pub left_step : (f : ℕ → ℕ → List ℕ) (b : List ℕ) (p : ℕ) {old all now : List ℕ} → p < length b
    → Left old all now (along_from f b p) → Left old all now (f p (get_or b p 0) ++ along_from f b (p + 1))
left_step f b p h l = record { whole = rw (sym (along_turn f b p h)) l.whole; room = l.room }

-- the digits of a number, by the test of the code
pub digits_last : (k v : ℕ) → (eqb k 0 || ltb v 10) ≡ true → digits k v ≡ last_digit v ∷ []
unfolding digits
digits_last zero v h = refl
digits_last (suc k) v h = let t : (false || ltb v 10) ≡ true = rw (ne_eqb (suc k) 0 (λ e. omega arith)) at h in rw t

pub digits_more : (k v : ℕ) → (eqb k 0 || ltb v 10) ≡ false → digits k v ≡ digits (k - 1) (v / 10) ++ (last_digit v ∷ [])
unfolding digits
digits_more zero v h = absurd (true≢false h)
digits_more (suc k) v h = rw ((or_false (eqb (suc k) 0) (ltb v 10) h).1, sub-one (suc k)) refl
