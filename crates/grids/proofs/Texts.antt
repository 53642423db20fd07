-- The text of a grid: where its bytes stand, how long it is, the loop that writes it, and what is answered.
-- Assumes nothing.
use Rattle.std.specs.Prelude.{Ok, Err}
use Prim.Native.Nat.{ℕ, suc, ◌+◌, ◌-◌, ◌/◌, ◌%◌, ◌<◌, ◌≤◌}
use mathlib.Core.Path.{◌≡◌, refl, sym, ap, subst, ◌∙◌}
use mathlib.Core.Bool.{Bool}
use mathlib.Core.List.{List, [], ◌∷◌}
use native.Mathlib.Nat.{mod-lt, mul-le-mul, div-lt_iff_lt-mul}
use native.Mathlib.Numerals.{add-one}
use native.Mathlib.Omega.{arith}
use lib.ListN.{length}
use lib.Seq.{sets}
use Rattle.array.specs.Buffer.{span, long}
use Rattle.array.specs.Map.{map_tests, well_formed}
use Rattle.array.specs.Tests.{refusal}
use Rattle.array.specs.declared.Refusal.{Refusal}
use Rattle.array.proofs.Bools.{and_one}
use Rattle.array.proofs.Fills.{tabulate_length}
use Rattle.writers.specs.Writing.{room_test, put}
use Rattle.writers.proofs.Accepted.{put_short, put_stored}
use Rattle.formats.proofs.Runs.{Splits, Run, run_start}
use Rattle.grids.specs.Text.{text_length, text_byte, text, write_text}

-- the row and the column of an index
pub column_low : (m i : ℕ) → i % (m + 3) < m + 3
column_low m i = mod-lt i (omega arith)

module _ (n m : ℕ) where
  pub row_low : (i : ℕ) → i < text_length n m → i / (m + 3) < n + 2
  row_low i h = (div-lt_iff_lt-mul {k = m + 3} {x = i} {y = n + 2} (omega arith)).1 h

  pub text_short : n ≤ 30 → m ≤ 30 → text_length n m ≤ 1056
  text_short a b = mul-le-mul {n₂ = 32} {m₂ = 33} (omega arith) (omega arith)

-- what is left to write from index i on
module _ (f : ℕ → ℕ) (k i : ℕ) where
  pub span_turn : i < k → Splits (span f i (k - i)) (f i ∷ []) (span f (i + 1) (k - (i + 1)))
  unfolding span
  span_turn h = let e : k - i ≡ suc (k - (i + 1)) = omega arith in record { is = rw (e, add-one i) refl }

  pub span_end : k ≤ i → span f i (k - i) ≡ []
  unfolding span
  span_end h = let e : k - i ≡ 0 = omega arith in rw e

module _ (n m : ℕ) (grid out : List ℕ) where
  long_text : length (text n m grid) ≡ text_length n m
  unfolding text
  long_text = tabulate_length (text_byte n m grid) (text_length n m)

  whole : (k : ℕ) → k ≡ text_length n m → text n m grid ≡ span (text_byte n m grid) 0 (k - 0)
  unfolding text
  whole k e = let d : text_length n m ≡ k - 0 = omega arith in ap (λ (z : ℕ). span (text_byte n m grid) 0 z) d

  -- all is left to write
  pub text_start :
      (k : ℕ) → k ≡ text_length n m → k ≤ length out → Run out 0 (text n m grid) out 0 (span (text_byte n m grid) 0 (k - 0))
  text_start k e h =
      let l = long_text in
      let r : Run out 0 (text n m grid) out 0 (text n m grid) = run_start out 0 (text n m grid) (omega arith) in
      subst (λ (z : List ℕ). Run out 0 (text n m grid) out 0 z) (whole k e) r

  -- what is answered
  pub text_refused : {k : ℕ} → k ≡ text_length n m → length out < k → (Err (refusal 14 k 0), out) ≡ put (room_test (text n m grid) out) (text n m grid) out
  text_refused {k} e h =
      let l : k ≡ length (text n m grid) = e ∙ sym long_text in rw l (sym (put_short (text n m grid) out (omega arith)))

  pub text_written :
      {k : ℕ} {new : List ℕ} → k ≡ text_length n m → k ≤ length out → new ≡ sets out 0 (text n m grid) → (Ok k, new) ≡ put (room_test (text n m grid) out) (text n m grid) out
  text_written {k} e h w =
      let l : k ≡ length (text n m grid) = e ∙ sym long_text in rw (l, w) (sym (put_stored (text n m grid) out (omega arith)))

  pub tests_are : map_tests n m (long grid) grid ≡ well_formed n m grid
  tests_are = ap (λ (z : Bool). map_tests n m z grid) (sym (and_one (long grid)))

  pub by_tests : {r : Refusal} → well_formed n m grid ≡ Err r → (Err r, out) ≡ write_text n m grid out
  by_tests h = rw h

  pub by_room : well_formed n m grid ≡ Ok tt → put (room_test (text n m grid) out) (text n m grid) out ≡ write_text n m grid out
  by_room h = rw h
