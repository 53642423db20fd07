-- A run of bytes that is stored part by part: the law of every function that writes one piece after another.
-- Assumes nothing.
use Prim.Native.Nat.{ℕ, suc, ◌+◌, ◌≤◌}
use mathlib.Core.Path.{◌≡◌, refl, sym, ap, ◌∙◌}
use mathlib.Core.List.{List, [], ◌∷◌, ◌++◌, append-nil}
use native.Mathlib.Nat.{add-zero}
use native.Mathlib.Omega.{arith}
use lib.ListN.{length, set, length-append}
use lib.Seq.{sets, length-sets}

sets_append : (a b l : List ℕ) (i : ℕ) → sets l i (a ++ b) ≡ sets (sets l i a) (i + length a) b
sets_append [] b l i = rw add-zero
sets_append (x ∷ a) b l i =
    let e : suc i + length a ≡ i + length (x ∷ a) = omega arith in
    sets_append a b (set l i x) (suc i) ∙ ap (λ (k : ℕ). sets (sets (set l i x) (suc i) a) k b) e

-- a run that is a, then b
pub record Splits (l a b : List ℕ) : Type 0 where
  pub is : l ≡ a ++ b

pub splits : (a b : List ℕ) → Splits (a ++ b) a b
splits a b = record { is = refl }

pub splits_all : (a : List ℕ) → Splits a a []
splits_all a = record { is = sym (append-nil a) }

-- The bytes are to be stored in `old` from `start` on; `new` is the buffer so far, and `rest` is to be stored from `at` on.
pub record Run (old : List ℕ) (start : ℕ) (bytes new : List ℕ) (at : ℕ) (rest : List ℕ) : Type 0 where
  pub room : start + length bytes ≤ length old
  pub long : length new ≡ length old
  pub offset : at + length rest ≡ start + length bytes
  pub stored : sets new at rest ≡ sets old start bytes

pub run_start : (old : List ℕ) (start : ℕ) (bytes : List ℕ) → start + length bytes ≤ length old → Run old start bytes old start bytes
run_start old start bytes h = record { room = h; long = refl; offset = refl; stored = refl }

module _ {old : List ℕ} {start : ℕ} {bytes new : List ℕ} {at : ℕ} {rest : List ℕ} (r : Run old start bytes new at rest) where
  -- the next part is a, then b is left
  module _ {a b : List ℕ} (e : Splits rest a b) where
    pub run_room : at + length a ≤ length new
    run_room = omega (arith, r.room, r.long, r.offset, ap length e.is, length-append a b)

    pub run_step : {next : ℕ} {now : List ℕ} → next ≡ at + length a → now ≡ sets new at a → Run old start bytes now next b
    run_step {next} {now} f g =
        record {
          room = r.room;
          long = ap length g ∙ length-sets new at a ∙ r.long;
          offset = omega (arith, r.offset, ap length e.is, length-append a b);
          stored = cc (r.stored, e.is, sets_append a b new at);
        }

  pub run_end : rest ≡ [] → (at ≡ start + length bytes) × (new ≡ sets old start bytes)
  run_end e = (omega (arith, r.offset, ap length e), rw e at r.stored)
