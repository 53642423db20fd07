-- A whole-buffer copy: a buffer is the table of its own elements, so a loop that copies is a fill with them.
-- Assumes nothing.
use mathlib.Core.Path.{◌≡◌, sym, ◌∙◌}
use mathlib.Core.List.{List}
use Prim.Native.Nat.{ℕ}
use native.Mathlib.Omega.{arith}
use lib.ListN.{length, get_or}
use lib.Seq.{ext_get_or}
use Rattle.array.specs.Buffer.{tabulate}
use Rattle.array.proofs.Fills.{tabulate_length, tabulate_at}

abbrev pub element_of : List ℕ → ℕ → ℕ
element_of l i = get_or l i 0

pub copied : (l : List ℕ) (n : ℕ) → length l ≡ n → tabulate (element_of l) n ≡ l
copied l n h =
    ext_get_or 0 (tabulate (element_of l) n) l (tabulate_length (element_of l) n ∙ sym h)
    (λ k m. tabulate_at (element_of l) n k 0 (omega (arith, tabulate_length (element_of l) n)))
