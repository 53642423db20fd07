-- What stands lies in the buffers, and a letter joins port by port.
-- Assumes nothing.
use Rattle.std.proofs.Common.{◌≡◌, refl, ap, ◌∙◌, ℕ, ◌+◌, ◌≤◌, Bool, true, false, cond, eqb}
use Rattle.array.proofs.Bools.{and_true}
use Rattle.array.proofs.Places.{processor_within}
use Rattle.track.specs.Letters.{a, b, c, d}
use Rattle.track.specs.Nodes.{row_of, column_of}
use Rattle.track.specs.Ports.{stands, by_letter}
use Rattle.track.specs.declared.ports.Node.{Node}
use Rattle.track.specs.declared.ports.Node.TheVariants.{Processor, Across, Down}

pub stands_low : (n m : ℕ) (v : Node) → stands n m v ≡ true → (row_of v ≤ n + 1) × (column_of v ≤ m + 1)
unfolding stands
stands_low n m (Processor x y) h = processor_within n m x y h
stands_low n m (Across x y) h = processor_within n m x y (and_true _ _ h).0
stands_low n m (Down x y) h = processor_within n m x y (and_true _ _ h).0

cond_at : {A B : Type 0} (t : Bool) (f g : A → B) (s : A) → cond t (f s) (g s) ≡ cond t f g s
cond_at true f g s = refl
cond_at false f g s = refl

pub letter_at : {A B : Type 0} (l : ℕ) (f g h i j : A → B) (s : A) → by_letter l (f s) (g s) (h s) (i s) (j s) ≡ by_letter l f g h i j s
letter_at l f g h i j s =
    ap (cond (eqb l a) (f s))
    (ap (cond (eqb l b) (g s)) (ap (cond (eqb l c) (h s)) (cond_at (eqb l d) i j s) ∙ cond_at (eqb l c) h _ s) ∙ cond_at (eqb l b) g _ s)
    ∙ cond_at (eqb l a) f _ s
