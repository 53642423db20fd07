-- By the traced paths the placement and the letters are those of the definitions, and the laws of the switches that both kinds share.
-- Assumes nothing.
use mathlib.Core.Path.{◌≡◌, sym, ap, ◌∙◌}
use mathlib.Core.Bool.{true, cond}
use mathlib.Core.List.{List}
use Prim.Native.Nat.{ℕ, ◌+◌, ◌<◌, ◌≤◌}
use native.Mathlib.Omega.{arith}
use lib.ListN.{get_or}
use lib.Seq.{ext_get_or}
use Rattle.array.specs.Place.{inner, processor_at, row, column}
use Rattle.array.specs.Buffer.{buffer}
use Rattle.array.specs.Map.{faulty}
use Rattle.array.proofs.Bools.{and_true, by_bool}
use Rattle.array.proofs.Places.{processor_within}
use Rattle.array.proofs.Fills.{tabulate_length, tabulate_at}
use Rattle.paths.specs.Path.{ahead}
use Rattle.plans.specs.Faults.{directed_faults}
use Rattle.track.specs.Placement.{through, placement}
use Rattle.track.specs.Letters.{letter, across_letters, down_letters}
use Rattle.track.specs.Ports.{stands}
use Rattle.routing.specs.declared.Switch.{Switch}
use Rattle.routing.specs.declared.Switch.TheVariants.{Across, Down}
use Rattle.routing.specs.Inner.{traced_paths, placed_by, node_under, second_at, state, letter_by}

buffers_agree : (f g : ℕ → ℕ) → ((p : ℕ) → p < 1024 → f p ≡ g p) → buffer f ≡ buffer g
buffers_agree f g h =
    ext_get_or 0 (buffer f) (buffer g) (tabulate_length f 1024 ∙ sym (tabulate_length g 1024))
    (λ p l.
    let b : p < 1024 = omega (arith, l, tabulate_length f 1024) in
    tabulate_at f 1024 p 0 b ∙ h p b ∙ sym (tabulate_at g 1024 p 0 b))

-- by the traced paths
module _ (n m : ℕ) (grid directions : List ℕ) where
  abbrev direction_through : ℕ → ℕ
  direction_through p = through n m (directed_faults n m grid directions) p

  traced_at : (p : ℕ) → p < 1024 → get_or (traced_paths n m grid directions) p 0 ≡ direction_through p
  unfolding traced_paths
  traced_at p h = tabulate_at direction_through 1024 p 0 h

  pub placed_is : buffer (placed_by n m (traced_paths n m grid directions)) ≡ placement n m grid directions
  unfolding placement
  placed_is =
      buffers_agree _ _ (λ p h. ap (λ (d : ℕ). cond (inner n m p) (ahead p d 1) 0) (traced_at p h))

module _ (n m : ℕ) (hn : n ≤ 30) (hm : m ≤ 30) where
  -- the second processor of a switch is within the buffers
  pub second_within : (k : Switch) (p : ℕ) → stands n m (node_under k p) ≡ true → second_at k p < 1024
  unfolding stands
  second_within Down p h =
      let a = processor_within n m (row p + 1) (column p) (and_true (processor_at n m (row p) (column p)) _ h).1 in
      omega (arith, a.0)
  second_within Across p h =
      let a = processor_within n m (row p) (column p + 1) (and_true (processor_at n m (row p) (column p)) _ h).1 in
      omega (arith, a.0, a.1)

  -- the letter under p, where f gives the direction of the path through a position
  abbrev letter_with : Switch → List ℕ → (ℕ → ℕ) → ℕ → ℕ
  letter_with k grid f p =
      let q = second_at k p in
      cond (stands n m (node_under k p)) (letter (state k (f p) (faulty grid p)) (state k (f q) (faulty grid q))) 0

  letter_agrees : (k : Switch) (grid : List ℕ) (f g : ℕ → ℕ) → ((p : ℕ) → p < 1024 → f p ≡ g p)
      → (p : ℕ) → p < 1024 → letter_with k grid f p ≡ letter_with k grid g p
  letter_agrees k grid f g h p l =
      let q = second_at k p in
      by_bool (stands n m (node_under k p))
      (λ e. rw (h p l, h q (second_within k p e)))
      (λ e. rw e)

  letters_are : (k : Switch) (grid directions : List ℕ)
      → buffer (letter_by k n m grid (traced_paths n m grid directions)) ≡ buffer (letter_with k grid (direction_through n m grid directions))
  letters_are k grid directions =
      buffers_agree _ _
      (letter_agrees k grid (λ p. get_or (traced_paths n m grid directions) p 0) (direction_through n m grid directions)
      (traced_at n m grid directions))

  module _ (grid directions : List ℕ) where
    pub across_is : buffer (letter_by Across n m grid (traced_paths n m grid directions)) ≡ across_letters n m grid directions
    unfolding across_letters stands
    across_is = letters_are Across grid directions

    pub down_is : buffer (letter_by Down n m grid (traced_paths n m grid directions)) ≡ down_letters n m grid directions
    unfolding down_letters stands
    down_is = letters_are Down grid directions
