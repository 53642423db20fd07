-- What marks a position allows, and that the grid of a text's characters is a well-formed map.
-- Assumes nothing.
use Rattle.std.specs.Prelude.{Ok}
use Prim.Native.Nat.{ℕ, ◌<◌, ◌≤◌}
use mathlib.Core.Path.{◌≡◌, sym, ◌∙◌}
use mathlib.Core.Bool.{Bool, true, false, cond, ◌||◌, false≢true}
use mathlib.Core.List.{List}
use native.Mathlib.Omega.{arith}
use borrow.Author.Tests.{le-leb, eq-eqb}
use lib.Dec.{leb, eqb}
use lib.ListN.{length, get_or}
use Rattle.array.specs.Place.{row, column, inner_at, processor_at, inner, processor}
use Rattle.array.specs.Map.{dead_mark, allowed, mark_test, map_tests, well_formed}
use Rattle.array.proofs.Bools.{by_bool}
use Rattle.array.proofs.Places.{inner_stands}
use Rattle.array.proofs.Fills.{tabulate_length, tabulate_at}
use Rattle.array.proofs.Scans.{buffer_scan, scan_all}
use Rattle.grids.specs.Reading.{fault_letter, dead_letter, processor_mark, mark_of, grid_of}

-- where no processor is, none is inner
none_inner : (n m x y : ℕ) → processor_at n m x y ≡ false → inner_at n m x y ≡ false
none_inner n m x y h = by_bool (inner_at n m x y) (λ t. absurd (false≢true (sym h ∙ inner_stands n m x y t))) (λ t. t)

-- the marks that a processor may have, by whether it is inner
abbrev pub processor_allows : Bool → ℕ → Bool
processor_allows is-inner mark = cond is-inner (leb mark 1 || dead_mark mark) (leb mark 1)

pub allowed_there : (n m p mark : ℕ) → processor n m p ≡ true → allowed n m p mark ≡ processor_allows (inner n m p) mark
allowed_there n m p mark t = rw t

pub allowed_none : (n m p mark : ℕ) → processor n m p ≡ false → allowed n m p mark ≡ eqb mark 2
allowed_none n m p mark t = rw (none_inner n m (row p) (column p) t, t)

mark_there : (is-inner : Bool) (b : ℕ) → processor_allows is-inner (processor_mark is-inner b) ≡ true
mark_there true b =
    by_bool (fault_letter b) (λ f. rw f) (λ f. by_bool (dead_letter b) (λ d. rw (f, d)) (λ d. rw (f, d)))
mark_there false b =
    by_bool (fault_letter b) (λ f. rw f) (λ f. by_bool (dead_letter b) (λ d. rw (f, d)) (λ d. rw (f, d)))

mark_allowed : (n m p b : ℕ) → allowed n m p (mark_of n m p b) ≡ true
mark_allowed n m p b =
    by_bool (processor n m p)
    (λ t. allowed_there n m p (mark_of n m p b) t ∙ rw t (mark_there (inner n m p) b))
    (λ t. allowed_none n m p (mark_of n m p b) t ∙ rw t)

module _ (n m : ℕ) (cells : List ℕ) where
  pub grid_long : length (grid_of n m cells) ≡ 1024
  unfolding grid_of
  grid_long = tabulate_length _ 1024

  pub grid_at : (p : ℕ) → p < 1024 → get_or (grid_of n m cells) p 0 ≡ mark_of n m p (get_or cells p 0)
  unfolding grid_of
  grid_at p h = tabulate_at (λ q. mark_of n m q (get_or cells q 0)) 1024 p 0 h

  each : (p : ℕ) → p < length (grid_of n m cells) → mark_test n m p (get_or (grid_of n m cells) p 0) ≡ Ok tt
  each p h = let l = grid_long in rw (grid_at p (omega arith), mark_allowed n m p (get_or cells p 0))

  pub grid_formed : 1 ≤ n → n ≤ 30 → 1 ≤ m → m ≤ 30 → well_formed n m (grid_of n m cells) ≡ Ok tt
  unfolding map_tests
  grid_formed a b d e =
      rw (le-leb _ _ a, le-leb _ _ b, le-leb _ _ d, le-leb _ _ e, eq-eqb _ _ grid_long) (scan_all (buffer_scan (mark_test n m) (grid_of n m cells)) each)
