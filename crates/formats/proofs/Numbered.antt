-- The numbers 1, 8 and 9 of a file's numbers are document 01's.
-- Assumes nothing.
use Prim.Native.Nat.{ℕ, zero, suc, ◌+◌, ◌-◌}
use mathlib.Core.Path.{◌≡◌}
use mathlib.Core.List.{List}
use lib.Dec.{ltb, leb}
use lib.ListN.{length, get_or}
use Rattle.array.specs.Tests.{Told, refuses_as}
use Rattle.array.specs.declared.Refusal.{Refusal}
use Rattle.array.proofs.Numbered.{NumberedAs, numbered_cond, numbers}
use Rattle.formats.specs.Number.{told, with_low, groups_at, number_at, read_or, size_at}
use Rattle.formats.specs.Number.{Number}
use Rattle.std.specs.Prelude.{Ok, Err}

numbered_low : (start low : ℕ) (a : Number) → NumberedAs told a → NumberedAs told (with_low start low a)
numbered_low start low (Ok (v, next)) h = search numbers
numbered_low start low (Err r) h = h

groups_numbered : (s : List ℕ) (start k at : ℕ) → NumberedAs told (groups_at s start k at)
unfolding groups_at
groups_numbered s start zero at = search numbers
groups_numbered s start (suc k) at =
    numbered_cond (leb (length s) at) (search numbers)
    (numbered_cond (ltb (get_or s at 0) 128) (search numbers)
    (numbered_low start (get_or s at 0 - 128) _ (groups_numbered s start k (at + 1))))

pub number_numbered : (s : List ℕ) (at : ℕ) → NumberedAs told (number_at s at)
number_numbered s at = groups_numbered s at 3 at

-- what a number leads to, where its refusal is passed on
pub numbered_read : {A : Type 0} {tell : A → Told} (a : Number) {f : ℕ → ℕ → A} {g : Refusal → A} → NumberedAs told a
    → ((v next : ℕ) → NumberedAs tell (f v next)) → ((r : Refusal) → tell (g r) ≡ refuses_as r)
    → NumberedAs tell (read_or a f g)
numbered_read (Ok (v, next)) h x y = x v next
numbered_read (Err r) h x y = record { numbered = rw (y r) h.numbered }

pub size_at_numbered : (s : List ℕ) (at : ℕ) → NumberedAs told (size_at s at)
unfolding size_at
size_at_numbered s at = search (numbers, numbered_read, number_numbered)
