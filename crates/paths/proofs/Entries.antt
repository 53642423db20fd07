-- A test at each of the 400 entries, which the checker computes, and what it says of the table.
-- Assumes nothing.
use mathlib.Core.Path.{◌≡◌, refl}
use mathlib.Core.Bool.{Bool, true}
use mathlib.Core.List.{List}
use Prim.Native.Nat.{ℕ, ◌+◌, ◌/◌, ◌%◌, ◌≤◌, ◌<◌}
use native.Mathlib.Omega.{arith}
use borrow.Author.Tests.{eqb-true}
use lib.Dec.{eqb}
use lib.ListN.{length, get_or}
use Rattle.array.specs.Buffer.{span}
use Rattle.paths.specs.Path.{Clash, Clear, Meet, NearMiss, path, member, share, meet, near_miss, clash, is_clear}
use Rattle.paths.specs.Table.{entry, byte_of, index, ClashTable, entry_at, how_many, Counted}
use Rattle.paths.specs.Inner.{clash_of}
use Rattle.array.proofs.Below.{all_below, passes_below}

abbrev pub follows_rule : List ℕ → ℕ → Bool
follows_rule table k = eqb (get_or table k 0) (byte_of (entry_at k))

pub tested_table : (table : List ℕ) → length table ≡ 400 → all_below (follows_rule table) 400 ≡ true → ClashTable table
tested_table table long tested = record { long = long; right = right }
  where
    right : (d e rows columns : ℕ) → 1 ≤ d → d ≤ 4 → 1 ≤ e → e ≤ 4 → rows ≤ 4 → columns ≤ 4
        → get_or table (index d e rows columns) 0 ≡ byte_of (entry d e rows columns)
    right d e rows columns a b c f g h =
        let k = index d e rows columns in
        let below : k < 400 = omega arith in
        let first : k / 100 + 1 ≡ d = omega arith in
        let second : k / 25 % 4 + 1 ≡ e = omega arith in
        let down : k / 5 % 5 ≡ rows = omega arith in
        let across : k % 5 ≡ columns = omega arith in
        rw (first, second, down, across) at
        (eqb-true (get_or table k 0) (byte_of (entry_at k)) (passes_below (follows_rule table) 400 k tested below))

-- no entry is lost in its byte
pub clash_of_byte : (c : Clash) → clash_of (byte_of c) ≡ c
clash_of_byte Clear = refl
clash_of_byte Meet = refl
clash_of_byte NearMiss = refl

-- and 0 is clear
pub byte_clear : (c : Clash) → eqb (byte_of c) 0 ≡ is_clear c
byte_clear Clear = refl
byte_clear Meet = refl
byte_clear NearMiss = refl

pub counted : Counted
unfolding how_many entry clash meet share member path span near_miss
counted = record { meetings = refl; near_misses = refl }
