-- Listings, computed: of document 01's example, of a map beyond repair, and of files that are refused.
-- Assumes nothing.
use Rattle.std.specs.Prelude.{◌≡◌, [], ◌∷◌}
use Rattle.formats.specs.Ascii.{ascii, ascii_lines}
use Rattle.repair.specs.declared.Planner.TheVariants.{Trials, Quick, Exact}
use Rattle.listing.specs.Listing.{digits, listing}

pub record Examples : Type 0 where
  -- numbers: 0, one of two digits, the limit, the greatest of 64 bits
  pub zero_is : digits 19 0 ≡ ascii "0"
  pub ten_is : digits 19 10 ≡ ascii "10"
  pub limit_is : digits 19 1000000 ≡ ascii "1000000"
  pub greatest_is : digits 19 18446744073709551615 ≡ ascii "18446744073709551615"
  -- the example: hexadecimal bytes 02 02 01 01 01
  pub repaired : listing Trials (2 ∷ 2 ∷ 1 ∷ 1 ∷ 1 ∷ [])
      ≡ ascii_lines ("map 2 2 1" ∷ "repaired 1" ∷ "path 1 1 S"
      ∷ "cell 1 1 2 1" ∷ "cell 1 2 1 2" ∷ "cell 2 1 3 1" ∷ "cell 2 2 2 2"
      ∷ "across bcdbcdbd" ∷ "down bbbbbbbb" ∷ [])
  -- the same with the quick planner, which settles the fault with its path west
  pub settled : listing Quick (2 ∷ 2 ∷ 1 ∷ 1 ∷ 1 ∷ [])
      ≡ ascii_lines ("map 2 2 1" ∷ "repaired 0" ∷ "path 1 1 W"
      ∷ "cell 1 1 1 0" ∷ "cell 1 2 1 2" ∷ "cell 2 1 2 1" ∷ "cell 2 2 2 2"
      ∷ "across bbbbbbbb" ∷ "down dbccbbbb" ∷ [])
  -- and with the exact planner, without a count; and size 1 × 1, all five processors faulty
  pub exactly_repaired : listing Exact (2 ∷ 2 ∷ 1 ∷ 1 ∷ 1 ∷ [])
      ≡ ascii_lines ("map 2 2 1" ∷ "repaired" ∷ "path 1 1 S"
      ∷ "cell 1 1 2 1" ∷ "cell 1 2 1 2" ∷ "cell 2 1 3 1" ∷ "cell 2 2 2 2"
      ∷ "across bcdbcdbd" ∷ "down bbbbbbbb" ∷ [])
  pub exactly_beyond : listing Exact (1 ∷ 1 ∷ 5 ∷ 0 ∷ 1 ∷ 1 ∷ 0 ∷ 1 ∷ 1 ∷ 1 ∷ 2 ∷ 2 ∷ 1 ∷ [])
      ≡ ascii_lines ("map 1 1 5" ∷ "beyond" ∷ [])
  -- the same by the trial rule
  pub beyond : listing Trials (1 ∷ 1 ∷ 5 ∷ 0 ∷ 1 ∷ 1 ∷ 0 ∷ 1 ∷ 1 ∷ 1 ∷ 2 ∷ 2 ∷ 1 ∷ [])
      ≡ ascii_lines ("map 1 1 5" ∷ "beyond 4" ∷ [])
  -- size 2 × 2 with (2, 2) dead, which takes north; size 3 × 3 with (2, 2) dead; a spare listed as dead
  pub dead_repaired : listing Trials (2 ∷ 2 ∷ 0 ∷ 1 ∷ 2 ∷ 2 ∷ [])
      ≡ ascii_lines ("map 2 2 1" ∷ "repaired 2" ∷ "path 2 2 N"
      ∷ "cell 1 1 1 1" ∷ "cell 1 2 0 2" ∷ "cell 2 1 2 1" ∷ "cell 2 2 1 2"
      ∷ "across dbdcbdcb" ∷ "down bbbbbbbb" ∷ [])
  pub dead_beyond : listing Trials (3 ∷ 3 ∷ 0 ∷ 1 ∷ 2 ∷ 2 ∷ []) ≡ ascii_lines ("map 3 3 1" ∷ "beyond 4" ∷ [])
  pub dead_spare : listing Trials (2 ∷ 2 ∷ 0 ∷ 1 ∷ 0 ∷ 1 ∷ []) ≡ ascii_lines ("refused 20 4" ∷ [])
  -- 82 00 for N; the empty file; M is 31; (2, 1) before (1, 1)
  pub short_number : listing Trials (130 ∷ 0 ∷ []) ≡ ascii_lines ("refused 9 0" ∷ [])
  pub empty : listing Trials [] ≡ ascii_lines ("refused 8 0" ∷ [])
  pub large_size : listing Trials (2 ∷ 31 ∷ 0 ∷ []) ≡ ascii_lines ("refused 1 1" ∷ [])
  pub unordered : listing Trials (2 ∷ 2 ∷ 2 ∷ 2 ∷ 1 ∷ 1 ∷ 1 ∷ []) ≡ ascii_lines ("refused 19 5" ∷ [])
