-- The placement and the switches of a plan, for which blank buffers were lent: their lengths.
-- Assumes nothing.
use Rattle.std.specs.Prelude.{Ok, Err}
use Prim.Native.Nat.{ℕ}
use mathlib.Core.Path.{◌≡◌}
use mathlib.Core.List.{List}
use lib.ListN.{length}
use Rattle.array.specs.Buffer.{nothing_at, zeros, written}
use Rattle.array.specs.Tests.{Verdict}
use Rattle.array.proofs.Fills.{tabulate_length}
use Rattle.track.specs.Placement.{placement}
use Rattle.track.specs.Letters.{across_letters, down_letters}
use Rattle.repair.specs.Operations.{place_cells, places_after, route_switches, across_after, down_after}
use Rattle.repair.proofs.Cells.{placement_long}

written_long : (v : Verdict) (new : List ℕ) → length new ≡ 1024 → length (written v new zeros) ≡ 1024
written_long (Ok tt) new h = h
written_long (Err r) new h = tabulate_length nothing_at 1024

module _ (n m : ℕ) (grid directions : List ℕ) where
  across_letters_long : length (across_letters n m grid directions) ≡ 1024
  unfolding across_letters
  across_letters_long = tabulate_length _ 1024

  down_letters_long : length (down_letters n m grid directions) ≡ 1024
  unfolding down_letters
  down_letters_long = tabulate_length _ 1024

  pub places_long : length (places_after n m grid directions zeros) ≡ 1024
  unfolding places_after
  places_long = written_long (place_cells n m grid directions zeros) (placement n m grid directions) (placement_long n m grid directions)

  pub across_long : length (across_after n m grid directions zeros zeros) ≡ 1024
  unfolding across_after
  across_long = written_long (route_switches n m grid directions zeros zeros) (across_letters n m grid directions) across_letters_long

  pub down_long : length (down_after n m grid directions zeros zeros) ≡ 1024
  unfolding down_after
  down_long = written_long (route_switches n m grid directions zeros zeros) (down_letters n m grid directions) down_letters_long
