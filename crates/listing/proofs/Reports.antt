-- What is answered of a listing and its length.
-- Assumes nothing.
use Prim.Native.Nat.{ℕ, ◌<◌, ◌≤◌}
use mathlib.Core.Path.{◌≡◌, sym}
use mathlib.Core.List.{List, ◌++◌}
use native.Mathlib.Omega.{arith}
use lib.ListN.{length, drop}
use Rattle.std.specs.Prelude.{Ok, Err}
use Rattle.array.specs.Tests.{refusal}
use Rattle.writers.proofs.Accepted.{put_short, put_whole}
use Rattle.repair.specs.declared.Planner.{Planner}
use Rattle.listing.specs.Listing.{listing, reported}

module _ (pl : Planner) (s out : List ℕ) {r : ℕ} where
  pub reported_short : r ≡ length (listing pl s) → length out < r → (Err (refusal 14 r 0), out) ≡ reported pl s out
  reported_short e l = rw e (sym (put_short (listing pl s) out (omega arith)))

  pub reported_whole : r ≡ length (listing pl s) → r ≤ length out → (Ok r, listing pl s ++ drop r out) ≡ reported pl s out
  reported_whole e l = rw e (sym (put_whole (listing pl s) out (omega arith)))
