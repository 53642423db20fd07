-- The listing of a map that was read has no line of a refusal.
-- Assumes nothing.
use Rattle.std.specs.Prelude.{Ok}
use Prim.Native.Nat.{ℕ}
use mathlib.Core.Path.{◌≡◌, refl, ap, ◌∙◌}
use mathlib.Core.Bool.{true, ◌&&◌}
use mathlib.Core.List.{List, ◌++◌}
use lib.ListN.{length}
use borrow.Author.Tests.{eq-eqb}
use Rattle.array.specs.Buffer.{long, zeros, nothing_at}
use Rattle.array.specs.Map.{well_formed}
use Rattle.array.proofs.Fills.{tabulate_length}
use Rattle.array.proofs.Formed.{formed_lent, grid_and}
use Rattle.trials.specs.Trials.{Search}
use Rattle.repair.specs.Operations.{kept_by, left_by, planned_by, answer_by, buffer_by, planner_test, plan_by, directions_by}
use Rattle.repair.specs.declared.Planner.{Planner}
use Rattle.repair.specs.declared.Planner.TheVariants.{Trials, Quick, Exact}
use Rattle.readers.specs.declared.Head.{Head}
use Rattle.formats.specs.declared.Kind.TheVariants.{Map}
use Rattle.readers.proofs.Taken.{map_read}
use Rattle.writers.specs.Writing.{buffer_test}
use Rattle.files.proofs.Sound.{sound_reading}
use Rattle.listing.specs.Listing.{limit, head_line, answer_lines, left_by_planner, map_lines, file_lines, listing, MapsListed}

formed_map : (n m : ℕ) (grid : List ℕ) → buffer_test Map n m grid ≡ Ok tt → well_formed n m grid ≡ Ok tt
unfolding buffer_test
formed_map n m grid h = h

-- the planner's tests of a well-formed map with blank directions
tested : (n m : ℕ) (grid : List ℕ) → well_formed n m grid ≡ Ok tt → planner_test n m grid zeros ≡ Ok tt
tested n m grid h =
    formed_lent n m grid (long grid && (long zeros && true)) h
    (grid_and n m grid (long zeros && true) h (rw (eq-eqb (length zeros) 1024 (tabulate_length nothing_at 1024)) refl))

module _ (pl : Planner) (n m : ℕ) (grid : List ℕ) (h : planner_test n m grid zeros ≡ Ok tt) where
  answered : plan_by pl n m grid zeros limit ≡ answer_by pl limit (planned_by pl n m grid)
  unfolding plan_by
  answered = rw h refl

  written_is : directions_by pl n m grid zeros limit
      ≡ buffer_by pl limit (kept_by pl n m grid) (left_by pl n m grid) (planned_by pl n m grid)
  unfolding directions_by
  written_is = rw h refl

-- a planner's answer on a map that passes its tests is no refusal
lines_are : (pl : Planner) (head : Head) (grid : List ℕ) (k : ℕ) (t : Search)
    → map_lines pl head grid (answer_by pl k t)
    ≡ head_line head ++ answer_lines head.rows head.columns grid (left_by_planner pl head grid) (answer_by pl k t)
unfolding map_lines
lines_are Trials head grid k t = refl
lines_are Quick head grid k t = refl
lines_are Exact head grid k t = refl

pub maps_listed : MapsListed
unfolding listing file_lines
maps_listed pl s grid head q =
    let n = head.rows in
    let m = head.columns in
    let t = tested n m grid (formed_map n m grid (sound_reading Map s zeros grid head 0 (map_read s zeros grid head q)).fit) in
    rw (q, answered pl n m grid t)
    (lines_are pl head grid limit (planned_by pl n m grid)
    ∙ ap (λ (b : List ℕ). head_line head ++ answer_lines n m grid b (answer_by pl limit (planned_by pl n m grid)))
    (written_is pl n m grid t))
