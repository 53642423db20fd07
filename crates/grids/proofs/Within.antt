-- The length of a map file or of a text, as answered, is within its buffer.
-- Assumes nothing.
use Prim.Native.Nat.{ℕ, ◌≤◌}
use mathlib.Core.Path.{◌≡◌}
use mathlib.Core.List.{List}
use lib.ListN.{length}
use Rattle.array.specs.Map.{well_formed}
use Rattle.formats.specs.Records.{file_bytes}
use Rattle.formats.specs.declared.Kind.TheVariants.{Map}
use Rattle.writers.specs.Writing.{told, buffer_test, write_file, write_map, FileWritten}
use Rattle.writers.proofs.Within.{put_within}
use Rattle.grids.specs.Text.{text, write_text}
use Rattle.std.specs.Prelude.{Ok}

pub map_within : (n m : ℕ) (grid out : List ℕ) (r : FileWritten) (k : ℕ) → told r ≡ told (write_map n m grid out).0 → r ≡ Ok k → k ≤ length out
unfolding write_file
map_within n m grid out r k e h = put_within (file_bytes Map n m grid 0) out r k h (buffer_test Map n m grid) e

pub text_within : (n m : ℕ) (grid out : List ℕ) (r : FileWritten) (k : ℕ) → told r ≡ told (write_text n m grid out).0 → r ≡ Ok k → k ≤ length out
text_within n m grid out r k e h = put_within (text n m grid) out r k h (well_formed n m grid) e
