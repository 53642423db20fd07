-- The length of a plan file, as answered, is within its buffer.
-- Assumes nothing.
use Prim.Native.Nat.{ℕ, ◌≤◌}
use mathlib.Core.Path.{◌≡◌}
use mathlib.Core.List.{List}
use lib.ListN.{length}
use Rattle.formats.specs.Records.{file_bytes}
use Rattle.formats.specs.declared.Kind.TheVariants.{Plan}
use Rattle.writers.specs.Writing.{told, buffer_test, trials_test, write_file, write_plan, FileWritten}
use Rattle.writers.proofs.Within.{two_within}
use Rattle.std.specs.Prelude.{Ok}

pub plan_within : (n m : ℕ) (directions : List ℕ) (t : ℕ) (out : List ℕ) (r : FileWritten) (k : ℕ)
    → told r ≡ told (write_plan n m directions t out).0 → r ≡ Ok k → k ≤ length out
unfolding write_file
plan_within n m directions t out r k e h =
    two_within (file_bytes Plan n m directions t) out r k h (buffer_test Plan n m directions) (trials_test Plan t) e
