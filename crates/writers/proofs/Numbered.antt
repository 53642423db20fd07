-- The numbers of the writers, 1 to 4 and 14, are document 01's, and 21 is document 02's.
-- Assumes nothing.
use Rattle.std.specs.Prelude.{Ok, Err}
use Prim.Native.Nat.{ℕ}
use mathlib.Core.List.{List}
use Rattle.array.specs.Tests.{Verdict}
use Rattle.array.proofs.Numbered.{NumberedAs, NumberedVerdict, numbers, map_numbered}
use Rattle.formats.specs.declared.Kind.{Kind}
use Rattle.formats.specs.declared.Kind.TheVariants.{Map, Plan}
use Rattle.writers.specs.Writing.{told, buffer_test, trials_test, room_test, put, write_file}

numbered_put : (v : Verdict) (bytes out : List ℕ) → NumberedVerdict v → NumberedAs told (put v bytes out).0
numbered_put (Ok tt) bytes out h = search numbers
numbered_put (Err r) bytes out h = record { numbered = h.numbered }

buffer_numbered : (kind : Kind) (n m : ℕ) (b : List ℕ) → NumberedVerdict (buffer_test kind n m b)
unfolding buffer_test
buffer_numbered Map n m b = search map_numbered
buffer_numbered Plan n m b = search numbers

trials_numbered : (kind : Kind) (t : ℕ) → NumberedVerdict (trials_test kind t)
trials_numbered Map t = search numbers
trials_numbered Plan t = search numbers

pub write_numbered :
    (kind : Kind) (n m : ℕ) (b : List ℕ) (t : ℕ) (out : List ℕ) → NumberedAs told (write_file kind n m b t out).0
unfolding write_file
write_numbered kind n m b t out = search (numbers, numbered_put, buffer_numbered, trials_numbered)

-- of any bytes, as a listing's
pub text_numbered : (bytes out : List ℕ) → NumberedAs told (put (room_test bytes out) bytes out).0
text_numbered bytes out = search (numbers, numbered_put)
