-- The numbers 6 and 7 are document 01's.
-- Assumes nothing.
use Prim.Native.Nat.{ℕ}
use Rattle.array.proofs.Numbered.{NumberedVerdict, numbers}
use Rattle.paths.specs.Path.{Clash, Clear, Meet, NearMiss, clash, refuse_clash, pair_test}

clash_numbered : (p q : ℕ) (c : Clash) → NumberedVerdict (refuse_clash p q c)
clash_numbered p q Clear = search numbers
clash_numbered p q Meet = search numbers
clash_numbered p q NearMiss = search numbers

pub pair_numbered : (n m p d q e : ℕ) → NumberedVerdict (pair_test n m p d q e)
unfolding pair_test
pair_numbered n m p d q e = clash_numbered p q (clash n m p d q e)
