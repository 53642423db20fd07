-- The numbers of a report, 1 to 7, 15 and 22 to 24, are the documents'.
-- Assumes nothing.
use Prim.Native.Nat.{ℕ}
use mathlib.Core.Bool.{Bool}
use Rattle.array.proofs.Numbered.{NumberedVerdict, numbers}
use Rattle.plans.proofs.Numbered.{plan_numbered}
use Rattle.sessions.specs.Session.{fail_test, recover_test, report_test}
use Rattle.sessions.specs.declared.Session.{Session}

fail_numbered : (s : Session) (p : ℕ) → NumberedVerdict (fail_test s p)
unfolding fail_test
fail_numbered s p = search numbers

recover_numbered : (s : Session) (p : ℕ) → NumberedVerdict (recover_test s p)
unfolding recover_test
recover_numbered s p = search numbers

pub report_numbered : (s : Session) (failing : Bool) (p : ℕ) → NumberedVerdict (report_test s failing p)
unfolding report_test
report_numbered s failing p = search (numbers, plan_numbered, fail_numbered, recover_numbered)
