-- The check of lists of faults, computed for 2 x 2 with faults at (1, 1) and (2, 2), which are 33 and 66.
-- Assumes nothing.
use Rattle.std.specs.Prelude.{ℕ, ◌≡◌, cond, ◌||◌, List, [], ◌∷◌, eqb, Ok}
use Rattle.array.specs.Tests.{refuse}
use Rattle.array.specs.Buffer.{buffer}
use Rattle.array.specs.Place.{processor}
use Rattle.array.specs.Tests.{Verdict}
use Rattle.plans.specs.Faults.{fault}
use Rattle.plans.specs.declared.Fault.{Fault}
use Rattle.lists.specs.FaultList.{check_fault_list}

abbrev mark : ℕ → ℕ
mark p = cond (processor 2 2 p) (cond (eqb p 33 || eqb p 66) 1 0) 2

abbrev pub listed : List Fault → Verdict
listed fs = check_fault_list 2 2 (buffer mark) fs

pub record ListExamples : Type 0 where
  -- a plan, and a near-miss
  pub south_east : listed (fault 33 1 ∷ fault 66 3 ∷ []) ≡ Ok tt
  pub south_north : listed (fault 33 1 ∷ fault 66 2 ∷ []) ≡ refuse 7 33 66
  -- the second fault first, missing, and with the direction 5; a third one, beyond every buffer
  pub out_of_order : listed (fault 66 3 ∷ fault 33 1 ∷ []) ≡ refuse 4 33 0
  pub one_missing : listed (fault 33 1 ∷ []) ≡ refuse 4 66 0
  pub direction_5 : listed (fault 33 1 ∷ fault 66 5 ∷ []) ≡ refuse 4 66 0
  pub one_too_many : listed (fault 33 1 ∷ fault 66 3 ∷ fault 5000 1 ∷ []) ≡ refuse 4 5000 0
  -- 4 before 7
  pub direction_first : listed (fault 33 1 ∷ fault 66 2 ∷ fault 67 1 ∷ []) ≡ refuse 4 67 0
