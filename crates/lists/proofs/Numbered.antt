-- The numbers of the list check, 1 to 7, are document 01's.
-- Assumes nothing.
use Prim.Native.Nat.{ℕ}
use mathlib.Core.List.{List, [], ◌∷◌}
use Rattle.array.proofs.Numbered.{NumberedVerdict, numbered_or, numbers, map_numbered}
use Rattle.plans.specs.declared.Fault.{Fault}
use Rattle.plans.proofs.Numbered.{paths_numbered}
use Rattle.lists.specs.FaultList.{entry_test, listed_test, check_fault_list}

listed_numbered : (ps : List ℕ) (fs : List Fault) → NumberedVerdict (listed_test ps fs)
unfolding listed_test
listed_numbered [] [] = search numbers
listed_numbered [] (f ∷ fs) = search numbers
listed_numbered (p ∷ ps) [] = search numbers
listed_numbered (p ∷ ps) (f ∷ fs) = numbered_or (entry_test p f) (search numbers) (listed_numbered ps fs)

pub fault_list_numbered : (n m : ℕ) (grid : List ℕ) (fs : List Fault) → NumberedVerdict (check_fault_list n m grid fs)
unfolding check_fault_list
fault_list_numbered n m grid fs = search (numbers, map_numbered, listed_numbered, paths_numbered)
