use Rattle.std.specs.Prelude.{Ok}
use Rattle.std.proofs.Common.{◌≡◌, refl, sym, ◌∙◌, ℕ, List, [], ◌∷◌, length, eqb-true, arith}
use Rattle.array.specs.Tests.{first_of}
use Rattle.plans.specs.Faults.{paired}
use Rattle.plans.specs.Check.{paths_test, pairs_test}
use Rattle.plans.proofs.check_paths.Goals as goal

no_paths : (n m : ℕ) (grid ds starts : List ℕ) → length starts ≡ 0 → paths_test n m grid (paired starts ds) ≡ Ok tt
unfolding paths_test pairs_test paired first_of
no_paths n m grid ds [] h = refl
no_paths n m grid ds (p ∷ ps) h = absurd (omega arith)

pub returns-then-is_empty : goal.returns-then-is_empty
returns-then-is_empty c = sym (no_paths _ _ _ _ _ (eqb-true _ _ (sym c.is_empty.ensures ∙ c.if-is_empty.true)))
