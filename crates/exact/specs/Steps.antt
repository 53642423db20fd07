-- What the steps over the options and over the pairs ask and promise, said of the structs.
-- Assumes nothing.
use Rattle.std.specs.Prelude.{ℕ, List, Option, length}
use Rattle.exact.specs.declared.faults.Problem.{Problem}
use Rattle.exact.specs.declared.propagation.Options.{Options}
use Rattle.exact.specs.Options.{at}
use Rattle.exact.specs.Inner.{clears_on, Listed, Spreadable, Closed, Alone, Takes, Bettered}

abbrev pub CanSpread : Problem → Options → Type 0
CanSpread p o = Spreadable p.faults.starts.now p.lists.now.names p.lists.now.ends p.lists.now.rest o.low o.high o.done

-- all that have one option are closed
abbrev pub AtRest : Problem → Options → Type 0
AtRest p o = Closed (length p.faults.starts.now) (clears_on p.faults.starts.now) (at o.low) (at o.high)

-- the lists name the faults that may clash
abbrev pub Ready : Problem → Type 0
Ready p =
    Listed (length p.faults.starts.now) (clears_on p.faults.starts.now) (Alone p.faults.open.now) p.lists.now.names
    p.lists.now.ends p.lists.now.rest

-- the best plan so far and the solutions of these options, or the plans of P: the first of them is kept
abbrev pub Tries : Problem → Options → Option (List ℕ) → Option (List ℕ) → Type 0
Tries p o best best' = Takes p.faults.starts.now o.low o.high best best'

abbrev pub Improves : Problem → ((ℕ → ℕ) → Type 0) → Option (List ℕ) → Option (List ℕ) → Type 0
Improves p P best best' = Bettered p.faults.starts.now p.faults.open.now P best best'
