-- Demand 3, as one statement about a whole run (document 00, demand 3; document 01, end of "Placement and routing"). What it
-- says of placement, routing and follower is `InUse`. Document 02, T-04: the openness of a plan is the narrower one. T-05: the
-- run is made with any of the planners, and those that are not spent call a map beyond repair in the same cases. The exact
-- planner has no limit and is never spent.
-- Assumes nothing.
use Rattle.std.specs.Prelude.{ℕ, ◌≤◌, ◌<◌, ◌≡◌, true, false, ◌⊎◌, ◌↔◌, List, [], ◌∷◌, Ok}
use Rattle.array.specs.Buffer.{all_long}
use Rattle.array.specs.Map.{well_formed}
use Rattle.plans.specs.Faults.{faults, directions_at}
use Rattle.plans.specs.Plan.{Plan, EveryChoiceBlocked, FirstPlan}
use Rattle.plans.specs.declared.Fault.{Fault}
use Rattle.trials.specs.Trials.{Search, found, count}
use Rattle.trials.specs.Search.{plan_buffer}
use Rattle.trials.specs.declared.Outcome.TheVariants.{Repaired, Beyond, Spent}
use Rattle.exact.specs.declared.Decision.TheVariants as decision
use Rattle.track.specs.Ports.{Wafer}
use Rattle.repair.specs.Operations.{kept_by, left_by, planned_by, counts, plan_by, directions_by}
use Rattle.repair.specs.Operations.{is_repaired, is_beyond}
use Rattle.repair.specs.InUse.{Use, InUse}
use Rattle.repair.specs.declared.Planner.{Planner}
use Rattle.repair.specs.declared.Planner.TheVariants.{Trials, Exact}
use Rattle.repair.specs.declared.Answer.{Answer}
use Rattle.repair.specs.declared.Answer.TheVariants.{Planned, Decided}
use Rattle.repair.specs.InUse as use-of

-- what is given to a run: the planner, a fault map, a limit, and the lent buffers with whatever they hold
pub record Given : Type 0 where
  pub planner : Planner
  pub n : ℕ
  pub m : ℕ
  pub grid : List ℕ
  pub limit : ℕ
  pub directions : List ℕ
  pub places : List ℕ
  pub across : List ℕ
  pub down : List ℕ

-- The map is well-formed, the limit is a u32, and every lent buffer has 1,024 elements. (The exact planner is given no
-- limit, and what is said of it does not depend on this one.)
pub record Good (g : Given) : Type 0 where
  pub map : well_formed g.n g.m g.grid ≡ Ok tt
  pub u32 : g.limit < 4294967296
  pub lent : all_long (g.directions ∷ g.places ∷ g.across ∷ g.down ∷ []) ≡ true

-- THE RUN. Each call gets N, M and the grid; what the planner leaves in the direction buffer is handed to the three other operations.
abbrev pub answer : Given → Answer
answer g = plan_by g.planner g.n g.m g.grid g.directions g.limit

abbrev pub planned_directions : Given → List ℕ
planned_directions g = directions_by g.planner g.n g.m g.grid g.directions g.limit

-- what these are given, the lent buffers among it; then the placement that they leave, and the wafer with its switches
abbrev pub used : Given → Use
used g =
    record {
      n = g.n;
      m = g.m;
      grid = g.grid;
      directions = planned_directions g;
      places = g.places;
      across = g.across;
      down = g.down;
    }

abbrev pub places_held : Given → List ℕ
places_held g = use-of.places_held (used g)

abbrev pub routed : Given → Wafer
routed g = use-of.routed (used g)

-- the paths of a run: the directions written, in fault order
abbrev pub paths : Given → List ℕ
paths g = directions_at (planned_directions g) (faults g.n g.m g.grid)

-- what the planner keeps before its trials, the faults that these are over, and the trials
abbrev pub kept_of : Given → List Fault
kept_of g = kept_by g.planner g.n g.m g.grid

abbrev pub left_of : Given → List ℕ
left_of g = left_by g.planner g.n g.m g.grid

abbrev pub search_of : Given → Search
search_of g = planned_by g.planner g.n g.m g.grid

-- T: the planner's own count of trials; of the exact planner, which makes none, that of the trials over all faults
abbrev pub T_of : Given → ℕ
T_of g = count (search_of g)

-- the directions written for the faults that the trials are over
abbrev pub rest_of : Given → List ℕ
rest_of g = directions_at (planned_directions g) (left_of g)

-- what follows on `repaired`
pub record AfterRepaired (g : Given) : Type 0 where
  -- the trials find the directions of the faults left, and the buffer has these and those that were kept beforehand
  pub by_rule : search_of g ≡ found (T_of g) (rest_of g)
  pub directions_defined : planned_directions g ≡ plan_buffer (kept_of g) (left_of g) (rest_of g)
  -- the paths are a plan, and by the trial rule over all faults and by the exact planner the first of all plans
  pub is_plan : Plan g.n g.m g.grid (paths g)
  pub first_plan : (g.planner ≡ Trials) ⊎ (g.planner ≡ Exact) → FirstPlan g.n g.m g.grid (paths g)
  -- placement, routing and follower do what is said of a plan in use
  pub in_use : InUse (used g)

-- what a planner that counts its trials answers
pub record UnderLimit (g : Given) : Type 0 where
  -- spent, with the limit, exactly when T is above the limit
  pub spent : (answer g ≡ Planned (Spent g.limit)) ↔ (g.limit < T_of g)
  -- otherwise the answer carries T
  pub carries_T : T_of g ≤ g.limit → (answer g ≡ Planned (Repaired (T_of g))) ⊎ (answer g ≡ Planned (Beyond (T_of g)))
  -- and it says beyond repair exactly when all choices are ruled out
  pub beyond : T_of g ≤ g.limit → (answer g ≡ Planned (Beyond (T_of g))) ↔ EveryChoiceBlocked g.n g.m g.grid
  -- in every other case it is repaired
  pub repaired : T_of g ≤ g.limit → (EveryChoiceBlocked g.n g.m g.grid → ⊥) → answer g ≡ Planned (Repaired (T_of g))

pub record SomePlan (n m : ℕ) (grid : List ℕ) : Type 0 where
  pub xs : List ℕ
  pub is : Plan n m grid xs

-- what the exact planner answers
pub record WithoutLimit (g : Given) : Type 0 where
  -- it is never spent
  pub always : (answer g ≡ Decided decision.Repaired) ⊎ (answer g ≡ Decided decision.Beyond)
  -- it says repaired exactly when there is a plan, and beyond repair exactly when all choices are ruled out
  pub repaired : (answer g ≡ Decided decision.Repaired) ↔ SomePlan g.n g.m g.grid
  pub beyond : (answer g ≡ Decided decision.Beyond) ↔ EveryChoiceBlocked g.n g.m g.grid

-- DEMAND 3, of one run
pub record Demand3 (g : Given) : Type 0 where
  -- what the planner answers, by whether its trials are counted against a limit
  pub under_limit : counts g.planner ≡ true → UnderLimit g
  pub without_limit : counts g.planner ≡ false → WithoutLimit g
  -- and after `repaired` all that is said of its paths holds
  pub after : is_repaired (answer g) ≡ true → AfterRepaired g

-- for every well-formed map, every limit and every content of the lent buffers
abbrev pub Demand3ForAll : Type 0
Demand3ForAll = (g : Given) → Good g → Demand3 g

-- two runs of one map
pub record SameMap (g h : Given) : Type 0 where
  pub rows : g.n ≡ h.n
  pub columns : g.m ≡ h.m
  pub marks : g.grid ≡ h.grid

abbrev pub NotSpent : Given → Type 0
NotSpent g = answer g ≡ Planned (Spent g.limit) → ⊥

-- T-05: all planners call a map beyond repair in the same cases, where none of them is spent
abbrev pub PlannersAgree : Type 0
PlannersAgree =
    (g h : Given) → Good g → Good h → SameMap g h → NotSpent g → NotSpent h
    → (is_beyond (answer g) ≡ true) ↔ (is_beyond (answer h) ≡ true)

-- where the trial rule over all faults is not spent, the exact planner says the same and writes the same
abbrev pub ExactAgrees : Type 0
ExactAgrees =
    (g h : Given) → Good g → Good h → SameMap g h → g.planner ≡ Trials → h.planner ≡ Exact → NotSpent g
    → (is_repaired (answer h) ≡ is_repaired (answer g)) × (planned_directions h ≡ planned_directions g)
