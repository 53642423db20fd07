-- The operations of a run, with three planners: what each answers, and every buffer afterwards, for refused calls too.
-- The arguments `directions`, `places`, `across` and `down` are the buffers as they are lent. Assumes nothing.
use Rattle.std.specs.Prelude.{ℕ, Bool, true, false, List, [], ◌∷◌, Ok, Err}
use Rattle.array.specs.Tests.{or_else, Told, accepts, refuses_as}
use Rattle.array.specs.Buffer.{all_long, written}
use Rattle.array.specs.Map.{map_test}
use Rattle.array.specs.Tests.{Verdict}
use Rattle.plans.specs.Faults.{faults}
use Rattle.plans.specs.Check.{plan_tests, plan_test}
use Rattle.plans.specs.declared.Fault.{Fault}
use Rattle.trials.specs.Trials.{Search}
use Rattle.trials.specs.Search.{planned, outcome, directions_written}
use Rattle.trials.specs.declared.Outcome.{Outcome}
use Rattle.trials.specs.declared.Outcome.TheVariants.{Repaired, Beyond, Spent}
use Rattle.peeling.specs.Peel.{peeled_on, unpeeled_on, quick_planned}
use Rattle.exact.specs.Exact.{decided, directions_found}
use Rattle.exact.specs.declared.Decision.{Decision}
use Rattle.exact.specs.declared.Decision.TheVariants as decision
use Rattle.track.specs.Placement.{placement}
use Rattle.track.specs.Letters.{across_letters, down_letters}
use Rattle.track.specs.Ports.{Wafer}
use Rattle.track.specs.Follower.{cell_test, switches_test, followed}
use Rattle.track.specs.Follower.{Followed}
use Rattle.repair.specs.declared.Planner.{Planner}
use Rattle.repair.specs.declared.Planner.TheVariants.{Trials, Quick, Exact}
use Rattle.repair.specs.declared.Answer.{Answer}
use Rattle.repair.specs.declared.Answer.TheVariants.{Planned, Decided, Refused}

-- THE PLANNERS. What a planner keeps before its trials: nothing, or the faults that it has settled (T-05).
abbrev pub kept_by : Planner → ℕ → ℕ → List ℕ → List Fault
kept_by Trials n m grid = []
kept_by Quick n m grid = peeled_on n m grid
kept_by Exact n m grid = []

-- the faults that its trials are over
abbrev pub left_by : Planner → ℕ → ℕ → List ℕ → List ℕ
left_by Trials n m grid = faults n m grid
left_by Quick n m grid = unpeeled_on n m grid
left_by Exact n m grid = faults n m grid

-- and the trials, which are all that it counts. The exact planner makes none: it decides what those over all faults would.
abbrev pub planned_by : Planner → ℕ → ℕ → List ℕ → Search
planned_by Trials n m grid = planned n m grid
planned_by Quick n m grid = quick_planned n m grid
planned_by Exact n m grid = planned n m grid

-- whether its trials are counted against a limit
abbrev pub counts : Planner → Bool
counts Trials = true
counts Quick = true
counts Exact = false

-- what it answers by these trials: their outcome under the limit; without one, whether they find a plan
abbrev pub answer_by : Planner → ℕ → Search → Answer
answer_by Trials limit s = Planned (outcome limit s)
answer_by Quick limit s = Planned (outcome limit s)
answer_by Exact limit s = Decided (decided s)

-- and the direction buffer that it leaves
abbrev pub buffer_by : Planner → ℕ → List Fault → List ℕ → Search → List ℕ
buffer_by Trials limit kept left s = directions_written limit kept left s
buffer_by Quick limit kept left s = directions_written limit kept left s
buffer_by Exact limit kept left s = directions_found left s

-- a planner's call: 1 to 3, then what it answers
abbrev pub planner_test : ℕ → ℕ → List ℕ → List ℕ → Verdict
planner_test n m grid directions = map_test n m (grid ∷ directions ∷ []) grid

abbrev pub answer_after : Verdict → Answer → Answer
answer_after (Ok tt) a = a
answer_after (Err r) a = Refused r

unfoldable pub plan_by : Planner → ℕ → ℕ → List ℕ → List ℕ → ℕ → Answer
plan_by pl n m grid directions limit =
    answer_after (planner_test n m grid directions) (answer_by pl limit (planned_by pl n m grid))

unfoldable pub directions_by : Planner → ℕ → ℕ → List ℕ → List ℕ → ℕ → List ℕ
directions_by pl n m grid directions limit =
    written (planner_test n m grid directions)
    (buffer_by pl limit (kept_by pl n m grid) (left_by pl n m grid) (planned_by pl n m grid)) directions

-- plan_repair
abbrev pub plan_repair : ℕ → ℕ → List ℕ → List ℕ → ℕ → Answer
plan_repair = plan_by Trials

abbrev pub directions_after : ℕ → ℕ → List ℕ → List ℕ → ℕ → List ℕ
directions_after = directions_by Trials

-- plan_quickly
abbrev pub plan_quickly : ℕ → ℕ → List ℕ → List ℕ → ℕ → Answer
plan_quickly = plan_by Quick

abbrev pub directions_quickly : ℕ → ℕ → List ℕ → List ℕ → ℕ → List ℕ
directions_quickly = directions_by Quick

-- plan_exactly, which is given no limit
abbrev pub plan_exactly : ℕ → ℕ → List ℕ → List ℕ → Answer
plan_exactly n m grid directions = plan_by Exact n m grid directions 0

abbrev pub directions_exactly : ℕ → ℕ → List ℕ → List ℕ → List ℕ
directions_exactly n m grid directions = directions_by Exact n m grid directions 0

-- the kind of outcome (0 repaired, 1 beyond repair, 2 spent) and the count that it carries
abbrev pub outcome_told : Outcome → Told
outcome_told (Repaired t) = accepts (0 ∷ t ∷ [])
outcome_told (Beyond t) = accepts (1 ∷ t ∷ [])
outcome_told (Spent limit) = accepts (2 ∷ limit ∷ [])

-- what the exact planner decides (0 repaired, 1 beyond repair): it has no count
abbrev pub decision_told : Decision → Told
decision_told decision.Repaired = accepts (0 ∷ [])
decision_told decision.Beyond = accepts (1 ∷ [])

-- the outcome or the decision, or the refusal
abbrev pub told : Answer → Told
told (Planned o) = outcome_told o
told (Decided d) = decision_told d
told (Refused r) = refuses_as r

-- whether an answer says repaired, and whether it says beyond repair
abbrev pub is_repaired : Answer → Bool
is_repaired (Planned (Repaired t)) = true
is_repaired (Planned (Beyond t)) = false
is_repaired (Planned (Spent limit)) = false
is_repaired (Decided decision.Repaired) = true
is_repaired (Decided decision.Beyond) = false
is_repaired (Refused r) = false

abbrev pub is_beyond : Answer → Bool
is_beyond (Planned (Repaired t)) = false
is_beyond (Planned (Beyond t)) = true
is_beyond (Planned (Spent limit)) = false
is_beyond (Decided decision.Repaired) = false
is_beyond (Decided decision.Beyond) = true
is_beyond (Refused r) = false

-- place_cells: 1 to 7, then the placement
unfoldable pub place_cells : ℕ → ℕ → List ℕ → List ℕ → List ℕ → Verdict
place_cells n m grid directions places = plan_test n m (grid ∷ directions ∷ places ∷ []) grid directions

unfoldable pub places_after : ℕ → ℕ → List ℕ → List ℕ → List ℕ → List ℕ
places_after n m grid directions places =
    written (place_cells n m grid directions places) (placement n m grid directions) places

-- route_switches: 1 to 7, then both switch buffers
unfoldable pub route_switches : ℕ → ℕ → List ℕ → List ℕ → List ℕ → List ℕ → Verdict
route_switches n m grid directions across down = plan_test n m (grid ∷ directions ∷ across ∷ down ∷ []) grid directions

unfoldable pub across_after : ℕ → ℕ → List ℕ → List ℕ → List ℕ → List ℕ → List ℕ
across_after n m grid directions across down =
    written (route_switches n m grid directions across down) (across_letters n m grid directions) across

unfoldable pub down_after : ℕ → ℕ → List ℕ → List ℕ → List ℕ → List ℕ → List ℕ
down_after n m grid directions across down =
    written (route_switches n m grid directions across down) (down_letters n m grid directions) down

-- follow_link: 1 to 7, 15, 16, then the link, with 17 and 18. It writes nothing.
-- `right` says that all lent buffers are 1,024 long
unfoldable pub link_tests : Wafer → Bool → ℕ → ℕ → Verdict
link_tests w right cell side =
    or_else (plan_tests w.rows w.columns right w.grid w.directions)
    (or_else (cell_test w cell side) (switches_test w))

abbrev pub follow_test : Wafer → ℕ → ℕ → Verdict
follow_test w cell side = link_tests w (all_long (w.grid ∷ w.directions ∷ w.across ∷ w.down ∷ [])) cell side

abbrev pub followed_after : Verdict → Followed → Followed
followed_after (Ok tt) f = f
followed_after (Err r) f = Err r

unfoldable pub follow_link : Wafer → ℕ → ℕ → Followed
follow_link w cell side = followed_after (follow_test w cell side) (followed w cell side)
