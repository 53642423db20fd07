-- The flat structs lose nothing of the answers: the statement, for every operation. A caller reads a struct by its number: 0 is an accepted call
-- with its values, any other a refusal with its places. That gives back what the answer tells, since a refusal's number is not 0.
-- Assumes nothing.
use Rattle.std.specs.Prelude.{ℕ, ◌-◌, ◌≡◌, Bool, cond, List, [], ◌∷◌, eqb}
use Rattle.array.specs.Tests.{Told, accepts, refuses, Numbered}
use Rattle.plans.specs.Check.{check_plan}
use Rattle.lists.specs.FaultList.{check_fault_list}
use Rattle.plans.specs.declared.Fault.{Fault}
use Rattle.track.specs.Ports.{Wafer}
use Rattle.repair.specs.Operations.{plan_by, place_cells, route_switches, follow_link}
use Rattle.repair.specs.Demand3.{Given}
use Rattle.repair.specs.declared.Planner.{Planner}
use Rattle.repair.specs.declared.Planner.TheVariants.{Trials, Quick, Exact}
use Rattle.repair.specs.declared.Answer.{Answer}
use Rattle.runs.specs.Run.{run_answer, run_links}
use Rattle.formats.specs.Number.{number_at}
use Rattle.readers.specs.Reading.{read_map, read_plan}
use Rattle.writers.specs.Writing.{write_map, write_plan}
use Rattle.listing.specs.Listing.{reported}
use Rattle.sessions.specs.Session.{session_started, report_test}
use Rattle.sessions.specs.declared.Session.{Session}
use Rattle.previews.specs.Preview.{foretold}
use Rattle.capi.specs.Flat.{flat_verdict, flat_started, flat_preview, flat_answer, run_of, flat_run, flat_link}
use Rattle.capi.specs.Flat.{flat_number, flat_head, flat_plan_head, flat_length}
use Rattle.capi.specs.declared.ChantspruceVerdict.{ChantspruceVerdict}
use Rattle.capi.specs.declared.ChantspruceStarted.{ChantspruceStarted}
use Rattle.capi.specs.declared.ChantsprucePreview.{ChantsprucePreview}
use Rattle.capi.specs.declared.ChantsprucePlan.{ChantsprucePlan}
use Rattle.capi.specs.declared.ChantspruceLink.{ChantspruceLink}
use Rattle.capi.specs.declared.ChantspruceNumber.{ChantspruceNumber}
use Rattle.capi.specs.declared.ChantspruceHead.{ChantspruceHead}
use Rattle.capi.specs.declared.ChantsprucePlanHead.{ChantsprucePlanHead}
use Rattle.capi.specs.declared.ChantspruceLength.{ChantspruceLength}
use Rattle.array.specs.Tests.{Verdict}
use Rattle.array.specs.Tests as tests
use Rattle.track.specs.Follower as links
use Rattle.repair.specs.Operations as operations
use Rattle.formats.specs.Number as numbers
use Rattle.readers.specs.Reading as readers
use Rattle.writers.specs.Writing as writers

-- by number, place and second place; the values are those of an accepted call
abbrev pub by_number : ℕ → ℕ → ℕ → List ℕ → Told
by_number k p q values = cond (eqb k 0) (accepts values) (refuses k p q)

-- what each struct tells
abbrev pub verdict_tells : ChantspruceVerdict → Told
verdict_tells r = by_number r.number r.place r.second []

-- the session beside it is the struct's own field
abbrev pub started_tells : ChantspruceStarted → Told
started_tells r = by_number r.number r.place r.second []

-- what is foretold stands in the struct's own fields
abbrev pub preview_tells : ChantsprucePreview → Told
preview_tells r = by_number r.number r.place r.second []

-- outcomes count from 1 in the struct and from 0 in what an answer tells; from the exact planner a caller reads no count
abbrev pub values_by : Planner → ChantsprucePlan → List ℕ
values_by Trials r = (r.outcome - 1) ∷ r.count ∷ []
values_by Quick r = (r.outcome - 1) ∷ r.count ∷ []
values_by Exact r = (r.outcome - 1) ∷ []

abbrev pub plan_tells : Planner → ChantsprucePlan → Told
plan_tells pl r = by_number r.number r.place r.second (values_by pl r)

abbrev pub link_tells : ChantspruceLink → Told
link_tells r = by_number r.number r.place r.second (r.position ∷ r.port ∷ r.switches ∷ [])

abbrev pub number_tells : ChantspruceNumber → Told
number_tells r = by_number r.number r.place r.second (r.value ∷ r.next ∷ [])

abbrev pub head_tells : ChantspruceHead → Told
head_tells r = by_number r.number r.place r.second (r.rows ∷ r.columns ∷ r.count ∷ [])

abbrev pub plan_head_tells : ChantsprucePlanHead → Told
plan_head_tells r = by_number r.number r.place r.second (r.rows ∷ r.columns ∷ r.count ∷ r.trials ∷ [])

abbrev pub length_tells : ChantspruceLength → Told
length_tells r = by_number r.number r.place r.second (r.length ∷ [])

-- an answer x, what it tells, its flat struct, and what that tells: the same, with a number of the documents where it is a refusal
pub record Kept {A B : Type 0} (told : A → Told) (flat : A → B) (tells : B → Told) (x : A) : Type 0 where
  pub numbered : Numbered (told x)
  pub same : tells (flat x) ≡ told x

-- of a planner's answer, whatever count of links is returned beside it
abbrev pub AnswerKept : Planner → ℕ → Answer → Type 0
AnswerKept pl k a = Kept operations.told (λ (x : Answer). flat_answer x k) (plan_tells pl) a

pub record NothingLost : Type 0 where
  pub by_check_plan : (n m : ℕ) (grid directions : List ℕ)
      → Kept tests.told flat_verdict verdict_tells (check_plan n m grid directions)
  pub by_check_fault_list : (n m : ℕ) (grid : List ℕ) (faults : List Fault)
      → Kept tests.told flat_verdict verdict_tells (check_fault_list n m grid faults)
  pub by_place_cells : (n m : ℕ) (grid directions places : List ℕ)
      → Kept tests.told flat_verdict verdict_tells (place_cells n m grid directions places)
  pub by_route_switches : (n m : ℕ) (grid directions across down : List ℕ)
      → Kept tests.told flat_verdict verdict_tells (route_switches n m grid directions across down)
  pub by_planner : (pl : Planner) (n m : ℕ) (grid directions : List ℕ) (limit : ℕ)
      → AnswerKept pl 0 (plan_by pl n m grid directions limit)
  pub by_follow_link : (w : Wafer) (cell side : ℕ) → Kept links.told flat_link link_tells (follow_link w cell side)
  pub by_run : (g : Given) → AnswerKept g.planner (run_links g) (run_answer g)
  pub links_of_run : (g : Given) → (flat_run (run_of g)).links ≡ run_links g
  pub by_read_number : (s : List ℕ) (at : ℕ) → Kept numbers.told flat_number number_tells (number_at s at)
  pub by_read_map : (s grid : List ℕ) → Kept readers.told_map flat_head head_tells (read_map s grid).0
  pub by_read_plan : (s directions : List ℕ) → Kept readers.told flat_plan_head plan_head_tells (read_plan s directions).0
  pub by_write_map : (n m : ℕ) (grid out : List ℕ) → Kept writers.told flat_length length_tells (write_map n m grid out).0
  pub by_write_plan : (n m : ℕ) (directions : List ℕ) (trials : ℕ) (out : List ℕ)
      → Kept writers.told flat_length length_tells (write_plan n m directions trials out).0
  pub by_report : (pl : Planner) (s out : List ℕ) → Kept writers.told flat_length length_tells (reported pl s out).0
  pub by_start_session : (n m : ℕ) (grid directions : List ℕ)
      → Kept tests.told (λ (v : Verdict). flat_started v (session_started n m grid directions)) started_tells
      (check_plan n m grid directions)
  pub by_report_processor : (s : Session) (failing : Bool) (position : ℕ)
      → Kept tests.told flat_verdict verdict_tells (report_test s failing position)
  pub by_preview_processor : (s : Session) (failing : Bool) (position : ℕ)
      → Kept tests.told (λ (v : Verdict). flat_preview v (foretold s failing position)) preview_tells
      (report_test s failing position)
