-- The answers as flat structs, which C can hold: number 0 and the values of an accepted call, or the refusal with 0 for every value.
-- Assumes nothing.
use Rattle.std.specs.Prelude.{ℕ, ◌≡◌, List, Ok, Err}
use Rattle.array.specs.Tests.{Verdict}
use Rattle.trials.specs.declared.Outcome.{Outcome}
use Rattle.trials.specs.declared.Outcome.TheVariants.{Repaired, Beyond, Spent}
use Rattle.exact.specs.declared.Decision.{Decision}
use Rattle.exact.specs.declared.Decision.TheVariants as decision
use Rattle.track.specs.Follower.{Followed}
use Rattle.repair.specs.declared.Answer.{Answer}
use Rattle.repair.specs.Demand3.{Given}
use Rattle.runs.specs.Run.{run_answer, run_links, RanAs}
use Rattle.runs.specs.declared.Ran.{Ran}
use Rattle.sessions.specs.declared.Session.{Session}
use Rattle.previews.specs.declared.Foretold.{Foretold}
use Rattle.array.specs.Reason.{number_of}
use Rattle.capi.specs.declared.ChantspruceVerdict.{ChantspruceVerdict}
use Rattle.capi.specs.declared.ChantspruceStarted.{ChantspruceStarted}
use Rattle.capi.specs.declared.ChantsprucePreview.{ChantsprucePreview}
use Rattle.capi.specs.declared.ChantsprucePlan.{ChantsprucePlan}
use Rattle.capi.specs.declared.ChantspruceLink.{ChantspruceLink}
use Rattle.capi.specs.declared.ChantspruceNumber.{ChantspruceNumber}
use Rattle.capi.specs.declared.ChantspruceHead.{ChantspruceHead}
use Rattle.capi.specs.declared.ChantsprucePlanHead.{ChantsprucePlanHead}
use Rattle.capi.specs.declared.ChantspruceLength.{ChantspruceLength}
use Rattle.repair.specs.declared.Answer.TheVariants as answer
use Rattle.formats.specs.Number.{Number}
use Rattle.readers.specs.Reading.{FileRead, MapRead}
use Rattle.writers.specs.Writing.{FileWritten}

unfoldable pub flat_verdict : Verdict → ChantspruceVerdict
flat_verdict (Ok tt) = record { number = 0; place = 0; second = 0 }
flat_verdict (Err r) = record { number = number_of r.reason; place = r.place; second = r.second }

-- T-07. An answer with a session beside it.
abbrev pub with_session : ChantspruceVerdict → Session → ChantspruceStarted
with_session a s = record { number = a.number; place = a.place; second = a.second; session = s }

abbrev pub flat_started : Verdict → Session → ChantspruceStarted
flat_started v s = with_session (flat_verdict v) s

-- T-08. An answer with what is foretold beside it.
abbrev pub with_foretold : ChantspruceVerdict → Foretold → ChantsprucePreview
with_foretold a f =
    record {
      number = a.number;
      place = a.place;
      second = a.second;
      direction = f.direction;
      south = f.south;
      north = f.north;
      east = f.east;
      west = f.west;
    }

abbrev pub flat_preview : Verdict → Foretold → ChantsprucePreview
flat_preview v f = with_foretold (flat_verdict v) f

-- an outcome by its kind and the count that it carries
abbrev pub planned_as : ℕ → ℕ → ℕ → ChantsprucePlan
planned_as kind count links =
    record { number = 0; place = 0; second = 0; outcome = kind; count = count; links = links }

-- 1 repaired, 2 beyond repair, 3 spent: none is 0, which stands for no outcome where the call is refused
unfoldable pub flat_outcome : Outcome → ℕ → ChantsprucePlan
flat_outcome (Repaired t) links = planned_as 1 t links
flat_outcome (Beyond t) links = planned_as 2 t links
flat_outcome (Spent limit) links = planned_as 3 limit links

-- what the exact planner decides, without a count
unfoldable pub flat_decision : Decision → ℕ → ChantsprucePlan
flat_decision decision.Repaired links = planned_as 1 0 links
flat_decision decision.Beyond links = planned_as 2 0 links

-- the planner's answer, with a count of links
unfoldable pub flat_answer : Answer → ℕ → ChantsprucePlan
flat_answer (answer.Planned o) links = flat_outcome o links
flat_answer (answer.Decided d) links = flat_decision d links
flat_answer (answer.Refused r) links =
    record { number = number_of r.reason; place = r.place; second = r.second; outcome = 0; count = 0; links = 0 }

-- what a run answers
abbrev pub run_of : Given → Ran
run_of g = record { answer = run_answer g; links = run_links g }

abbrev pub flat_run : Ran → ChantsprucePlan
flat_run r = flat_answer r.answer r.links

-- a run's flat result, and its promise, which holds of the result itself
abbrev pub RanFlat : Given → ChantsprucePlan → List ℕ → List ℕ → List ℕ → List ℕ → Type 0
RanFlat g r directions places across down =
    (r ≡ flat_run (run_of g)) × RanAs g (run_of g) directions places across down

unfoldable pub flat_link : Followed → ChantspruceLink
flat_link (Ok l) =
    record { number = 0; place = 0; second = 0; position = l.position; port = l.port; switches = l.switches }
flat_link (Err r) =
    record { number = number_of r.reason; place = r.place; second = r.second; position = 0; port = 0; switches = 0 }

unfoldable pub flat_number : Number → ChantspruceNumber
flat_number (Ok (v, next)) = record { number = 0; place = 0; second = 0; value = v; next = next }
flat_number (Err r) =
    record { number = number_of r.reason; place = r.place; second = r.second; value = 0; next = 0 }

unfoldable pub flat_head : MapRead → ChantspruceHead
flat_head (Ok h) =
    record { number = 0; place = 0; second = 0; rows = h.rows; columns = h.columns; count = h.count }
flat_head (Err r) =
    record { number = number_of r.reason; place = r.place; second = r.second; rows = 0; columns = 0; count = 0 }

-- T-06. Of a plan, with T.
unfoldable pub flat_plan_head : FileRead → ChantsprucePlanHead
flat_plan_head (Ok (h, t)) =
    record { number = 0; place = 0; second = 0; rows = h.rows; columns = h.columns; count = h.count; trials = t }
flat_plan_head (Err r) =
    record { number = number_of r.reason; place = r.place; second = r.second; rows = 0; columns = 0; count = 0; trials = 0 }

unfoldable pub flat_length : FileWritten → ChantspruceLength
flat_length (Ok k) = record { number = 0; place = 0; second = 0; length = k }
flat_length (Err r) =
    record { number = number_of r.reason; place = r.place; second = r.second; length = 0 }
