-- The flat structs lose nothing of the answers.
-- Assumes nothing.
use Rattle.array.specs.Reason.{number_of}
use Rattle.std.specs.Prelude.{Ok, Err}
use Prim.Native.Nat.{ℕ}
use mathlib.Core.Path.{◌≡◌, refl}
use mathlib.Core.Bool.{cond}
use mathlib.Core.List.{List, [], ◌∷◌}
use native.Mathlib.Omega.{arith}
use borrow.Author.Tests.{ne_eqb}
use Rattle.array.specs.Tests.{refuses_as, Numbered}
use Rattle.array.specs.declared.Refusal.{Refusal}
use Rattle.array.specs.Tests.{Verdict}
use Rattle.array.proofs.Numbered.{map_numbered}
use Rattle.plans.proofs.Numbered.{plan_numbered}
use Rattle.lists.proofs.Numbered.{fault_list_numbered}
use Rattle.trials.specs.Trials.{Search}
use Rattle.trials.specs.Search.{outcome}
use Rattle.trials.specs.declared.Outcome.{Outcome}
use Rattle.trials.specs.declared.Outcome.TheVariants.{Repaired, Beyond, Spent}
use Rattle.exact.specs.Exact.{decided}
use Rattle.exact.specs.declared.Decision.{Decision}
use Rattle.exact.specs.declared.Decision.TheVariants as decision
use Rattle.track.specs.Follower.{Followed}
use Rattle.repair.specs.Operations.{is_repaired, place_cells, route_switches}
use Rattle.repair.specs.Demand3.{Given, answer, planned_directions}
use Rattle.repair.specs.declared.Planner.{Planner}
use Rattle.repair.specs.declared.Planner.TheVariants.{Trials, Quick, Exact}
use Rattle.repair.specs.declared.Answer.{Answer}
use Rattle.repair.proofs.Numbered.{plan_numbered_by, follow_link_numbered}
use Rattle.runs.specs.Run.{run_test, run_answer, run_links, links_found}
use Rattle.formats.specs.declared.Kind.TheVariants.{Map, Plan}
use Rattle.formats.proofs.Numbered.{number_numbered}
use Rattle.readers.proofs.Numbered.{file_numbered}
use Rattle.writers.proofs.Numbered.{write_numbered, text_numbered}
use Rattle.listing.specs.Listing.{listing}
use Rattle.sessions.specs.declared.Session.{Session}
use Rattle.sessions.proofs.Numbered.{report_numbered}
use Rattle.previews.specs.declared.Foretold.{Foretold}
use Rattle.capi.specs.Flat.{flat_verdict, flat_started, flat_preview, flat_outcome, flat_decision}
use Rattle.capi.specs.Flat.{flat_answer, run_of, flat_run, flat_link}
use Rattle.capi.specs.Flat.{flat_number, flat_head, flat_plan_head, flat_length}
use Rattle.capi.specs.Tells.{by_number, verdict_tells, link_tells, number_tells, head_tells, plan_head_tells, length_tells}
use Rattle.capi.specs.Tells.{plan_tells, started_tells, preview_tells, Kept, AnswerKept, NothingLost}
use Rattle.array.specs.Tests as tests
use Rattle.track.specs.Follower as links
use Rattle.repair.specs.Operations as operations
use Rattle.repair.specs.declared.Answer.TheVariants as answers
use Rattle.formats.specs.Number as numbers
use Rattle.readers.specs.Reading as readers
use Rattle.readers.proofs.Numbered as read
use Rattle.writers.specs.Writing as writers
use Rattle.formats.specs.Number.{Number}
use Rattle.readers.specs.Reading.{FileRead, MapRead}
use Rattle.writers.specs.Writing.{FileWritten}

-- a number from 1 on tells a refusal
refused : (r : Refusal) (values : List ℕ) → Numbered (refuses_as r)
    → by_number (number_of r.reason) r.place r.second values ≡ refuses_as r
refused r values h = rw (ne_eqb (number_of r.reason) 0 (λ e. omega arith))

-- ANSWERS, BY SHAPE

verdict_kept : (v : Verdict) → Numbered (tests.told v) → Kept tests.told flat_verdict verdict_tells v
unfolding flat_verdict
verdict_kept (Ok tt) h = record { numbered = h; same = refl }
verdict_kept (Err r) h = record { numbered = h; same = refused r [] h }

-- beside any session
started_kept : (v : Verdict) (s : Session) → Numbered (tests.told v)
    → Kept tests.told (λ (x : Verdict). flat_started x s) started_tells v
started_kept v s h = record { numbered = h; same = (verdict_kept v h).same }

-- beside whatever is foretold
preview_kept : (v : Verdict) (f : Foretold) → Numbered (tests.told v)
    → Kept tests.told (λ (x : Verdict). flat_preview x f) preview_tells v
preview_kept v f h = record { numbered = h; same = (verdict_kept v h).same }

-- the values that a caller reads, of a planner's own kind of answer
outcome_same : (o : Outcome) (k : ℕ) → plan_tells Trials (flat_outcome o k) ≡ operations.outcome_told o
unfolding flat_outcome
outcome_same (Repaired t) k = refl
outcome_same (Beyond t) k = refl
outcome_same (Spent t) k = refl

decision_same : (d : Decision) (k : ℕ) → plan_tells Exact (flat_decision d k) ≡ operations.decision_told d
unfolding flat_decision
decision_same decision.Repaired k = refl
decision_same decision.Beyond k = refl

answer_same : (pl : Planner) (limit : ℕ) (s : Search) (k : ℕ)
    → plan_tells pl (flat_answer (operations.answer_by pl limit s) k) ≡ operations.told (operations.answer_by pl limit s)
unfolding flat_answer
answer_same Trials limit s k = outcome_same (outcome limit s) k
answer_same Quick limit s k = outcome_same (outcome limit s) k
answer_same Exact limit s k = decision_same (decided s) k

refused_same : (pl : Planner) (r : Refusal) (k : ℕ) → Numbered (refuses_as r)
    → plan_tells pl (flat_answer (answers.Refused r) k) ≡ refuses_as r
unfolding flat_answer
refused_same pl r k h = refused r _ h

after_same : (pl : Planner) (v : Verdict) (a : Answer) (k : ℕ) → Numbered (tests.told v)
    → plan_tells pl (flat_answer a k) ≡ operations.told a
    → plan_tells pl (flat_answer (operations.answer_after v a) k) ≡ operations.told (operations.answer_after v a)
after_same pl (Ok tt) a k h e = e
after_same pl (Err r) a k h e = refused_same pl r k h

planner_same : (pl : Planner) (n m : ℕ) (grid directions : List ℕ) (limit k : ℕ)
    → plan_tells pl (flat_answer (operations.plan_by pl n m grid directions limit) k)
    ≡ operations.told (operations.plan_by pl n m grid directions limit)
unfolding operations.plan_by
planner_same pl n m grid directions limit k =
    after_same pl (operations.planner_test n m grid directions) _ k (map_numbered n m _ grid).numbered
    (answer_same pl limit (operations.planned_by pl n m grid) k)

link_kept : (f : Followed) → Numbered (links.told f) → Kept links.told flat_link link_tells f
unfolding flat_link
link_kept (Ok l) h = record { numbered = h; same = refl }
link_kept (Err r) h = record { numbered = h; same = refused r (0 ∷ 0 ∷ 0 ∷ []) h }

number_kept : (a : Number) → Numbered (numbers.told a) → Kept numbers.told flat_number number_tells a
unfolding flat_number
number_kept (Ok (v, next)) h = record { numbered = h; same = refl }
number_kept (Err r) h = record { numbered = h; same = refused r (0 ∷ 0 ∷ []) h }

head_kept : (a : MapRead) → Numbered (readers.told_map a) → Kept readers.told_map flat_head head_tells a
unfolding flat_head
head_kept (Ok head) h = record { numbered = h; same = refl }
head_kept (Err r) h = record { numbered = h; same = refused r (0 ∷ 0 ∷ 0 ∷ []) h }

plan_head_kept : (a : FileRead) → Numbered (readers.told a) → Kept readers.told flat_plan_head plan_head_tells a
unfolding flat_plan_head
plan_head_kept (Ok (head, t)) h = record { numbered = h; same = refl }
plan_head_kept (Err r) h = record { numbered = h; same = refused r (0 ∷ 0 ∷ 0 ∷ 0 ∷ []) h }

length_kept : (a : FileWritten) → Numbered (writers.told a) → Kept writers.told flat_length length_tells a
unfolding flat_length
length_kept (Ok k) h = record { numbered = h; same = refl }
length_kept (Err r) h = record { numbered = h; same = refused r (0 ∷ []) h }

-- OPERATIONS

places_kept : (n m : ℕ) (grid directions places : List ℕ)
    → Kept tests.told flat_verdict verdict_tells (place_cells n m grid directions places)
unfolding place_cells
places_kept n m grid directions places = verdict_kept _ (plan_numbered n m _ grid directions).numbered

switches_kept : (n m : ℕ) (grid directions across down : List ℕ)
    → Kept tests.told flat_verdict verdict_tells (route_switches n m grid directions across down)
unfolding route_switches
switches_kept n m grid directions across down = verdict_kept _ (plan_numbered n m _ grid directions).numbered

after_numbered : (v : Verdict) (a : Answer) → Numbered (tests.told v) → Numbered (operations.told a)
    → Numbered (operations.told (operations.answer_after v a))
after_numbered (Err r) a h n = h
after_numbered (Ok tt) a h n = n

run_kept : (g : Given) → AnswerKept g.planner (run_links g) (run_answer g)
unfolding run_answer
run_kept g =
    let t = (map_numbered g.n g.m _ g.grid).numbered in
    record {
      numbered =
          after_numbered (run_test g) (answer g) t
          (plan_numbered_by g.planner g.n g.m g.grid g.directions g.limit).numbered;
      same =
          after_same g.planner (run_test g) (answer g) (run_links g) t
          (planner_same g.planner g.n g.m g.grid g.directions g.limit (run_links g));
    }

-- a run that is refused has found no links
links_kept : (a : Answer) (k : ℕ) → (flat_answer a (cond (is_repaired a) k 0)).links ≡ cond (is_repaired a) k 0
unfolding flat_answer flat_outcome flat_decision
links_kept (answers.Planned (Repaired t)) k = refl
links_kept (answers.Planned (Beyond t)) k = refl
links_kept (answers.Planned (Spent t)) k = refl
links_kept (answers.Decided decision.Repaired) k = refl
links_kept (answers.Decided decision.Beyond) k = refl
links_kept (answers.Refused r) k = refl

run_links_kept : (g : Given) → (flat_run (run_of g)).links ≡ run_links g
unfolding run_links
run_links_kept g =
    links_kept (run_answer g) (links_found g.n g.m g.grid (planned_directions g) g.places g.across g.down)

pub nothing_lost : NothingLost
nothing_lost =
    record {
      by_check_plan = λ n m grid directions. verdict_kept _ (plan_numbered n m _ grid directions).numbered;
      by_check_fault_list = λ n m grid faults. verdict_kept _ (fault_list_numbered n m grid faults).numbered;
      by_place_cells = places_kept;
      by_route_switches = switches_kept;
      by_planner = λ pl n m grid directions limit.
          record {
            numbered = (plan_numbered_by pl n m grid directions limit).numbered;
            same = planner_same pl n m grid directions limit 0;
          };
      by_follow_link = λ w cell side. link_kept _ (follow_link_numbered w cell side).numbered;
      by_run = run_kept;
      links_of_run = run_links_kept;
      by_read_number = λ s at. number_kept _ (number_numbered s at).numbered;
      by_read_map = λ s grid. head_kept _ (read.map_numbered (readers.read_file Map s grid).0 (file_numbered Map s grid).numbered);
      by_read_plan = λ s directions. plan_head_kept _ (file_numbered Plan s directions).numbered;
      by_write_map = λ n m grid out. length_kept _ (write_numbered Map n m grid 0 out).numbered;
      by_write_plan = λ n m directions trials out. length_kept _ (write_numbered Plan n m directions trials out).numbered;
      by_report = λ pl s out. length_kept _ (text_numbered (listing pl s) out).numbered;
      by_start_session = λ n m grid directions. started_kept _ _ (plan_numbered n m _ grid directions).numbered;
      by_report_processor = λ s failing position. verdict_kept _ (report_numbered s failing position).numbered;
      by_preview_processor = λ s failing position. preview_kept _ _ (report_numbered s failing position).numbered;
    }
