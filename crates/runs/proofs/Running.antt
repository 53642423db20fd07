-- The three ends of a run: its tests refuse, the planner does not answer `repaired`, or every link is followed.
-- Assumes nothing.
use Rattle.std.specs.Prelude.{Ok, Err}
use mathlib.Core.Path.{◌≡◌, refl, sym, ap, ◌∙◌}
use mathlib.Core.Bool.{Bool, true, false, cond, ◌&&◌, false≢true}
use mathlib.Core.List.{List}
use Prim.Native.Nat.{ℕ, ◌<◌}
use native.Mathlib.Omega.{arith}
use Rattle.array.specs.Buffer.{long}
use Rattle.array.specs.declared.Refusal.{Refusal}
use Rattle.array.specs.Tests.{Verdict}
use Rattle.array.proofs.Bools.{and_true}
use Rattle.array.proofs.Formed.{formed_lent, grid_and}
use Rattle.array.proofs.Verdicts.{kept_refused, written_accepted}
use Rattle.repair.specs.Operations.{told, is_repaired, answer_by, buffer_by, answer_after, planner_test, plan_by, directions_by}
use Rattle.repair.specs.Operations.{places_after, across_after, down_after}
use Rattle.repair.specs.InUse.{InUse}
use Rattle.repair.specs.Demand3.{Given, Good, answer, planned_directions, kept_of, left_of, search_of}
use Rattle.repair.specs.Demand3.{used, places_held, routed, Demand3}
use Rattle.repair.specs.declared.Answer.{Answer}
use Rattle.repair.proofs.Calls.{answer_accepted}
use Rattle.repair.proofs.Demand3.{demand_3}
use Rattle.runs.specs.Run.{run_test, run_answer, run_directions, run_places, run_across, run_down, links_found, run_links, link_count, RanAs}
use Rattle.runs.specs.Inner.{Accepts}
use Rattle.runs.proofs.Every.{run_good, all_found}
use Rattle.repair.specs.declared.Answer.TheVariants as the-answer

never_both : {v : Verdict} {r : Refusal} → v ≡ Err r → v ≡ Ok tt → ⊥
never_both h a = let z : ◌≡◌ {A = ℕ} 0 1 = cc in omega arith

module _ (g : Given) (u32 : g.limit < 4294967296) where
  demand : run_test g ≡ Ok tt → Good g × Demand3 g
  demand p = let d = run_good g p u32 in (d, demand_3 g d)

  -- how many links the calls after `repaired` find
  abbrev found_links : ℕ
  found_links = links_found g.n g.m g.grid (planned_directions g) g.places g.across g.down

  -- The answer is a, b says whether it is `repaired`, and by b the other buffers are written or kept.
  ran : {a : Answer} {b : Bool} {ds places across down : List ℕ} {k : ℕ} → a ≡ run_answer g → is_repaired a ≡ b → ds ≡ run_directions g
      → (run_test g ≡ Ok tt → (a ≡ answer g) × (ds ≡ planned_directions g))
      → k ≡ cond b found_links 0 → places ≡ cond b (places_held g) g.places
      → across ≡ cond b (routed g).across g.across → down ≡ cond b (routed g).down g.down
      → (b ≡ true → found_links ≡ link_count g.n g.m)
      → RanAs g (record { answer = a; links = k }) ds places across down
  unfolding run_places run_across run_down run_links
  ran answered is left spoken l p x y every =
      let e = sym is ∙ ap is_repaired answered in
      record {
        answers = ap told answered;
        counts = rw e at l;
        directions_are = left;
        places_are = rw e at p;
        across_are = rw e at x;
        down_are = rw e at y;
        demand_3 = demand;
        spoken_of = spoken;
        after_repaired = λ h. let t = sym is ∙ h in (rw t at p, rw t at x, rw t at y, (rw t at l) ∙ every t);
      }

  module _ {v : Verdict} (tested : v ≡ run_test g) where
    pub ran_refused : {r : Refusal} → v ≡ Err r
        → RanAs g (record { answer = the-answer.Refused r; links = 0 }) g.directions g.places g.across g.down
    unfolding run_answer run_directions
    ran_refused h =
        ran (ap (λ (w : Verdict). answer_after w (answer g)) (sym h ∙ tested)) refl (kept_refused tested _ _ h)
        (λ p. absurd (never_both (sym tested ∙ h) p)) refl refl refl refl (λ f. absurd (false≢true f))

    -- The tests pass, and the planner answers a and leaves ds in the direction buffer.
    module _ (passed : v ≡ Ok tt)
        {a : Answer} (found : a ≡ answer_by g.planner g.limit (search_of g))
        {ds : List ℕ} (left : ds ≡ buffer_by g.planner g.limit (kept_of g) (left_of g) (search_of g)) where
      passes : run_test g ≡ Ok tt
      passes = sym tested ∙ passed

      planner_passes : planner_test g.n g.m g.grid g.directions ≡ Ok tt
      planner_passes =
          let d = (demand passes).0 in
          formed_lent g.n g.m g.grid (long g.grid && (long g.directions && true)) d.map
          (grid_and g.n g.m g.grid (long g.directions && true) d.map (rw (and_true (long g.directions) _ d.lent).0))

      as_planned : a ≡ answer g
      unfolding plan_by
      as_planned = answer_accepted refl _ planner_passes found

      as_left : ds ≡ planned_directions g
      unfolding directions_by
      as_left = written_accepted refl _ _ planner_passes left

      answered : a ≡ run_answer g
      unfolding run_answer
      answered = as_planned ∙ ap (λ (w : Verdict). answer_after w (answer g)) (sym passes)

      directions_left : ds ≡ run_directions g
      unfolding run_directions
      directions_left = written_accepted refl _ _ passes as_left

      pub ran_planned : is_repaired a ≡ false
          → RanAs g (record { answer = a; links = 0 }) ds g.places g.across g.down
      ran_planned h =
          ran answered h directions_left (λ p. (as_planned, as_left)) refl refl refl refl (λ f. absurd (false≢true f))

      module _ (repaired : is_repaired a ≡ true) where
        after : InUse (used g)
        after = ((demand passes).1.after (ap is_repaired (sym as_planned) ∙ repaired)).in_use

        pub accepts : Accepts g.n g.m g.grid ds g.places g.across g.down
        accepts = rw as_left (record { placing = after.placing_accepted; routing = after.routing_accepted })

        pub ran_repaired : {k : ℕ} {places across down : List ℕ}
            → k ≡ links_found g.n g.m g.grid ds g.places g.across g.down
            → places ≡ places_after g.n g.m g.grid ds g.places
            → across ≡ across_after g.n g.m g.grid ds g.across g.down
            → down ≡ down_after g.n g.m g.grid ds g.across g.down
            → RanAs g (record { answer = a; links = k }) ds places across down
        ran_repaired l p x y =
            ran answered repaired directions_left (λ q. (as_planned, as_left))
            (rw as_left at l) (rw as_left at p) (rw as_left at x) (rw as_left at y) (λ f. all_found g (demand passes).0 after)
