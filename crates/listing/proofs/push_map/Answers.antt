use Rattle.std.proofs.Common.{refl, sym}
use Rattle.array.specs.Buffer.{span}
use Rattle.listing.specs.Listing.{head_line, outcome_lines, decision_lines, refusal_line}
use Rattle.listing.proofs.Along.{left_start_as, left_first, left_next, left_last, left_room}
use Rattle.listing.proofs.Cases.{map_planned, map_decided, map_refused}
use Rattle.listing.proofs.push_map.Goals as goal

pub push_head-requires : goal.push_head-requires
unfolding span
push_head-requires c =
    let a = c.args in
    let e = map_planned a.planner a.head a.grid.now c.plan_by.result refl c.plan_by.ensures.answer c.plan_by.ensures.buffer c.in-Planned.is in
    let r = outcome_lines a.head.rows a.head.columns a.grid.now c.plan_by.new.directions c.in-Planned.o in
    left_first (head_line a.head) r (left_start_as (sym e) c.requires)

pub push_outcome-requires : goal.push_outcome-requires
unfolding span
push_outcome-requires c =
    let a = c.args in
    let e = map_planned a.planner a.head a.grid.now c.plan_by.result refl c.plan_by.ensures.answer c.plan_by.ensures.buffer c.in-Planned.is in
    let r = outcome_lines a.head.rows a.head.columns a.grid.now c.plan_by.new.directions c.in-Planned.o in
    left_room r (left_next (head_line a.head) r c.push_head.ensures (left_start_as (sym e) c.requires))

pub returns-in-Planned : goal.returns-in-Planned
unfolding span
returns-in-Planned c =
    let a = c.args in
    let e = map_planned a.planner a.head a.grid.now c.plan_by.result refl c.plan_by.ensures.answer c.plan_by.ensures.buffer c.in-Planned.is in
    let r = outcome_lines a.head.rows a.head.columns a.grid.now c.plan_by.new.directions c.in-Planned.o in
    left_last r c.push_outcome.ensures (left_next (head_line a.head) r c.push_head.ensures (left_start_as (sym e) c.requires))

pub push_head-requires-in-Decided : goal.push_head-requires-in-Decided
unfolding span
push_head-requires-in-Decided c =
    let a = c.args in
    let e = map_decided a.planner a.head a.grid.now c.plan_by.result refl c.plan_by.ensures.answer c.plan_by.ensures.buffer c.in-Decided.is in
    let r = decision_lines a.head.rows a.head.columns a.grid.now c.plan_by.new.directions c.in-Decided.d in
    left_first (head_line a.head) r (left_start_as (sym e) c.requires)

pub push_decision-requires : goal.push_decision-requires
unfolding span
push_decision-requires c =
    let a = c.args in
    let e = map_decided a.planner a.head a.grid.now c.plan_by.result refl c.plan_by.ensures.answer c.plan_by.ensures.buffer c.in-Decided.is in
    let r = decision_lines a.head.rows a.head.columns a.grid.now c.plan_by.new.directions c.in-Decided.d in
    left_room r (left_next (head_line a.head) r c.push_head-in-Decided.ensures (left_start_as (sym e) c.requires))

pub returns-in-Decided : goal.returns-in-Decided
unfolding span
returns-in-Decided c =
    let a = c.args in
    let e = map_decided a.planner a.head a.grid.now c.plan_by.result refl c.plan_by.ensures.answer c.plan_by.ensures.buffer c.in-Decided.is in
    let r = decision_lines a.head.rows a.head.columns a.grid.now c.plan_by.new.directions c.in-Decided.d in
    left_last r c.push_decision.ensures (left_next (head_line a.head) r c.push_head-in-Decided.ensures (left_start_as (sym e) c.requires))

pub push_refusal-requires : goal.push_refusal-requires
unfolding span
push_refusal-requires c =
    let a = c.args in
    let e = map_refused a.planner a.head a.grid.now c.plan_by.result refl c.plan_by.ensures.answer c.plan_by.ensures.buffer c.in-Refused.is in
    left_room (refusal_line c.in-Refused.r) (left_start_as (sym e) c.requires)

pub returns-in-Refused : goal.returns-in-Refused
unfolding span
returns-in-Refused c =
    let a = c.args in
    let e = map_refused a.planner a.head a.grid.now c.plan_by.result refl c.plan_by.ensures.answer c.plan_by.ensures.buffer c.in-Refused.is in
    left_last (refusal_line c.in-Refused.r) c.push_refusal.ensures (left_start_as (sym e) c.requires)
