use Rattle.std.proofs.Common.{sym, [], ◌∷◌}
use Rattle.listing.specs.Listing.{line, repair_lines, repaired_word, beyond_word, spent_word, newline}
use Rattle.listing.proofs.Along.{left_start_as, left_first, left_next, left_last, left_room}
use Rattle.listing.proofs.Cases.{outcome_repaired, outcome_beyond, outcome_spent}
use Rattle.listing.proofs.push_outcome.Goals as goal

pub push_count-requires : goal.push_count-requires
push_count-requires c =
    let a = c.args in
    let e = outcome_repaired a.n a.m a.grid.now a.directions.now c.in-Repaired.is in
    left_first (line repaired_word (c.in-Repaired.t ∷ []) newline) (repair_lines a.n a.m a.grid.now a.directions.now)
    (left_start_as (sym e) c.requires)

pub push_repair-requires : goal.push_repair-requires
push_repair-requires c =
    let a = c.args in
    let e = outcome_repaired a.n a.m a.grid.now a.directions.now c.in-Repaired.is in
    let r = repair_lines a.n a.m a.grid.now a.directions.now in
    left_room r (left_next (line repaired_word (c.in-Repaired.t ∷ []) newline) r c.push_count.ensures (left_start_as (sym e) c.requires))

pub returns-in-Repaired : goal.returns-in-Repaired
returns-in-Repaired c =
    let a = c.args in
    let e = outcome_repaired a.n a.m a.grid.now a.directions.now c.in-Repaired.is in
    let r = repair_lines a.n a.m a.grid.now a.directions.now in
    left_last r c.push_repair.ensures
    (left_next (line repaired_word (c.in-Repaired.t ∷ []) newline) r c.push_count.ensures (left_start_as (sym e) c.requires))

pub push_count-requires-in-Beyond : goal.push_count-requires-in-Beyond
push_count-requires-in-Beyond c =
    let a = c.args in
    let e = outcome_beyond a.n a.m a.grid.now a.directions.now c.in-Beyond.is in
    left_room (line beyond_word (c.in-Beyond.t ∷ []) newline) (left_start_as (sym e) c.requires)

pub returns-in-Beyond : goal.returns-in-Beyond
returns-in-Beyond c =
    let a = c.args in
    let e = outcome_beyond a.n a.m a.grid.now a.directions.now c.in-Beyond.is in
    left_last (line beyond_word (c.in-Beyond.t ∷ []) newline) c.push_count-in-Beyond.ensures (left_start_as (sym e) c.requires)

pub push_count-requires-in-Spent : goal.push_count-requires-in-Spent
push_count-requires-in-Spent c =
    let a = c.args in
    let e = outcome_spent a.n a.m a.grid.now a.directions.now c.in-Spent.is in
    left_room (line spent_word (c.in-Spent.t ∷ []) newline) (left_start_as (sym e) c.requires)

pub returns-in-Spent : goal.returns-in-Spent
returns-in-Spent c =
    let a = c.args in
    let e = outcome_spent a.n a.m a.grid.now a.directions.now c.in-Spent.is in
    left_last (line spent_word (c.in-Spent.t ∷ []) newline) c.push_count-in-Spent.ensures (left_start_as (sym e) c.requires)
