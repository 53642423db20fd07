use Rattle.std.proofs.Common.{sym, ◌++◌}
use Rattle.listing.specs.Listing.{repair_lines, repaired_word, beyond_word, newline}
use Rattle.listing.proofs.Along.{left_start_as, left_first, left_next, left_last, left_room}
use Rattle.listing.proofs.Cases.{decision_repaired, decision_beyond}
use Rattle.listing.proofs.push_decision.Goals as goal

pub push_bytes-requires : goal.push_bytes-requires
push_bytes-requires c =
    let a = c.args in
    let e = decision_repaired a.n a.m a.grid.now a.directions.now c.in-Repaired.is in
    left_first (repaired_word ++ newline) (repair_lines a.n a.m a.grid.now a.directions.now) (left_start_as (sym e) c.requires)

pub push_repair-requires : goal.push_repair-requires
push_repair-requires c =
    let a = c.args in
    let e = decision_repaired a.n a.m a.grid.now a.directions.now c.in-Repaired.is in
    let r = repair_lines a.n a.m a.grid.now a.directions.now in
    left_room r (left_next (repaired_word ++ newline) r c.push_bytes.ensures (left_start_as (sym e) c.requires))

pub push_bytes-requires-in-Beyond : goal.push_bytes-requires-in-Beyond
push_bytes-requires-in-Beyond c =
    let a = c.args in
    let e = decision_beyond a.n a.m a.grid.now a.directions.now c.in-Beyond.is in
    left_room (beyond_word ++ newline) (left_start_as (sym e) c.requires)

pub returns-in-Repaired : goal.returns-in-Repaired
returns-in-Repaired c =
    let a = c.args in
    let e = decision_repaired a.n a.m a.grid.now a.directions.now c.in-Repaired.is in
    let r = repair_lines a.n a.m a.grid.now a.directions.now in
    left_last r c.push_repair.ensures (left_next (repaired_word ++ newline) r c.push_bytes.ensures (left_start_as (sym e) c.requires))

pub returns-in-Beyond : goal.returns-in-Beyond
returns-in-Beyond c =
    let a = c.args in
    let e = decision_beyond a.n a.m a.grid.now a.directions.now c.in-Beyond.is in
    left_last (beyond_word ++ newline) c.push_bytes-in-Beyond.ensures (left_start_as (sym e) c.requires)
