use Rattle.std.proofs.Common.{◌++◌}
use Rattle.array.specs.Buffer.{span}
use Rattle.listing.specs.Listing.{along, fault_bytes, seat_bytes, switch_line, across_word, down_word}
use Rattle.listing.proofs.Along.{left_start_as, left_first, left_next, left_last, left_room}
use Rattle.listing.proofs.Cases.{repair_is}
use Rattle.listing.proofs.push_repair.Goals as goal

pub push_paths-requires : goal.push_paths-requires
unfolding span
push_paths-requires c =
    let a = c.args in
    let p = along (fault_bytes a.n a.m a.directions.now) 0 a.grid.now in
    let s = along (seat_bytes a.n a.m) 0 c.place_cells.new.places in
    let x = switch_line across_word c.route_switches.new.across in
    let d = switch_line down_word c.route_switches.new.down in
    let e = repair_is a.n a.m a.grid.now a.directions.now c.place_cells.ensures.buffer c.route_switches.ensures.buffers.0 c.route_switches.ensures.buffers.1 in
    left_first p (s ++ (x ++ d)) (left_start_as e c.requires)

pub push_cells-requires : goal.push_cells-requires
unfolding span
push_cells-requires c =
    let a = c.args in
    let p = along (fault_bytes a.n a.m a.directions.now) 0 a.grid.now in
    let s = along (seat_bytes a.n a.m) 0 c.place_cells.new.places in
    let x = switch_line across_word c.route_switches.new.across in
    let d = switch_line down_word c.route_switches.new.down in
    let e = repair_is a.n a.m a.grid.now a.directions.now c.place_cells.ensures.buffer c.route_switches.ensures.buffers.0 c.route_switches.ensures.buffers.1 in
    left_first s (x ++ d) (left_next p (s ++ (x ++ d)) c.push_paths.ensures (left_start_as e c.requires))

pub push_switches-requires : goal.push_switches-requires
unfolding span
push_switches-requires c =
    let a = c.args in
    let p = along (fault_bytes a.n a.m a.directions.now) 0 a.grid.now in
    let s = along (seat_bytes a.n a.m) 0 c.place_cells.new.places in
    let x = switch_line across_word c.route_switches.new.across in
    let d = switch_line down_word c.route_switches.new.down in
    let e = repair_is a.n a.m a.grid.now a.directions.now c.place_cells.ensures.buffer c.route_switches.ensures.buffers.0 c.route_switches.ensures.buffers.1 in
    left_first x d
    (left_next s (x ++ d) c.push_cells.ensures (left_next p (s ++ (x ++ d)) c.push_paths.ensures (left_start_as e c.requires)))

pub push_switches-requires-2 : goal.push_switches-requires-2
unfolding span
push_switches-requires-2 c =
    let a = c.args in
    let p = along (fault_bytes a.n a.m a.directions.now) 0 a.grid.now in
    let s = along (seat_bytes a.n a.m) 0 c.place_cells.new.places in
    let x = switch_line across_word c.route_switches.new.across in
    let d = switch_line down_word c.route_switches.new.down in
    let e = repair_is a.n a.m a.grid.now a.directions.now c.place_cells.ensures.buffer c.route_switches.ensures.buffers.0 c.route_switches.ensures.buffers.1 in
    left_room d (left_next x d c.push_switches.ensures
    (left_next s (x ++ d) c.push_cells.ensures (left_next p (s ++ (x ++ d)) c.push_paths.ensures (left_start_as e c.requires))))

pub returns : goal.returns
unfolding span
returns c =
    let a = c.args in
    let p = along (fault_bytes a.n a.m a.directions.now) 0 a.grid.now in
    let s = along (seat_bytes a.n a.m) 0 c.place_cells.new.places in
    let x = switch_line across_word c.route_switches.new.across in
    let d = switch_line down_word c.route_switches.new.down in
    let e = repair_is a.n a.m a.grid.now a.directions.now c.place_cells.ensures.buffer c.route_switches.ensures.buffers.0 c.route_switches.ensures.buffers.1 in
    left_last d c.push_switches-2.ensures (left_next x d c.push_switches.ensures
    (left_next s (x ++ d) c.push_cells.ensures (left_next p (s ++ (x ++ d)) c.push_paths.ensures (left_start_as e c.requires))))
