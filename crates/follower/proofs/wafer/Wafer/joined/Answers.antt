use Rattle.std.proofs.Common.{◌∙◌, get_or}
use Rattle.track.specs.Ports.{N–S, W–E, W–S·E–N, W–N·E–S, unjoined, joined, set_to}
use Rattle.follower.proofs.Nodes.{letter_at}
use Rattle.follower.proofs.wafer.Wafer.joined.Goals as goal

pub returns-in-Across : goal.returns-in-Across
unfolding joined set_to
returns-in-Across c =
    let w = c.args.self.now in
    rw c.in-Across.is
    (rw (c.along_column.ensures, c.along_row.ensures, c.position-p.ensures.is, c.in-Across.is) at c.by_letter.ensures
    ∙ letter_at (get_or w.across.now _ 0) N–S W–E W–S·E–N W–N·E–S unjoined c.args.port.side)

pub returns-in-Down : goal.returns-in-Down
unfolding joined set_to
returns-in-Down c =
    let w = c.args.self.now in
    rw c.in-Down.is
    (rw (c.along_column-in-Down.ensures, c.along_row-in-Down.ensures, c.position-p.ensures.is, c.in-Down.is) at c.by_letter-in-Down.ensures
    ∙ letter_at (get_or w.down.now _ 0) W–E N–S W–S·E–N W–N·E–S unjoined c.args.port.side)
