use Rattle.std.proofs.Common.{rules}
use Rattle.counters.specs.Inner.{is_coming}
use Rattle.sessions.specs.Session.{session}
use Rattle.sessions.proofs.Judging.{none_altered}
use Rattle.sessions.proofs.Session.alter_counters.Goals as goal

pub returns-else-e-ne0 : goal.returns-else-e-ne0
returns-else-e-ne0 c =
    let s = c.args.self.now in
    let z = c.if-e-ne0.false in
    let up = is_coming c.args.change in
    let south = none_altered s.rows s.columns up c.args.p c.args.e 1 s.south z (search rules) in
    let north = none_altered s.rows s.columns up c.args.p c.args.e 2 s.north z (search rules) in
    let east = none_altered s.rows s.columns up c.args.p c.args.e 3 s.east z (search rules) in
    let west = none_altered s.rows s.columns up c.args.p c.args.e 4 s.west z (search rules) in
    λ i. session s.rows s.columns s.grid s.directions (south i) (north i) (east i) (west i)
