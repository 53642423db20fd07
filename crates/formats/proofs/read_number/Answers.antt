use Rattle.std.proofs.Common.{sym, ap}
use Rattle.formats.specs.Number.{told}
use Rattle.formats.proofs.Cases.{ended, last_group}
use Rattle.formats.proofs.read_number.Goals as goal

pub returns-then-s-at : goal.returns-then-s-at
returns-then-s-at c = rw c.at.ensures (ap told (sym (ended _ _ 2 _ c.if-s-at.true)))

pub returns-then-first-lt128 : goal.returns-then-first-lt128
returns-then-first-lt128 c = rw c.from.ensures (ap told (sym (last_group _ _ 2 _ c.if-s-at.false c.if-first-lt128.true)))
