use Rattle.std.proofs.Common.{◌∙◌, ◌<◌, length, arith}
use Rattle.plans.proofs.Entries.{path_beside, byte_is_test, south_accepted}
use Rattle.plans.proofs.check_pair_at.Goals as goal

pub returns-then-ds-j-eq1 : goal.returns-then-ds-j-eq1
returns-then-ds-j-eq1 c n m grid s o =
    south_accepted s c.args.i c.args.j c.requires.3 c.requires.4 o c.if-ds-j-eq1.true

pub find_entry-found-requires : goal.find_entry-found-requires
find_entry-found-requires c =
    let h = c.requires in
    let i = c.args.i in
    let j = c.args.j in
    let low : i < length c.args.starts.now = omega (arith, h.3, h.4) in
    (h.0, path_beside h.1 i _ low (h.2.each i low), path_beside h.1 j _ h.4 (h.2.each j h.4))

pub returns : goal.returns
returns c n m grid s o =
    let h = c.requires in
    let r = rw (c.from.ensures, c.from-2.ensures) at c.check_clash.ensures in
    r ∙ byte_is_test s c.args.i c.args.j h.3 h.4 h.1 _ c.find_entry-found.ensures
