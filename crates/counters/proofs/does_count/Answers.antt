use Rattle.std.proofs.Common.{Bool, not, ◌&&◌, nat_eq, sym, ap, ◌∙◌}
use borrow.Author.Tests.{ne_eqb}
use Rattle.array.specs.Place.{position}
use Rattle.counters.proofs.Altering.{own_uncounted, entry_counts}
use Rattle.counters.proofs.does_count.Goals as goal

pub returns-then-x-y : goal.returns-then-x-y
returns-then-x-y c =
    let s = c.args.path in
    sym (own_uncounted s.shape.rows s.shape.columns c.args.d (position c.args.x c.args.y) s.start s.direction c.if-x-y.true)

pub returns : goal.returns
returns c =
    let s = c.args.path in
    let l = c.requires.lookup in
    let p = position c.args.x c.args.y in
    ap (λ (b : Bool). not b && not (nat_eq c.find_entry-found.result 0)) (sym (ne_eqb p s.start c.if-x-y.false))
    ∙ entry_counts s.shape.rows s.shape.columns c.args.d s.start s.direction c.args.x c.args.y c.requires.inside s.starts l.1 l.2
    c.find_entry-found.ensures
