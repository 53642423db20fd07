use Rattle.std.proofs.Common.{sym, ◌∙◌, arith}
use Rattle.trials.proofs.Testing.{start_below}
use Rattle.peeling.proofs.Planning.{starts_size, starts_short, starts_room, starts_are, starts_searchable, held_low, held_are, quick_end}
use Rattle.peeling.proofs.find_plan.Goals as goal

pub search_within-found-requires : goal.search_within-found-requires
search_within-found-requires c =
    let e = c.peel-settled.ensures in
    let l = c.list_faults-count.ensures in
    let many = c.peel-settled.auto.left ∙ sym l.size in
    let m = c.args.map.now in
    let short = starts_short e _ many _ l.short in
    (starts_searchable e _ many _ m.shape.small.0 m.shape.small.1 m.long, short, short)

pub write_found-requires : goal.write_found-requires
write_found-requires c =
    let e = c.peel-settled.ensures in
    let l = c.list_faults-count.ensures in
    let many = c.peel-settled.auto.left ∙ sym l.size in
    let m = c.args.map.now in
    (starts_room e _ many _ _ (omega (arith, l.short)), start_below (starts_searchable e _ many _ m.shape.small.0 m.shape.small.1 m.long))

pub complete-requires : goal.complete-requires
complete-requires c =
    let e = c.peel-settled.ensures in
    let l = c.list_faults-count.ensures in
    let many = c.peel-settled.auto.left ∙ sym l.size in
    held_low c.peel-settled.new.held e (omega (arith, e.within, many, l.short))

pub returns : goal.returns
returns c =
    let e = c.peel-settled.ensures in
    let l = c.list_faults-count.ensures in
    let many = c.peel-settled.auto.left ∙ sym l.size in
    let m = c.args.map.now in
    quick_end _ _ _ _ _ _ _ _ _ _ _ m.shape.small.0 m.shape.small.1 (starts_are e _ many _) (held_are c.peel-settled.new.held e (omega (arith, e.within, many, l.short)))
    (sym (starts_size e _ many _)) c.search_within-found.ensures.outcome c.search_within-found.ensures.plan
    c.write_found.ensures c.complete.ensures
