use Rattle.std.proofs.Common.{sym, ◌∙◌, arith}
use Rattle.paths.proofs.Ways.{start_way, start_inner}
use Rattle.paths.proofs.Walking.{path_long, open_start, open_end, open_by_mark}
use Rattle.paths.proofs.Path.is_free.Goals as goal

pub loop-k-init : goal.loop-k-init
loop-k-init c =
    let s = c.args.self in
    let t = s.starts in
    let l = path_long s.shape.rows s.shape.columns s.start s.direction t.rows t.columns (start_way t) (start_inner t) in
    (omega (arith, l), open_start s.shape.rows s.shape.columns c.args.grid.now s.start s.direction (omega (arith, l)))

pub returns-then-is_faulty : goal.returns-then-is_faulty
returns-then-is_faulty c =
    let s = c.args.self in
    let r = c.step in
    sym (c.loop-k.invariant.1
    ∙ open_by_mark s.shape.rows s.shape.columns c.args.grid.now s.start s.direction c.loop-k.k r.result (omega arith) r.ensures.0
    (omega (arith, r.ensures.1)) c.is_faulty.ensures c.if-is_faulty.true)

pub loop-k-preserved : goal.loop-k-preserved
loop-k-preserved c =
    let s = c.args.self in
    let r = c.step in (
      omega arith,
      c.loop-k.invariant.1
          ∙ open_by_mark s.shape.rows s.shape.columns c.args.grid.now s.start s.direction c.loop-k.k r.result (omega arith) r.ensures.0
          (omega (arith, r.ensures.1)) c.is_faulty.ensures c.if-is_faulty.false,
    )

pub returns : goal.returns
returns c =
    let s = c.args.self in
    sym (c.loop-k.invariant.1
    ∙ open_end s.shape.rows s.shape.columns c.args.grid.now s.start s.direction c.loop-k.k (omega arith))
