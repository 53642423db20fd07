use Rattle.std.proofs.Common.{◌≡◌, sym, ◌+◌, ◌*◌, arith}
use Rattle.array.proofs.Places.{inner_between}
use Rattle.counters.proofs.Altering.{alter_start, alter_here, alter_past, alter_end, inner_there}
use Rattle.counters.proofs.alter_counters.Goals as goal

pub loop-x-init : goal.loop-x-init
loop-x-init c =
    alter_past (alter_start c.args.counters.now (omega arith)) 32 (omega arith) (omega arith) (λ k a b i. omega (arith, i.row_low))

pub loop-y-init : goal.loop-y-init
loop-y-init c =
    let s = c.args.path in
    let small = s.shape.small in
    alter_past c.loop-x.invariant (32 * c.loop-x.x + 1) (omega arith) (omega arith) (λ k a b i. omega (arith, i.column_low))

pub alter_at-requires : goal.alter_at-requires
alter_at-requires c =
    let s = c.args.path.shape in
    record {
      lookup = c.requires;
      inside = inner_between s.rows s.columns c.loop-x.x c.loop-y.y (omega arith) (omega arith) (omega arith) (omega arith);
    }

pub loop-y-preserved : goal.loop-y-preserved
loop-y-preserved c =
    let s = c.args.path in
    let x = c.loop-x.x in
    let y = c.loop-y.y in
    let small = s.shape.small in
    let inside = inner_between s.shape.rows s.shape.columns x y (omega arith) (omega arith) (omega arith) (omega arith) in
    let here = inner_there s.shape.rows s.shape.columns c.args.d s.start s.direction x y inside s.starts in
    let next : 32 * x + y + 1 ≡ 32 * x + (y + 1) = omega arith in
    rw (sym next) (alter_here c.loop-y.invariant (omega arith) here c.alter_at.ensures)

pub loop-x-preserved : goal.loop-x-preserved
loop-x-preserved c =
    alter_past c.loop-y.invariant (32 * (c.loop-x.x + 1)) (omega arith) (omega arith) (λ k a b i. omega (arith, i.column_high))

pub returns : goal.returns
returns c =
    alter_end (alter_past c.loop-x.invariant 1024 (omega arith) (omega arith) (λ k a b i. omega (arith, i.row_high))) (omega arith)
