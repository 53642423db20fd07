use Rattle.std.proofs.Common.{◌≡◌, sym, ◌+◌, ◌*◌, arith}
use Rattle.array.proofs.Places.{inner_between}
use Rattle.counters.proofs.Altering.{alter_start, alter_here, alter_past, alter_end, inner_there}
use Rattle.counters.proofs.alter_all.Goals as goal

pub loop-x-init : goal.loop-x-init
loop-x-init c = (
  alter_past (alter_start c.args.south.now (omega arith)) 32 (omega arith) (omega arith) (λ k a b i. omega (arith, i.row_low)),
  alter_past (alter_start c.args.north.now (omega arith)) 32 (omega arith) (omega arith) (λ k a b i. omega (arith, i.row_low)),
  alter_past (alter_start c.args.east.now (omega arith)) 32 (omega arith) (omega arith) (λ k a b i. omega (arith, i.row_low)),
  alter_past (alter_start c.args.west.now (omega arith)) 32 (omega arith) (omega arith) (λ k a b i. omega (arith, i.row_low)),
)

pub loop-y-init : goal.loop-y-init
loop-y-init c =
    let small = c.args.path.shape.small in
    let v = c.loop-x.invariant in (
      alter_past v.0 (32 * c.loop-x.x + 1) (omega arith) (omega arith) (λ k a b i. omega (arith, i.column_low)),
      alter_past v.1 (32 * c.loop-x.x + 1) (omega arith) (omega arith) (λ k a b i. omega (arith, i.column_low)),
      alter_past v.2 (32 * c.loop-x.x + 1) (omega arith) (omega arith) (λ k a b i. omega (arith, i.column_low)),
      alter_past v.3 (32 * c.loop-x.x + 1) (omega arith) (omega arith) (λ k a b i. omega (arith, i.column_low)),
    )

pub alter_at-requires : goal.alter_at-requires
alter_at-requires c =
    let s = c.args.path.shape in
    record {
      lookup = (c.requires, omega arith, omega arith);
      inside = inner_between s.rows s.columns c.loop-x.x c.loop-y.y (omega arith) (omega arith) (omega arith) (omega arith);
    }

pub alter_at-requires-in-loop-y : goal.alter_at-requires-in-loop-y
alter_at-requires-in-loop-y c =
    let s = c.args.path.shape in
    record {
      lookup = (c.requires, omega arith, omega arith);
      inside = inner_between s.rows s.columns c.loop-x.x c.loop-y.y (omega arith) (omega arith) (omega arith) (omega arith);
    }

pub alter_at-requires-in-loop-y-2 : goal.alter_at-requires-in-loop-y-2
alter_at-requires-in-loop-y-2 c =
    let s = c.args.path.shape in
    record {
      lookup = (c.requires, omega arith, omega arith);
      inside = inner_between s.rows s.columns c.loop-x.x c.loop-y.y (omega arith) (omega arith) (omega arith) (omega arith);
    }

pub alter_at-requires-in-loop-y-3 : goal.alter_at-requires-in-loop-y-3
alter_at-requires-in-loop-y-3 c =
    let s = c.args.path.shape in
    record {
      lookup = (c.requires, omega arith, omega arith);
      inside = inner_between s.rows s.columns c.loop-x.x c.loop-y.y (omega arith) (omega arith) (omega arith) (omega arith);
    }

pub loop-y-preserved : goal.loop-y-preserved
loop-y-preserved c =
    let s = c.args.path in
    let x = c.loop-x.x in
    let y = c.loop-y.y in
    let small = s.shape.small in
    let inside = inner_between s.shape.rows s.shape.columns x y (omega arith) (omega arith) (omega arith) (omega arith) in
    let next : 32 * x + y + 1 ≡ 32 * x + (y + 1) = omega arith in
    let v = c.loop-y.invariant in
    rw (sym next) (
      alter_here v.0 (omega arith) (inner_there s.shape.rows s.shape.columns 1 s.start s.direction x y inside s.starts) c.alter_at.ensures,
      alter_here v.1 (omega arith) (inner_there s.shape.rows s.shape.columns 2 s.start s.direction x y inside s.starts) c.alter_at-in-loop-y.ensures,
      alter_here v.2 (omega arith) (inner_there s.shape.rows s.shape.columns 3 s.start s.direction x y inside s.starts) c.alter_at-in-loop-y-2.ensures,
      alter_here v.3 (omega arith) (inner_there s.shape.rows s.shape.columns 4 s.start s.direction x y inside s.starts) c.alter_at-in-loop-y-3.ensures,
    )

pub loop-x-preserved : goal.loop-x-preserved
loop-x-preserved c =
    let small = c.args.path.shape.small in
    let v = c.loop-y.invariant in (
      alter_past v.0 (32 * (c.loop-x.x + 1)) (omega arith) (omega arith) (λ k a b i. omega (arith, i.column_high)),
      alter_past v.1 (32 * (c.loop-x.x + 1)) (omega arith) (omega arith) (λ k a b i. omega (arith, i.column_high)),
      alter_past v.2 (32 * (c.loop-x.x + 1)) (omega arith) (omega arith) (λ k a b i. omega (arith, i.column_high)),
      alter_past v.3 (32 * (c.loop-x.x + 1)) (omega arith) (omega arith) (λ k a b i. omega (arith, i.column_high)),
    )

pub returns : goal.returns
returns c =
    let v = c.loop-x.invariant in (
      alter_end (alter_past v.0 1024 (omega arith) (omega arith) (λ k a b i. omega (arith, i.row_high))) (omega arith),
      alter_end (alter_past v.1 1024 (omega arith) (omega arith) (λ k a b i. omega (arith, i.row_high))) (omega arith),
      alter_end (alter_past v.2 1024 (omega arith) (omega arith) (λ k a b i. omega (arith, i.row_high))) (omega arith),
      alter_end (alter_past v.3 1024 (omega arith) (omega arith) (λ k a b i. omega (arith, i.row_high))) (omega arith),
    )
