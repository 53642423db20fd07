use Rattle.std.proofs.Common.{◌≡◌, refl, ap, subst, ◌∙◌, not, ℕ, ◌≤◌, get_or, arith}
use Rattle.std.specs.Prelude.{Err}
use Rattle.array.specs.Place.{position}
use Rattle.array.specs.Map.{allowed_at, allowed}
use Rattle.array.proofs.Places.{position_read}
use Rattle.array.proofs.Scans.{buffer_scan, seek_start, seek_stop_if, seek_pass_if, seek_none}
use Rattle.array.proofs.check_marks.Invariants.{Passed}
use Rattle.array.proofs.check_marks.Goals as goal

-- by row and column, as the code asks
allowed_here : (n m x y mark : ℕ) → y ≤ 31 → allowed_at n m x y mark ≡ allowed n m (position x y) mark
allowed_here n m x y mark h = let r = position_read x y h in rw (r.0, r.1)

pub loop-x-init : goal.loop-x-init
loop-x-init c = seek_start (buffer_scan _ _) 0 (omega arith)

pub loop-y-init : goal.loop-y-init
loop-y-init c = let m = c.args.map.now in (omega arith, subst (Passed m.shape.rows m.shape.columns m.grid.now) (omega arith) c.loop-x.invariant)

pub returns-then-not-is_allowed : goal.returns-then-not-is_allowed
returns-then-not-is_allowed c =
    let m = c.args.map.now in
    let within : c.loop-y.y ≤ 31 = omega arith in
    let e = c.is_allowed.ensures ∙ allowed_here m.shape.rows m.shape.columns c.loop-x.x c.loop-y.y (get_or m.grid.now (position c.loop-x.x c.loop-y.y) 0) within in
    ap Err c.at.ensures ∙ seek_stop_if c.loop-y.invariant.1 3 _ 0 (omega (arith, m.long)) refl (ap not e) (ap not c.if-not-is_allowed.true)

pub loop-y-preserved : goal.loop-y-preserved
loop-y-preserved c =
    let m = c.args.map.now in
    let within : c.loop-y.y ≤ 31 = omega arith in
    let e = c.is_allowed.ensures ∙ allowed_here m.shape.rows m.shape.columns c.loop-x.x c.loop-y.y (get_or m.grid.now (position c.loop-x.x c.loop-y.y) 0) within in (
      omega arith,
      subst (Passed m.shape.rows m.shape.columns m.grid.now) (omega arith)
          (seek_pass_if c.loop-y.invariant.1 3 _ 0 (omega (arith, m.long)) refl (ap not e) (ap not c.if-not-is_allowed.false)),
    )

pub loop-x-preserved : goal.loop-x-preserved
loop-x-preserved c =
    let m = c.args.map.now in
    subst (Passed m.shape.rows m.shape.columns m.grid.now) (omega (arith, c.loop-y.invariant.0)) c.loop-y.invariant.1

pub returns : goal.returns
returns c = seek_none c.loop-x.invariant (omega (arith, c.args.map.now.long))
