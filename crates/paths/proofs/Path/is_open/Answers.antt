use Rattle.std.proofs.Common.{◌≡◌, refl, sym, ap, ◌∙◌, Bool, true, false, not, ◌&&◌, ◌||◌, ℕ, ◌<◌, List, length, get_or, arith}
use Rattle.array.specs.Map.{dead_mark}
use Rattle.array.proofs.Marks.{mark_read}
use Rattle.paths.specs.Path.{from_rim, may_start, is_free, is_open}
use Rattle.paths.proofs.Ways.{start_inner}
use Rattle.paths.proofs.Path.is_open.Goals as goal

-- not from the rim is what stops a dead start
started : (a b : Bool) → (not a || b) ≡ not (a && not b)
started true true = refl
started true false = refl
started false b = refl

-- where a path may start, by what is answered of the mark and of the rim
start_by : (n m p d : ℕ) (grid : List ℕ) {r s : Bool} → p < length grid → r ≡ dead_mark (get_or grid p 0) → s ≡ from_rim n m p d
    → may_start n m grid p d ≡ not (r && not s)
start_by n m p d grid {r} {s} h e f = rw (mark_read grid p h, ← e, ← f) (started r s)

pub returns-then-is_dead-is_from_rim : goal.returns-then-is_dead-is_from_rim
unfolding is_open
returns-then-is_dead-is_from_rim c =
    let s = c.args.self in
    let e = start_by s.shape.rows s.shape.columns s.start s.direction c.args.grid.now (omega (arith, start_inner s.starts)) c.is_dead.ensures c.is_from_rim.ensures in
    sym (ap (λ (b : Bool). b && is_free s.shape.rows s.shape.columns c.args.grid.now s.start s.direction)
    (e ∙ ap not c.if-is_dead-is_from_rim.true))

pub returns : goal.returns
unfolding is_open
returns c =
    let s = c.args.self in
    let e = start_by s.shape.rows s.shape.columns s.start s.direction c.args.grid.now (omega (arith, start_inner s.starts)) c.is_dead.ensures c.is_from_rim.ensures in
    c.is_free.ensures
    ∙ sym (ap (λ (b : Bool). b && is_free s.shape.rows s.shape.columns c.args.grid.now s.start s.direction)
    (e ∙ ap not c.if-is_dead-is_from_rim.false))
