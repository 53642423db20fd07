use Rattle.std.proofs.Common.{◌≡◌, sym, ◌∙◌, ℕ, ◌+◌, true, arith}
use mathlib.Core.Logic.{inl, inr}
use Rattle.array.specs.Place.{inner, row, column}
use Rattle.array.proofs.Places.{inner_holds, inner_stands, stands_between}
use Rattle.track.specs.Ports.{stands}
use Rattle.track.specs.Letters.{across_exists, down_exists}
use Rattle.follower.proofs.are_switch_bytes.Goals as goal

-- an inner position has both switches
both : (n m p : ℕ) → inner n m p ≡ true → (across_exists n m (row p) (column p) ≡ true) × (down_exists n m (row p) (column p) ≡ true)
both n m p h =
    let i = inner_holds n m p h in
    let here = inner_stands n m (row p) (column p) h in
    let east = stands_between n m (row p) (column p + 1) (omega arith) (omega arith) (inl (i.row_low, i.row_high)) in
    let south = stands_between n m (row p + 1) (column p) (omega arith) (omega arith) (inr (i.column_low, i.column_high)) in
    (rw (here, east), rw (here, south))

pub returns-then-is_inner : goal.returns-then-is_inner
returns-then-is_inner c =
    let a = c.args in
    let b = both a.shape.rows a.shape.columns a.p (sym c.is_inner.ensures ∙ c.if-is_inner.true) in
    rw (c.is_switch_byte.ensures, c.is_switch_byte-then-is_inner.ensures, b.0, b.1)

pub returns : goal.returns
unfolding stands
returns c =
    rw (c.is_switch_byte-2.ensures, c.is_switch_byte-3.ensures, c.stands-across.ensures, c.stands-down.ensures)
