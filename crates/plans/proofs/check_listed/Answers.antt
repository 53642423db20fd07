use Rattle.std.proofs.Common.{◌≡◌, sym, ap, subst, ◌∙◌, ℕ, ◌<◌, List, length, get_or, arith}
use Rattle.plans.specs.Faults.{faults, directions_at, paired}
use Rattle.plans.specs.Check.{paths_test}
use Rattle.plans.specs.Inner.{Starts}
use Rattle.plans.proofs.Facts.{fault_below, fault_starts}
use Rattle.plans.proofs.check_listed.Goals as goal

pub take_directions-requires : goal.take_directions-requires
take_directions-requires c =
    let m = c.args.plan.now.map in (
      c.requires.1,
      λ k h.
          let l : k < length (faults m.shape.rows m.shape.columns m.grid.now) = omega (arith, h, ap length c.requires.0) in
          let low = fault_below m.shape.rows m.shape.columns m.grid.now m.long k l in
          omega (arith, low, ap (λ (x : List ℕ). get_or x k 0) c.requires.0),
    )

pub check_map_paths-requires : goal.check_map_paths-requires
check_map_paths-requires c =
    let p = c.args.plan.now in
    let m = p.map in
    let room = c.take_directions.new.out in
    let is : room ≡ directions_at p.directions.now (faults m.shape.rows m.shape.columns m.grid.now) =
    c.take_directions.ensures ∙ ap (directions_at p.directions.now) c.requires.0 in (
      subst (λ (x : List ℕ). Starts m.shape.rows m.shape.columns x room) (sym c.requires.0)
          (subst (λ (x : List ℕ). Starts m.shape.rows m.shape.columns (faults m.shape.rows m.shape.columns m.grid.now) x) (sym is)
          (fault_starts m.shape.rows m.shape.columns m.grid.now p.directions.now p.directed)),
      c.requires.0,
    )

pub returns : goal.returns
returns c =
    let p = c.args.plan.now in
    let m = p.map in
    let room = c.take_directions.new.out in
    let is : room ≡ directions_at p.directions.now (faults m.shape.rows m.shape.columns m.grid.now) =
    c.take_directions.ensures ∙ ap (directions_at p.directions.now) c.requires.0 in
    c.check_map_paths.ensures
    ∙ ap (λ (x : List ℕ). paths_test m.shape.rows m.shape.columns m.grid.now (paired x room)) c.requires.0
    ∙ ap (λ (x : List ℕ). paths_test m.shape.rows m.shape.columns m.grid.now (paired (faults m.shape.rows m.shape.columns m.grid.now) x)) is
