use Rattle.std.proofs.Common.{◌≡◌, ◌<◌, ℕ, List, length, get_or, sym, subst, ◌∙◌, true, refl, rules, arith}
use Rattle.std.proofs.lemmas.List.{length-take}
use Rattle.plans.specs.Faults.{faults}
use Rattle.plans.proofs.Facts.{fault_below}
use Rattle.exact.proofs.Exactly.{too_many, faults_placed, found_written, none_written, decided_found, decided_none}
use Rattle.trials.specs.Search.{planned}
use Rattle.exact.proofs.find_among.Goals as goal

pub find_best-requires : goal.find_best-requires
find_best-requires c =
    let m = c.args.map.now in
    let small = m.shape.small in
    (faults_placed m.shape.rows m.shape.columns m.grid.now c.args.starts.now c.requires small.0 small.1 (omega arith), c.requires)

pub write_plan-requires : goal.write_plan-requires
write_plan-requires c =
    let m = c.args.map.now in
    let long : length c.in-Some.best ≡ 128 = search rules in (
      omega (arith, length-take (length c.args.starts.now) c.in-Some.best),
      subst (λ (l : List ℕ). (i : ℕ) → i < length l → get_or l i 0 < 1024) (sym c.requires)
          (fault_below m.shape.rows m.shape.columns m.grid.now m.long),
    )

pub returns-in-Some : goal.returns-in-Some
returns-in-Some c =
    let m = c.args.map.now in
    let e = c.in-Some.ensures in (
      decided_found (planned m.shape.rows m.shape.columns m.grid.now) e.0 refl,
      found_written m.shape.rows m.shape.columns m.grid.now c.args.starts.now c.in-Some.best _ true c.requires e.0 e.1
          c.write_plan.ensures,
    )

pub returns-then-map-count : goal.returns-then-map-count
returns-then-map-count c =
    let m = c.args.map.now in
    let small = m.shape.small in
    let e = too_many m.shape.rows m.shape.columns m.grid.now c.args.starts.now c.requires small.0 small.1 c.if-map-count.true in
    (decided_none (planned m.shape.rows m.shape.columns m.grid.now) e.0 refl, c.wipe.ensures ∙ e.1)

pub returns-in-None : goal.returns-in-None
returns-in-None c =
    let m = c.args.map.now in
    let s = planned m.shape.rows m.shape.columns m.grid.now in
    let e = c.in-None.ensures in
    (decided_none s e.0 refl, cc (none_written (faults m.shape.rows m.shape.columns m.grid.now) s e.0))
