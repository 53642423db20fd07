use Rattle.std.proofs.Common.{[]}
use Rattle.exact.proofs.Exactly.{stuck_found, best_of}
use Rattle.exact.proofs.find_best.Goals as goal

pub returns-then-not-have_paths : goal.returns-then-not-have_paths
returns-then-not-have_paths c =
    let m = c.args.map.now in (
      (stuck_found m.shape.rows m.shape.columns m.grid.now c.args.starts.now _ c.requires.1 c.requires.0
          c.list_open-open.ensures (c.have_paths.ensures.no c.if-not-have_paths.true) []).0,
      tt,
    )

pub returns : goal.returns
returns c =
    let m = c.args.map.now in
    best_of m.shape.rows m.shape.columns m.grid.now c.args.starts.now _ c.requires.1 c.requires.0 c.list_open-open.ensures
    c.find_over_pairs.ensures
