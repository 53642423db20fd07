use Rattle.exact.proofs.Listing.{still_listed}
use Rattle.exact.proofs.Pairs.{least_first, takes_none, takes_old, takes_new}
use Rattle.exact.proofs.Spreading.{after_first, after_none}
use Rattle.exact.proofs.search.try_options.Goals as goal
use Rattle.exact.proofs.search.try_options.Goals.{then-not-spread-via-then-not-spread, then-not-spread-via-else-not-spread+then-not-is_before}
use Rattle.exact.proofs.search.try_options.Goals.{else-solve-via-then-solve+else-is_before, else-solve-via-else-solve}

pub returns-then-not-spread : goal.returns-then-not-spread
returns-then-not-spread c =
    let starts = c.args.problem.now.faults.starts.now in
    let e = c.spread.ensures in
    elim c.then-not-spread.branch [
      | then-not-spread-via-then-not-spread w ↦ takes_none starts _ _ _ (e.2.no w.if-not-spread.true)
      | then-not-spread-via-else-not-spread+then-not-is_before w ↦
          let t = e.2.yes w.if-not-spread.false in
          takes_old starts _ _ _ c.spread.new.self.low (λ q z. least_first starts _ _ e.0 q (t.keeps q z))
          (w.is_before.ensures.no w.if-not-is_before.true)
    ]

pub solve-requires : goal.solve-requires
solve-requires c =
    let e = c.spread.ensures in
    let t = e.2.yes c.if-not-spread.false in (
      record {
        held = e.0;
        listed = still_listed t.narrowed c.requires.listed;
        done_long = e.1;
        marked = t.marked;
      },
      t.closed,
    )

pub returns-then-is_before : goal.returns-then-is_before
returns-then-is_before c =
    let t = c.spread.ensures.2.yes c.if-not-spread.false in
    let first = after_first _ _ t (c.solve.ensures.1.yes c.if-solve.true) in
    takes_new c.args.problem.now.faults.starts.now _ _ _ c.solve.new.self.low first c.solve.ensures.0.low_long
    (c.is_before-then-solve.ensures.yes c.if-is_before.true)

pub returns-else-solve : goal.returns-else-solve
returns-else-solve c =
    let starts = c.args.problem.now.faults.starts.now in
    let t = c.spread.ensures.2.yes c.if-not-spread.false in
    elim c.else-solve.branch [
      | else-solve-via-then-solve+else-is_before w ↦
          let first = after_first _ _ t (c.solve.ensures.1.yes w.if-solve.true) in
          takes_old starts _ _ _ c.solve.new.self.low (λ q z. first.none_before q z)
          (w.is_before-then-solve.ensures.no w.if-is_before.false)
      | else-solve-via-else-solve w ↦ takes_none starts _ _ _ (after_none _ _ t (c.solve.ensures.1.no w.if-solve.false))
    ]
