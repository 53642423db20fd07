use Rattle.std.proofs.Common.{◌+◌, ◌≤◌, length, ◌∙◌, arith}
use Rattle.exact.specs.Options.{at}
use Rattle.exact.specs.Inner.{clears_on, Named, Striking}
use Rattle.exact.proofs.Options.{still_one}
use Rattle.exact.proofs.Striking.{strike_less, strike_end, named_part}
use Rattle.exact.proofs.propagation.Options.strike.Goals as goal

-- the faults that row f names, then those from its rest on
pub returns-then-strike_named : goal.returns-then-strike_named
returns-then-strike_named c =
    let p = c.requires in
    let f = c.args.f in
    let lists = c.args.problem.now.lists.now in
    let starts = c.args.problem.now.faults.starts.now in
    let row = p.3.rows f p.1 in
    let named : Striking (length starts) (clears_on starts) c.args.self.now.low c.args.self.now.high f
    (Named lists.names (at lists.ends f) (at lists.ends (f + 1))) c.strike_named.new.self.low c.strike_named.new.self.high
    = strike_less _ _ _ _ _ p.1 p.2
    (λ j l n ne. named_part _ _ c.from-begin.ensures c.from-end.ensures (omega (arith, row.others.fits, p.3.long)) n)
    (c.strike_named.ensures.0.1.yes c.if-strike_named.true) in
    let e = c.strike_rest.ensures in
    let one = still_one named.narrowed f p.1 p.2 in (
      (
        e.0.0,
        record {
          yes = λ x. strike_end p.1 p.2 row named
              (strike_less _ _ _ _ _ p.1 one (λ j l (u : at lists.rest f ≤ j) ne. omega (arith, c.from.ensures)) (e.0.1.yes x));
          no = λ x q z. e.0.1.no x q (named.keeps q z);
        },
      ),
      e.1 ∙ c.strike_named.ensures.1,
    )
