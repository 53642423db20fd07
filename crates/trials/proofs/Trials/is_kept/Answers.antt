use Rattle.std.proofs.Common.{refl, sym, ◌∙◌, arith}
use Rattle.trials.proofs.Testing.{south_clear, kept_at, entries_are_clear, keeps_by}
use Rattle.trials.proofs.Trials.is_kept.Goals as goal

pub returns-then-not-is_open_once-clause-kept : goal.returns-then-not-is_open_once-clause-kept
returns-then-not-is_open_once-clause-kept c =
    keeps_by _ _ _ _ _ c.is_open_once.ensures.answer c.if-not-is_open_once.true refl

pub returns-then-d-eq1-clause-kept : goal.returns-then-d-eq1-clause-kept
returns-then-d-eq1-clause-kept c =
    let a = c.args in
    let south = south_clear a.self.now.searchable a.chosen.now a.k c.requires.2 c.requires.3 a.k (omega arith) in
    keeps_by _ _ _ _ _ c.is_open_once.ensures.answer c.if-not-is_open_once.false (rw c.if-d-eq1.true south)

pub returns-clause-kept : goal.returns-clause-kept
returns-clause-kept c =
    let a = c.args in
    let t = a.self.now in
    let e = entries_are_clear t.searchable a.chosen.now a.k c.requires.2 c.requires.3 t.beside a.d c.requires.4 c.requires.5 a.k (omega arith) in
    keeps_by _ _ _ _ _ c.is_open_once.ensures.answer c.if-not-is_open_once.false (sym (c.is_clear_of.ensures ∙ e))

pub is_clear_of-requires : goal.is_clear_of-requires
is_clear_of-requires c =
    let a = c.args in
    let t = a.self.now in
    kept_at t.searchable a.chosen.now a.k c.requires.2 c.requires.3 t.beside a.d c.requires.4 c.requires.5 c.requires.1
