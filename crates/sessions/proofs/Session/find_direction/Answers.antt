use Rattle.std.proofs.Common.{◌≡◌, Bool, true, false, ℕ, sym, ap, ◌∙◌, arith, rules}
use Rattle.std.proofs.lemmas.Iterator.{serves_from_Range, first_from_Range}
use Rattle.sessions.specs.Session.{first_direction, qualifies}
use Rattle.sessions.specs.Inner.{counter_of, some_direction}
use Rattle.sessions.proofs.Judging.{taken_inner, first_passing}
use Rattle.sessions.proofs.Stood.{starts_inner}
use Rattle.sessions.proofs.Session.find_direction.Goals as goal

pub find-requires-clause-callable : goal.find-requires-clause-callable
find-requires-clause-callable c =
    serves_from_Range (λ x q k. search rules) (λ x l h. let starts = starts_inner c.requires.0 c.requires.1 {d = x} l (omega arith) in search rules)

pub returns : goal.returns
unfolding first_direction
returns c =
    let s = c.args.self.now in
    let p = c.args.p in
    let test : ℕ → Bool = λ d. qualifies s.rows s.columns s.grid p d (counter_of s d p) in
    first_passing c.find.result test
    (first_from_Range _ _ _ _ (λ d. test d ≡ true) (λ d. test d ≡ false) c.find.ensures.ran (λ x q k. search rules) (λ x q k. search rules))
    ∙ ap some_direction (sym (taken_inner s p c.requires.1))
