use Rattle.std.proofs.Common.{sym, ap, append_assoc, ◌∙◌, ◌-◌, ◌/◌, ◌<◌, ◌≤◌, List, ℕ, [], ◌∷◌, ◌++◌, length, length-append, arith}
use native.Mathlib.Nat.{pos_of_ne-zero}
use borrow.Author.Tests.{eqb-false}
use Rattle.array.proofs.Bools.{or_false}
use Rattle.listing.specs.Listing.{last_digit, digits}
use Rattle.listing.proofs.Along.{digits_last, digits_more}
use Rattle.listing.proofs.+push_digits.Goals as goal

pub push-requires : goal.push-requires
push-requires t c =
    let e = ap length (digits_last c.args.more c.args.v c.if-more-v.true) in
    let l : length c.args.text.now.items < 32768 = omega (arith, e, c.requires) in
    (omega arith, l)

pub returns-then-more-v : goal.returns-then-more-v
returns-then-more-v t c =
    c.push.ensures.items ∙ ap (λ (x : List ℕ). c.args.text.now.items ++ x) (sym (digits_last c.args.more c.args.v c.if-more-v.true))

pub push_digits-requires : goal.push_digits-requires
push_digits-requires t c =
    let e = ap length (digits_more c.args.more c.args.v c.if-more-v.false) in
    let l : 1 ≤ c.args.more = pos_of_ne-zero (eqb-false _ _ (or_false _ _ c.if-more-v.false).0) in
    (omega (arith, c.decreases), omega (arith, e, c.requires, length-append (digits (c.args.more - 1) (c.args.v / 10)) (last_digit c.args.v ∷ [])))

pub push-requires-2 : goal.push-requires-2
push-requires-2 t c =
    let e = ap length (digits_more c.args.more c.args.v c.if-more-v.false) in
    let f = length-append (digits (c.args.more - 1) (c.args.v / 10)) (last_digit c.args.v ∷ []) in
    let g = ap length c.push_digits.ensures ∙ length-append c.args.text.now.items (digits (c.args.more - 1) (c.args.v / 10)) in
    let l : length c.push_digits.new.text.items < 32768 = omega (arith, e, f, g, c.requires) in
    (omega arith, l)

pub returns : goal.returns
returns t c =
    let a = c.args in
    let one = digits (a.more - 1) (a.v / 10) in
    c.push-2.ensures.items
    ∙ ap (λ (x : List ℕ). x ++ (last_digit a.v ∷ [])) c.push_digits.ensures
    ∙ append_assoc a.text.now.items one (last_digit a.v ∷ [])
    ∙ ap (λ (x : List ℕ). a.text.now.items ++ x) (sym (digits_more a.more a.v c.if-more-v.false))
