use Rattle.std.proofs.Common.{rules, ◌≡◌, ℕ, ◌<◌, ◌≤◌, length, ◌+◌, ◌-◌, ◌*◌, List, get_or, suc, arith, sym, ap, ◌∙◌}
use Rattle.std.specs.Prelude.{Err}
use Rattle.formats.specs.Number.{Number, groups_limit, groups_at, with_low}
use Rattle.formats.proofs.Cases.{no_group, ended, last_group, low_group, one_group_low, two_groups_high, rest_refused, rest_zero, rest_read}
use Rattle.formats.proofs.+read_groups.Goals as goal

-- where at least one group is allowed, one fewer may follow the first
module _ (s : List ℕ) (start groups at : ℕ) (z : groups ≡ 0 → ⊥) where
  counted : groups_at s start groups at ≡ groups_at s start (suc (groups - 1)) at
  counted = ap (λ (k : ℕ). groups_at s start k at) (omega arith)

  limit_is : groups_limit groups ≡ 128 * groups_limit (groups - 1)
  limit_is = ap groups_limit (let e : groups ≡ suc (groups - 1) = omega arith in e)

  follows :
      {low : ℕ} {a : Number} → at < length s → low ≡ get_or s at 0 → 128 ≤ low → a ≡ groups_at s start (groups - 1) (at + 1)
      → groups_at s start groups at ≡ with_low start (low - 128) a
  follows h w l e = rw (w, e) (counted ∙ low_group s start (groups - 1) at h (rw w at l))

pub returns-then-groups-eq0 : goal.returns-then-groups-eq0
returns-then-groups-eq0 t c = let a = c.args in
    (rw (c.at.ensures, c.if-groups-eq0.true) (sym (no_group a.s.now a.start a.at)), tt)

pub returns-then-s-at : goal.returns-then-s-at
returns-then-s-at t c = let a = c.args in
    (rw c.at-then-s-at.ensures (sym (counted a.s.now a.start a.groups a.at c.if-groups-eq0.false ∙ ended _ _ _ _ c.if-s-at.true)), tt)

pub returns-then-low-lt128 : goal.returns-then-low-lt128
returns-then-low-lt128 t c = let a = c.args in
    let e = counted a.s.now a.start a.groups a.at c.if-groups-eq0.false in
    let l : c.from-low.result < 128 = c.if-low-lt128.true in
    let h = last_group a.s.now a.start (a.groups - 1) a.at c.if-s-at.false (rw c.from-low.ensures at l) in (
      rw c.from-low.ensures (sym (e ∙ h)),
      omega (arith, l, one_group_low (a.groups - 1), limit_is a.s.now a.start a.groups a.at c.if-groups-eq0.false),
    )

pub returns-in_err-rest : goal.returns-in_err-rest
returns-in_err-rest t c =
    let e : c.from_residual.result ≡ Err c.in_err-rest.field-0.0 = search rules in
    let f = follows c.args.s.now c.args.start c.args.groups c.args.at c.if-groups-eq0.false c.if-s-at.false c.from-low.ensures
    c.if-low-lt128.false c.read_groups.ensures.0 in
    rw e (sym (f ∙ rest_refused _ _ _ c.in_err-rest.was), tt)

pub returns-then-rest-eq0 : goal.returns-then-rest-eq0
returns-then-rest-eq0 t c =
    let f = follows c.args.s.now c.args.start c.args.groups c.args.at c.if-groups-eq0.false c.if-s-at.false c.from-low.ensures
    c.if-low-lt128.false c.read_groups.ensures.0 in
    (rw c.at-then-rest-eq0.ensures (sym (f ∙ rest_zero _ _ _ _ c.in_ok-rest.was c.if-rest-eq0.true)), tt)

-- what follows is below its limit
module _ {t : ℕ} (c : goal.Else-rest-eq0 t) where
  rest_low : c.in_ok-rest.rest < groups_limit (c.args.groups - 1)
  rest_low = rw c.in_ok-rest.was at c.read_groups.ensures.1

  rest_high : c.in_ok-rest.rest < 16384
  rest_high = omega (arith, rest_low, two_groups_high (c.args.groups - 1) (omega (arith, c.requires)))

  byte : get_or c.args.s.now c.args.at 0 < 256
  byte = omega (arith, c.type_inv.s c.args.at)

  low_high : c.from-low.result < 256
  low_high = rw c.from-low.ensures byte

pub overflow_mul-result : goal.overflow_mul-result
overflow_mul-result t c = omega (arith, rest_high c)

pub overflow_add-result-2 : goal.overflow_add-result-2
overflow_add-result-2 t c = omega (arith, rest_high c, low_high c)

pub returns : goal.returns
returns t c =
    let a = c.args in
    let z = c.if-groups-eq0.false in
    let f = follows a.s.now a.start a.groups a.at z c.if-s-at.false c.from-low.ensures c.if-low-lt128.false c.read_groups.ensures.0 in (
      sym (f ∙ rest_read _ _ _ _ c.in_ok-rest.was c.if-rest-eq0.false),
      omega (arith, limit_is a.s.now a.start a.groups a.at z, rest_low c, low_high c),
    )
