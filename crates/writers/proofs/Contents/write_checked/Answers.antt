use Rattle.std.proofs.Common.{◌≡◌, ℕ, ◌+◌, List, length, refl, sym, ap, ◌∙◌, arith}
use Rattle.std.specs.Prelude.{Ok}
use native.Mathlib.Nat.{zero-add}
use Rattle.array.specs.Tests.{or_else}
use Rattle.array.specs.Tests.{Verdict}
use Rattle.array.proofs.Verdicts.{passed_on, both_accepted}
use Rattle.formats.specs.Records.{record_count, first_list, file_bytes}
use Rattle.formats.specs.declared.Kind.{Kind}
use Rattle.formats.specs.declared.Record.{Record}
use Rattle.writers.specs.Writing.{buffer_test, trials_test, room_test}
use Rattle.writers.specs.Parts.{list_length, rest_length, dead_count, room_for}
use Rattle.writers.proofs.Accepted.{Passed, passed, put_refused, put_tested, room_enough}
use Rattle.writers.proofs.Records.{file_length}
use Rattle.writers.proofs.Contents.write_checked.Goals as goal

-- where the first test passes, the second decides
then : (a b : Verdict) {v : Verdict} → a ≡ Ok tt → b ≡ v → or_else a b ≡ v
then a b e f = rw (e, f) refl

-- the answer of the tests, from the answers of the parts that the code calls
module _ (kind : Kind) (n m : ℕ) (b : List ℕ) (t : ℕ) (out : List ℕ) (a : buffer_test kind n m b ≡ Ok tt) where
  abbrev p : Passed kind n m b
  p = passed _ _ _ _ a

  counted : {first : Record} {count : ℕ} → first ≡ first_list kind → count ≡ record_count first b → count ≡ record_count (first_list kind) b
  counted e f = f ∙ ap (λ (r : Record). record_count r b) e

  needed :
      {first : Record} {count dead l r : ℕ} → first ≡ first_list kind → count ≡ record_count first b → dead ≡ dead_count kind b
      → l ≡ list_length first count → r ≡ rest_length kind dead t → 2 + l + r ≡ length (file_bytes kind n m b t)
  needed {first} {count} {dead} e f g x y =
      let l = x ∙ ap (λ (r : Record). list_length r count) e ∙ ap (list_length (first_list kind)) (counted e f) in
      let r = y ∙ ap (λ (k : ℕ). rest_length kind k t) g in
      omega (arith, file_length b p.is_long p.small kind n m t p.sizes.rows_high p.sizes.columns_high, l, r)

  tested :
      {k : ℕ} {room trials : Verdict} → k ≡ length (file_bytes kind n m b t) → room ≡ room_for k (length out)
      → trials ≡ trials_test kind t
      → or_else trials room ≡ or_else (trials_test kind t) (room_test (file_bytes kind n m b t) out)
  tested e f g = rw (g, f, e) refl

pub count_records-count-requires : goal.count_records-count-requires
count_records-count-requires c = (passed _ _ _ _ c.requires).is_long

pub count_dead-dead-requires : goal.count_dead-dead-requires
count_dead-dead-requires c = (passed _ _ _ _ c.requires).is_long

pub returns-in_err-check_trials : goal.returns-in_err-check_trials
returns-in_err-check_trials c =
    let s = c.args.self in
    let h = sym c.check_trials.ensures ∙ c.in_err-check_trials.was in
    let f = file_bytes s.kind s.rows s.columns s.buffer.now s.trials in
    rw (passed_on _ c.from_residual.ensures.1)
    (sym (put_refused f c.args.out.now _ (ap (λ (v : Verdict). or_else v (room_test f c.args.out.now)) h)))

pub returns-in_err-check_room : goal.returns-in_err-check_room
returns-in_err-check_room c =
    let s = c.args.self in
    let n = needed s.kind s.rows s.columns s.buffer.now s.trials c.args.out.now c.requires c.first_list-first.ensures
    c.count_records-count.ensures.0 c.count_dead-dead.ensures.0 c.length_of_list.ensures.0 c.length_of_rest.ensures.0 in
    let v = tested s.kind s.rows s.columns s.buffer.now s.trials c.args.out.now c.requires n c.check_room.ensures c.check_trials.ensures in
    let h = then _ _ c.in_ok-check_trials.was c.in_err-check_room.was in
    rw (passed_on _ c.from_residual-in_err-check_room.ensures.1)
    (sym (put_refused (file_bytes s.kind s.rows s.columns s.buffer.now s.trials) c.args.out.now _ (sym v ∙ h)))

pub write_parts-requires : goal.write_parts-requires
write_parts-requires c =
    let s = c.args.self in
    let n = needed s.kind s.rows s.columns s.buffer.now s.trials c.args.out.now c.requires c.first_list-first.ensures
    c.count_records-count.ensures.0 c.count_dead-dead.ensures.0 c.length_of_list.ensures.0 c.length_of_rest.ensures.0 in
    let v = tested s.kind s.rows s.columns s.buffer.now s.trials c.args.out.now c.requires n c.check_room.ensures c.check_trials.ensures in
    let h = then _ _ c.in_ok-check_trials.was c.in_ok-check_room.was in
    let p = passed _ _ _ _ c.requires in
    let x = both_accepted _ _ (sym v ∙ h) in
    record {
      rows = p.sizes.rows_high;
      columns = p.sizes.columns_high;
      long = p.is_long;
      counted = counted s.kind s.rows s.columns s.buffer.now s.trials c.args.out.now c.requires c.first_list-first.ensures
          c.count_records-count.ensures.0;
      few = c.count_records-count.ensures.1;
      dead_counted = c.count_dead-dead.ensures.0;
      few_dead = c.count_dead-dead.ensures.1;
      low_trials = x.0;
      room = room_enough (file_bytes s.kind s.rows s.columns s.buffer.now s.trials) c.args.out.now x.1;
    }

pub returns : goal.returns
returns c =
    let s = c.args.self in
    let n = needed s.kind s.rows s.columns s.buffer.now s.trials c.args.out.now c.requires c.first_list-first.ensures
    c.count_records-count.ensures.0 c.count_dead-dead.ensures.0 c.length_of_list.ensures.0 c.length_of_rest.ensures.0 in
    let v = tested s.kind s.rows s.columns s.buffer.now s.trials c.args.out.now c.requires n c.check_room.ensures c.check_trials.ensures in
    let h = then _ _ c.in_ok-check_trials.was c.in_ok-check_room.was in
    let w = c.write_parts.ensures in
    rw (w.0, w.1, zero-add)
    (sym (put_tested (file_bytes s.kind s.rows s.columns s.buffer.now s.trials) c.args.out.now (trials_test s.kind s.trials)
    (sym v ∙ h)))
