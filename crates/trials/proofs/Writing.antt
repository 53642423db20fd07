-- The whole direction buffer: the invariant of the loop that writes the directions of faults, last fault first, and the buffer by the outcome.
-- Assumes nothing.
use Prim.Native.Nat.{ℕ, suc, ◌≤◌, ◌<◌, ◌-◌}
use mathlib.Core.Path.{◌≡◌, ap, sym, ◌∙◌}
use mathlib.Core.Bool.{cond}
use mathlib.Core.Logic.{◌⊎◌, ⊎_elim}
use mathlib.Core.List.{List, []}
use native.Mathlib.Omega.{arith}
use borrow.Author.Tests.{eq-eqb, ne_eqb, leb-true}
use lib.Dec.{eqb, leb}
use lib.ListN.{length, get_or, set, take, drop, length-set, replicate, length-replicate, get_or-replicate}
use lib.Seq.{drop-cons, drop-length, get_or-set_same, get_or-set_other, ext_get_or}
use Rattle.array.specs.Buffer.{buffer, zeros, nothing_at}
use Rattle.array.proofs.Bools.{by_eq, by_bool}
use Rattle.array.proofs.Fills.{tabulate_length, tabulate_at}
use Rattle.plans.specs.Faults.{paired}
use Rattle.trials.specs.Trials.{Search, found, exhausted}
use Rattle.trials.specs.declared.Outcome.{Outcome}
use Rattle.trials.specs.declared.Outcome.TheVariants.{Beyond, Spent}
use Rattle.trials.specs.Search.{outcome, direction_of, directions_written}
use Rattle.trials.specs.Inner.{Holds, finished}

-- a buffer that holds 0 everywhere
pub all_zero : (l : List ℕ) → length l ≡ 1024 → replicate (length l) 0 ≡ zeros
all_zero l e =
    ext_get_or 0 (replicate (length l) 0) zeros (length-replicate {A = ℕ} (length l) 0 ∙ e ∙ sym (tabulate_length nothing_at 1024))
    (λ k h.
    let w : k < length l = omega (arith, h, length-replicate {A = ℕ} (length l) 0) in
    get_or-replicate (length l) k 0 0 w ∙ sym (tabulate_at nothing_at 1024 k 0 (omega arith)))

module _ (starts chosen : List ℕ) where
  -- the direction at p, of the faults from k on
  abbrev from : ℕ → ℕ → ℕ
  from k p = direction_of (paired (drop k starts) (drop k chosen)) p

  -- the faults from k on are written
  pub record Writing (k : ℕ) (directions : List ℕ) : Type 0 where
    pub within : k ≤ length starts
    pub long : length directions ≡ 1024
    pub right : (p : ℕ) → p < 1024 → get_or directions p 0 ≡ from k p

  pub write_start : (directions : List ℕ) → directions ≡ zeros → Writing (length starts) directions
  unfolding direction_of paired
  write_start directions e =
      record {
        within = omega arith;
        long = ap length e ∙ tabulate_length nothing_at 1024;
        right = λ p h. rw (e, tabulate_at nothing_at 1024 p 0 h, drop-length starts);
      }

  from_turn : (k p : ℕ) → k < length starts → k < length chosen
      → from k p ≡ cond (eqb p (get_or starts k 0)) (get_or chosen k 0) (from (suc k) p)
  unfolding direction_of paired
  from_turn k p h l = rw (drop-cons starts k 0 h, drop-cons chosen k 0 l)

  pub write_step : {k : ℕ} {directions : List ℕ} → Writing k directions → 0 < k → length starts ≤ length chosen
      → get_or starts (k - 1) 0 < 1024 → Writing (k - 1) (set directions (get_or starts (k - 1) 0) (get_or chosen (k - 1) 0))
  write_step {k} {directions} s h l low =
      let j = k - 1 in
      let e : k ≡ suc j = omega arith in
      let w : k ≤ length starts = s.within in
      let v = get_or starts j 0 in
      let x = get_or chosen j 0 in
      let b : length directions ≡ 1024 = s.long in
      record {
        within = omega arith;
        long = length-set directions v x ∙ s.long;
        right =
            λ p m.
            by_eq p v
            (λ q. rw (from_turn j p (omega arith) (omega arith), eq-eqb p v q, q) (get_or-set_same directions v x 0 (omega arith)))
            (λ q.
            rw (from_turn j p (omega arith) (omega arith), ne_eqb p v q, get_or-set_other directions v p x 0 q)
            (s.right p m ∙ ap (λ (i : ℕ). from i p) e));
      }

  pub write_end : {k : ℕ} {directions : List ℕ} → Writing k directions → k ≤ 0
      → directions ≡ buffer (direction_of (paired starts chosen))
  write_end {k} {directions} s h =
      let z : k ≡ 0 = omega arith in
      let b : length directions ≡ 1024 = s.long in
      ext_get_or 0 directions (buffer (from 0)) (s.long ∙ sym (tabulate_length (from 0) 1024))
      (λ p m.
      let l : p < 1024 = omega arith in
      s.right p l ∙ ap (λ (i : ℕ). from i p) z ∙ sym (tabulate_at (from 0) 1024 p 0 l))

-- it holds 0 everywhere where no plan is found
pub nothing_finished : (starts chosen : List ℕ) (o : Outcome) → ((x : ℕ) × (o ≡ Beyond x)) ⊎ ((x : ℕ) × (o ≡ Spent x))
    → finished starts chosen o ≡ zeros
unfolding finished
nothing_finished starts chosen o =
    ⊎_elim (λ e. ap (finished starts chosen) e.1) (λ e. ap (finished starts chosen) e.1)

-- the buffer by the outcome is that of the trials, where these directions are the plan found
finished_written : (limit : ℕ) (starts xs : List ℕ) (s : Search) → Holds limit s xs
    → finished starts xs (outcome limit s) ≡ directions_written limit [] starts s
unfolding finished outcome directions_written
finished_written limit starts xs (found k ys) h =
    by_bool (leb k limit)
    (λ e. rw (e, finished) (ap (λ (zs : List ℕ). buffer (direction_of (paired starts zs))) (h (leb-true k limit e))))
    (λ e. rw (e, finished))
finished_written limit starts xs (exhausted k) h =
    by_bool (leb k limit) (λ e. rw (e, finished)) (λ e. rw (e, finished))

-- the same of a buffer that was written with the first k directions, where there are k starts
pub first_written : (limit k : ℕ) (starts chosen directions : List ℕ) (s : Search) (o : Outcome) → k ≡ length starts
    → o ≡ outcome limit s → Holds limit s (take (length starts) chosen) → directions ≡ finished starts (take k chosen) o
    → directions ≡ directions_written limit [] starts s
first_written limit k starts chosen directions s o z p h q =
    q
    ∙ ap (finished starts (take k chosen)) p
    ∙ ap (λ (i : ℕ). finished starts (take i chosen) (outcome limit s)) z
    ∙ finished_written limit starts (take (length starts) chosen) s h
