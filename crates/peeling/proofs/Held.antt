-- The directions of the settled faults written over a buffer, and the whole direction buffer by the outcome.
-- Assumes nothing.
use Prim.Native.Nat.{ℕ, ◌+◌, ◌<◌}
use mathlib.Core.Path.{◌≡◌, refl, ap, ◌∙◌}
use mathlib.Core.List.{List, [], ◌∷◌, ◌++◌}
use native.Mathlib.Numerals.{add-one}
use native.Mathlib.Omega.{arith}
use borrow.Author.Tests.{eq-eqb, ne_eqb}
use lib.Dec.{leb}
use lib.ListN.{length, get_or, set, length-set}
use lib.Seq.{get_or-set_same, get_or-set_other}
use Rattle.array.specs.Buffer.{buffer}
use Rattle.array.proofs.Bools.{by_eq, by_bool}
use Rattle.array.proofs.Fills.{Filling, fill_end, tabulate_length, tabulate_at}
use Rattle.plans.specs.Faults.{paired}
use Rattle.plans.specs.declared.Fault.{Fault}
use Rattle.trials.specs.Trials.{Search, found, exhausted}
use Rattle.trials.specs.Search.{outcome, direction_of, directions_written}
use Rattle.trials.specs.Inner.{kept_in}
use Rattle.peeling.specs.Inner.{held_with, direction_over, completed_by}

-- a whole buffer holds the directions of the first k settled faults, over what it held
abbrev pub Over : List ℕ → List ℕ → List ℕ → ℕ → List ℕ → Type 0
Over held ways old k new = Filling (direction_over (kept_in held ways k) old) 1024 1024 new

module _ (held ways old : List ℕ) where
  pub over_start : length old ≡ 1024 → Over held ways old 0 old
  unfolding direction_over kept_in
  over_start e = record { within = omega arith; long = e; front = λ p h. refl }

  pub over_step : (k : ℕ) {new : List ℕ} → Over held ways old k new → get_or held k 0 < 1024
      → Over held ways old (k + 1) (set new (get_or held k 0) (get_or ways k 0))
  unfolding direction_over kept_in
  over_step k {new} s low =
      let v = get_or held k 0 in
      let x = get_or ways k 0 in
      let l : length new ≡ 1024 = s.long in
      record {
        within = omega arith;
        long = length-set new v x ∙ s.long;
        front = λ p h.
            rw (add-one k)
            (by_eq p v (λ e. rw (eq-eqb p v e, e) (get_or-set_same new v x 0 (omega arith)))
            (λ e. rw (ne_eqb p v e, get_or-set_other new v p x 0 e) (s.front p h)));
      }

  -- the same, by what was read of the k-th
  pub over_turn : (k : ℕ) {new : List ℕ} {p d : ℕ} → Over held ways old k new → get_or held k 0 < 1024
      → p ≡ get_or held k 0 → d ≡ get_or ways k 0 → Over held ways old (k + 1) (set new p d)
  over_turn k s low e f = rw (e, f) (over_step k s low)

  pub over_end : (k : ℕ) {new : List ℕ} → Over held ways old k new → k ≡ length held
      → new ≡ buffer (direction_over (held_with held ways) old)
  over_end k s e = fill_end s (omega arith) ∙ ap (λ (i : ℕ). buffer (direction_over (kept_in held ways i) old)) e

-- over a buffer of directions, they come before those
over_both : (fs rest : List Fault) (p : ℕ) → p < 1024
    → direction_over fs (buffer (direction_of rest)) p ≡ direction_of (fs ++ rest) p
unfolding direction_over direction_of
over_both [] rest p h = tabulate_at (direction_of rest) 1024 p 0 h
over_both (f ∷ fs) rest p h = rw (over_both fs rest p h)

buffer_both : (fs rest : List Fault)
    → buffer (direction_over fs (buffer (direction_of rest))) ≡ buffer (direction_of (fs ++ rest))
buffer_both fs rest =
    let over : ℕ → ℕ = direction_over fs (buffer (direction_of rest)) in
    fill_end
    (record {
      within = omega arith;
      long = tabulate_length over 1024;
      front = λ p h. tabulate_at over 1024 p 0 h ∙ over_both fs rest p h;
    })
    (omega arith)

-- the buffer of the trials alone, completed by the kept faults, is that of the trials with them
pub completed_written : (limit : ℕ) (kept : List Fault) (starts : List ℕ) (s : Search)
    → completed_by kept (directions_written limit [] starts s) (outcome limit s)
    ≡ directions_written limit kept starts s
unfolding completed_by directions_written outcome
completed_written limit kept starts (found k xs) =
    by_bool (leb k limit) (λ e. rw (e, completed_by, e) (buffer_both kept (paired starts xs))) (λ e. rw (e, completed_by, e))
completed_written limit kept starts (exhausted k) =
    by_bool (leb k limit) (λ e. rw (e, completed_by)) (λ e. rw (e, completed_by))
