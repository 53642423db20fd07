-- Settling one fault after the other: the invariant of the loop, how each turn keeps it, and what it says at the end.
-- Assumes nothing.
use Prim.Native.Nat.{ℕ, zero, suc, ◌+◌, ◌-◌, ◌≤◌, ◌<◌}
use mathlib.Core.Path.{◌≡◌, refl, sym, ap, ◌∙◌}
use mathlib.Core.Bool.{Bool, ◌&&◌}
use mathlib.Core.List.{List, [], ◌∷◌, ◌++◌}
use native.Mathlib.Numerals.{add-one}
use native.Mathlib.Omega.{arith}
use borrow.Author.Count.{below_more}
use lib.Dec.{eqb}
use lib.ListN.{length, get_or, set, take, drop}
use lib.Seq.{get_or-set_same, get_or-set_other, get_or-take, take_all, take-append-le, length-take-le, length_front}
use Rattle.array.specs.Map.{inner_faulty, inner_fault}
use Rattle.array.proofs.Bools.{and_true}
use Rattle.array.proofs.Positions.{positions_rise}
use Rattle.paths.specs.Path.{is_open}
use Rattle.plans.specs.Faults.{faults, fault}
use Rattle.plans.specs.declared.Fault.{Fault}
use Rattle.trials.specs.Search.{direction_of}
use Rattle.trials.specs.Inner.{kept_in, Searchable}
use Rattle.trials.proofs.Looping.{kept_same}
use Rattle.trials.proofs.Testing.{start_below}
use Rattle.peeling.specs.Peel.{settles, stops, pick, peel, left_on, peeled_on}
use Rattle.peeling.specs.Inner.{SideSays, without, Split}
use Rattle.peeling.proofs.Picking.{left_lists, left_first, left_next}
use Rattle.peeling.proofs.Sides.{Sides, sides_start, sides_pass, sides_here, sides_none}

-- one settled more
kept_next : (held ways : List ℕ) (k p d : ℕ) → k < length held → k < length ways
    → kept_in (set held k p) (set ways k d) (k + 1) ≡ fault p d ∷ kept_in held ways k
unfolding kept_in
kept_next held ways k p d h l =
    let same = kept_same (set held k p) held (set ways k d) ways k
    (λ i a. get_or-set_other held k i p 0 (λ e. omega arith)) (λ i a. get_or-set_other ways k i d 0 (λ e. omega arith)) in
    rw (add-one k, get_or-set_same held k p 0 h, get_or-set_same ways k d 0 l, same)

-- one turn of the definition
peel_next : (opens : ℕ → ℕ → Bool) (left : List Fault → List ℕ) (k : ℕ) (kept : List Fault) (p d : ℕ)
    → pick opens (left kept) ≡ settles p d → peel opens left (suc k) kept ≡ peel opens left k (fault p d ∷ kept)
unfolding peel
peel_next opens left k kept p d e = rw (e, peel)

peel_stop : (opens : ℕ → ℕ → Bool) (left : List Fault → List ℕ) (k : ℕ) (kept : List Fault)
    → pick opens (left kept) ≡ stops → peel opens left k kept ≡ kept
unfolding peel
peel_stop opens left zero kept e = refl
peel_stop opens left (suc k) kept e = rw (e, peel)

module _ (n m : ℕ) (grid : List ℕ) where
  -- the faults left are such as a search works over
  pub left_searchable : n ≤ 30 → m ≤ 30 → length grid ≡ 1024
      → (kept : List Fault) → Searchable n m grid (left_on n m grid kept)
  unfolding left_on
  left_searchable a b g kept =
      record {
        rows = a;
        columns = b;
        marks = g;
        each = λ i h.
            let p = get_or (left_on n m grid kept) i 0 in
            (and_true (inner_fault n m grid p) _ ((left_lists n m grid kept).each i h)).0;
        ascend = positions_rise (λ p x. inner_faulty n m p x && eqb (direction_of kept p) 0) grid;
      }

  -- k of `count` faults are settled, and the sides from d down to 1 are still to be asked for the next
  pub record Settling (count : ℕ) (left held ways : List ℕ) (k d : ℕ) : Type 0 where
    pub within : k ≤ count
    pub whole : length left ≡ count
    pub below : (i : ℕ) → i < k → get_or held i 0 < 1024
    pub rest : take (count - k) left ≡ left_on n m grid (kept_in held ways k)
    pub sides : Sides (is_open n m grid) (take (count - k) left) d
    pub still : peel (is_open n m grid) (left_on n m grid) (count - k) (kept_in held ways k) ≡ peeled_on n m grid

  pub settle_start : (left held ways : List ℕ) → left ≡ faults n m grid → Settling (length left) left held ways 0 4
  unfolding peeled_on kept_in
  settle_start left held ways e =
      let z : length left - 0 ≡ length left = omega arith in
      record {
        within = omega arith;
        whole = refl;
        below = λ i h. absurd (omega arith);
        rest = take_all (length left - 0) left (omega arith) ∙ e ∙ sym (left_first n m grid);
        sides = sides_start _ _;
        still = ap (λ (j : ℕ). peel (is_open n m grid) (left_on n m grid) j []) (z ∙ ap length e);
      }

module _ {n m : ℕ} {grid : List ℕ} {count : ℕ} {left held ways : List ℕ} {k d : ℕ}
    (s : Settling n m grid count left held ways k d) where
  abbrev opens : ℕ → ℕ → Bool
  opens = is_open n m grid

  abbrev kept : List Fault
  kept = kept_in held ways k

  abbrev rest : List ℕ
  rest = take (count - k) left

  abbrev peel_on : ℕ → List Fault → List Fault
  peel_on = peel opens (left_on n m grid)

  pub rest_size : length rest ≡ count - k
  rest_size = length-take-le (count - k) left (omega (arith, s.whole))

  pub rest_searchable : n ≤ 30 → m ≤ 30 → length grid ≡ 1024 → Searchable n m grid rest
  rest_searchable a b g = rw s.rest (left_searchable n m grid a b g kept)

  -- every side is asked
  pub settle_end : d ≤ 0 → Split n m grid left held ways k
  settle_end h =
      let stop = ap (pick opens) (sym s.rest) ∙ sides_none s.sides h in
      let e = sym (peel_stop opens (left_on n m grid) (count - k) kept stop) ∙ s.still in
      record {
        within = omega (arith, s.within, s.whole);
        below = s.below;
        kept = e;
        rest = ap (λ (j : ℕ). take (j - k) left) s.whole ∙ s.rest ∙ ap (left_on n m grid) e;
      }

  module _ (at : ℕ) (more : 0 < d) (says : SideSays opens rest d at) where
    -- the side d has none
    pub settle_pass : count - k ≤ at → Settling n m grid count left held ways k (d - 1)
    settle_pass h =
        record {
          within = s.within;
          whole = s.whole;
          below = s.below;
          rest = s.rest;
          sides = sides_pass s.sides at more says (omega (arith, rest_size));
          still = s.still;
        }

    -- it has the fault with the number `at` in the list
    module _ (h : at < count - k) where
      abbrev f : ℕ
      f = get_or left at 0

      here : at < length rest
      here = omega (arith, rest_size)

      read : get_or rest at 0 ≡ f
      read = get_or-take (count - k) left at 0 h

      settled_left : left_on n m grid (fault f d ∷ kept) ≡ without at rest
      settled_left =
          let e : get_or (left_on n m grid kept) at 0 ≡ f = ap (λ (l : List ℕ). get_or l at 0) (sym s.rest) ∙ read in
          ap (λ (q : ℕ). left_on n m grid (fault q d ∷ kept)) (sym e)
          ∙ left_next n m grid kept at d (omega (arith, here, ap length s.rest)) more
          ∙ ap (without at) (sym s.rest)

      picked : pick opens (left_on n m grid kept) ≡ settles f d
      picked =
          ap (pick opens) (sym s.rest)
          ∙ sides_here s.sides at more says here
          ∙ ap (λ (q : ℕ). settles q d) read

      -- `part` is the list without it
      pub settle_next : (part : List ℕ) → Searchable n m grid rest → k < length held → k < length ways
          → length part ≡ length rest → take (length rest - 1) part ≡ without at rest
          → Settling n m grid count (part ++ drop (count - k) left) (set held k f) (set ways k d) (k + 1) 4
      settle_next part ok a b long e =
          let z : count - (k + 1) ≡ length rest - 1 = omega (arith, rest_size) in
          let y : count - k ≡ suc (count - (k + 1)) = omega arith in
          let same = kept_next held ways k f d a b in
          record {
            within = omega arith;
            whole = length_front left part (count - k) long ∙ s.whole;
            below =
                below_more _ k (λ i l. omega (arith, get_or-set_other held k i f 0 (λ q. omega arith), s.below i l))
                (omega (arith, get_or-set_same held k f 0 a, start_below ok at here, read));
            rest = rw (z, same) (take-append-le (length rest - 1) part _ (omega arith) ∙ e ∙ sym settled_left);
            sides = sides_start _ _;
            still =
                ap (peel_on (count - (k + 1))) same
                ∙ sym (peel_next opens (left_on n m grid) (count - (k + 1)) kept f d picked)
                ∙ ap (λ (j : ℕ). peel_on j kept) (sym y)
                ∙ s.still;
          }
