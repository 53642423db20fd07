-- The test of one trial: what the clash table says of it and of each path kept, and why a south path need not ask.
-- Assumes nothing.
use Prim.Native.Nat.{ℕ, zero, suc, ◌≤◌, ◌<◌, ◌-◌}
use mathlib.Core.Path.{◌≡◌, refl, sym, ap, ap₂, ◌∙◌}
use mathlib.Core.Bool.{Bool, true, ◌&&◌}
use mathlib.Core.List.{List}
use native.Mathlib.Omega.{arith}
use lib.Dec.{eqb}
use lib.ListN.{length, get_or}
use Rattle.array.specs.Place.{inner}
use Rattle.array.specs.Map.{faulty}
use Rattle.array.proofs.Bools.{and_true, and_both}
use Rattle.paths.specs.Path.{is_open, Clash, is_clear, clear, Start}
use Rattle.paths.specs.Table.{class, entry, byte_of}
use Rattle.paths.specs.Inner.{PathAt}
use Rattle.paths.proofs.Ways.{start_inner}
use Rattle.paths.proofs.Entries.{byte_clear}
use Rattle.paths.proofs.South.{open_clear_south}
use Rattle.plans.specs.Inner.{Beside}
use Rattle.plans.proofs.Entries.{start_path, path_beside, entry_beside}
use Rattle.plans.specs.declared.Fault.{Fault}
use Rattle.trials.specs.Trials.{clear_of, keeps}
use Rattle.trials.specs.Inner.{kept_in, KeptFront, KeptAt, entries_clear, Searchable}

-- a start and a direction of the search are such as a path may have
pub start_at : {n m : ℕ} {grid starts : List ℕ} → Searchable n m grid starts
    → (i d : ℕ) → i < length starts → 1 ≤ d → d ≤ 4 → Start n m (get_or starts i 0) d
start_at s i d h a b =
    record { rows = s.rows; columns = s.columns; at = (and_true _ _ (s.each i h)).0; low = a; high = b }

-- and a position
pub start_below : {n m : ℕ} {grid starts : List ℕ} → Searchable n m grid starts → (i : ℕ) → i < length starts → get_or starts i 0 < 1024
start_below s i h = let t = start_inner (start_at s i 1 h (omega arith) (omega arith)) in omega (arith, s.rows)

module _ {n m : ℕ} {grid starts : List ℕ} (s : Searchable n m grid starts) (chosen : List ℕ) (k : ℕ) (h : k < length starts)
    (kept : KeptFront (is_open n m grid) starts chosen k) where
  abbrev p : ℕ
  p = get_or starts k 0

  -- a south path is clear of the open paths that start before it
  pub south_clear : (j : ℕ) → j ≤ k → clear_of (clear n m) (kept_in starts chosen j) p 1 ≡ true
  unfolding clear_of kept_in
  south_clear zero l = refl
  south_clear (suc j) l =
      let o = kept j (omega arith) in
      let q = get_or starts j 0 in
      let e = get_or chosen j 0 in
      let faulty = (and_true (inner n m p) (faulty grid p) (s.each k h)).1 in
      and_both (clear n m q e p 1) _
      (open_clear_south n m q e p grid (start_at s j e (omega arith) o.0 o.1) (start_at s k 1 h (omega arith) (omega arith)) o.2
      faulty (s.ascend j k (omega arith) h))
      (south_clear j (omega arith))

  module _ {rows columns : List ℕ} (b : Beside starts rows columns) (d : ℕ) (low : 1 ≤ d) (high : d ≤ 4) where
    path_at : (i f : ℕ) → i < length starts → 1 ≤ f → f ≤ 4 → PathAt (get_or rows i 0) (get_or columns i 0) f
    path_at i f m l u = path_beside b i f m (start_path (start_at s i f m l u))

    -- the clash table takes the rows and columns of the paths kept and of this one
    pub kept_at : length starts ≤ length chosen → KeptAt rows columns chosen k d
    kept_at room =
        record {
          rows_long = omega (arith, b.rows_long);
          columns_long = omega (arith, b.columns_long);
          room = omega arith;
          each = λ i g. path_at i (get_or chosen i 0) (omega arith) (kept i g).0 (kept i g).1;
          last = path_at k d h low high;
        }

    -- where the entries are clear the paths are
    pub entries_are_clear : (j : ℕ) → j ≤ k
        → entries_clear rows columns chosen k d j ≡ clear_of (clear n m) (kept_in starts chosen j) p d
    unfolding entries_clear clear_of kept_in clear
    entries_are_clear zero l = refl
    entries_are_clear (suc j) l =
        let i : j < length starts = omega arith in
        let o = kept j (omega arith) in
        let e = get_or chosen j 0 in
        let distinct : get_or starts j 0 ≡ p → ⊥ = λ z. omega (arith, z, s.ascend j k (omega arith) h) in
        ap₂ ◌&&◌
        (ap is_clear (entry_beside b j k e d i h (start_at s j e i o.0 o.1) (start_at s k d h low high) distinct))
        (entries_are_clear j (omega arith))

-- a trial is kept by the two answers
pub keeps_by : (opens : ℕ → ℕ → Bool) (clears : ℕ → ℕ → ℕ → ℕ → Bool) (kept : List Fault) (p d : ℕ) {r a b : Bool}
    → r ≡ opens p d → r ≡ a → clear_of clears kept p d ≡ b → (a && b) ≡ keeps opens clears kept p d
unfolding keeps
keeps_by opens clears kept p d e f g = rw (← e, f, g)

-- a trial that is kept is one of an open path
pub keeps_open : (opens : ℕ → ℕ → Bool) (clears : ℕ → ℕ → ℕ → ℕ → Bool) (kept : List Fault) (p d : ℕ)
    → keeps opens clears kept p d ≡ true → opens p d ≡ true
unfolding keeps
keeps_open opens clears kept p d h = (and_true (opens p d) _ h).0

-- The entries in the order of the loop, the last first.
module _ (rows columns chosen : List ℕ) (k d : ℕ) where
  abbrev entry_with : ℕ → Clash
  entry_with j = entry (get_or chosen j 0) d (class (get_or rows j 0) (get_or rows k 0)) (class (get_or columns j 0) (get_or columns k 0))

  pub entries_next : (j found : ℕ) {b : Bool} → 0 < j → found ≡ byte_of (entry_with (j - 1)) → eqb found 0 ≡ b
      → entries_clear rows columns chosen k d j ≡ (b && entries_clear rows columns chosen k d (j - 1))
  unfolding entries_clear
  entries_next zero found h e f = absurd (omega arith)
  entries_next (suc j) found h e f =
      let z : suc j - 1 ≡ j = omega arith in
      let c = sym (byte_clear (entry_with (suc j - 1))) ∙ ap (λ (x : ℕ). eqb x 0) (sym e) ∙ f in
      rw (← c, z)

  pub entries_none : (j : ℕ) → j ≤ 0 → entries_clear rows columns chosen k d j ≡ true
  unfolding entries_clear
  entries_none zero h = refl
  entries_none (suc j) h = absurd (omega arith)
