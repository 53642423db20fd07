-- No trial fails because of a settled path: the trials with the settled paths kept are those without them.
-- Assumes nothing.
use Prim.Native.Nat.{ℕ, suc, ◌≤◌, ◌<◌}
use mathlib.Core.Path.{◌≡◌, refl, sym, ap, subst, ◌∙◌}
use mathlib.Core.Bool.{Bool, true, false, ◌&&◌}
use mathlib.Core.List.{List, [], ◌∷◌, ◌++◌}
use mathlib.Core.Logic.{inl, inr}
use native.Mathlib.Omega.{arith}
use lib.ListN.{length, get_or}
use Rattle.paths.specs.Path.{is_open, clear}
use Rattle.paths.proofs.Ways.{Way, south, north, east, west}
use Rattle.plans.specs.Faults.{fault}
use Rattle.plans.specs.declared.Fault.{Fault}
use Rattle.trials.specs.Trials.{Search, in_order, offer, trials, clear_of, keeps}
use Rattle.trials.specs.Search.{searched}
use Rattle.trials.proofs.Offers.{next, offer_next}
use Rattle.trials.proofs.Laws.{In}
use Rattle.peeling.specs.Peel.{peeled_on, unpeeled_on, quick_planned}
use Rattle.peeling.proofs.Exchange.{kept_clear, outward_clears_on}
use Rattle.peeling.proofs.Picking.{left_lists}
use Rattle.peeling.proofs.Settlings.{reached_on}

-- the same trials where the same directions are kept and the later faults end alike
offer_same : (keep keep' : ℕ → Bool) (go go' : ℕ → Search) (l : List ℕ) → ((d : ℕ) → In d l → keep d ≡ keep' d)
    → ((d : ℕ) → go d ≡ go' d) → offer keep go l ≡ offer keep' go' l
unfolding offer
offer_same keep keep' go go' [] same ends = refl
offer_same keep keep' go go' (d ∷ l) same ends =
    let rest = offer_same keep keep' go go' l (λ e i. same e (inr i)) ends in
    offer_next keep go d l ∙ (λ i. next (same d (inl refl) i) (ends d i) d (rest i)) ∙ sym (offer_next keep' go' d l)

in_way : (d : ℕ) → In d in_order → Way d
in_way d (inl e) = subst Way (sym e) south
in_way d (inr (inl e)) = subst Way (sym e) north
in_way d (inr (inr (inl e))) = subst Way (sym e) east
in_way d (inr (inr (inr (inl e)))) = subst Way (sym e) west
in_way d (inr (inr (inr (inr z)))) = absurd z

module _ (opens : ℕ → ℕ → Bool) (clears : ℕ → ℕ → ℕ → ℕ → Bool) (base : List Fault) where
  clear_front : (ks : List Fault) (p d : ℕ) → clear_of clears base p d ≡ true
      → clear_of clears (ks ++ base) p d ≡ clear_of clears ks p d
  unfolding clear_of
  clear_front [] p d h = h
  clear_front (k ∷ ks) p d h = ap (λ (b : Bool). clears k.position k.direction p d && b) (clear_front ks p d h)

  keeps_front : (ks : List Fault) (p d : ℕ) → (opens p d ≡ true → clear_of clears base p d ≡ true)
      → keeps opens clears (ks ++ base) p d ≡ keeps opens clears ks p d
  unfolding keeps
  keeps_front ks p d h = by (opens p d) h
    where
      by : (b : Bool) → (b ≡ true → clear_of clears base p d ≡ true)
          → (b && clear_of clears (ks ++ base) p d) ≡ (b && clear_of clears ks p d)
      by true h = clear_front ks p d (h refl)
      by false h = refl

  -- where each open path of these faults is clear of kept paths, those change nothing
  abbrev Free : ℕ → Type 0
  Free p = (d : ℕ) → Way d → opens p d ≡ true → clear_of clears base p d ≡ true

  pub trials_front : (ps : List ℕ) → ((k : ℕ) → k < length ps → Free (get_or ps k 0))
      → (ks : List Fault) → trials (keeps opens clears) (ks ++ base) ps ≡ trials (keeps opens clears) ks ps
  unfolding trials
  trials_front [] free ks = refl
  trials_front (p ∷ ps) free ks =
      offer_same (keeps opens clears (ks ++ base) p) (keeps opens clears ks p) _ _ in_order
      (λ d i. keeps_front ks p d (free 0 (omega arith) d (in_way d i)))
      (λ d. trials_front ps (λ k l. free (suc k) (omega arith)) (fault p d ∷ ks))

pub unhindered_on : (n m : ℕ) (grid : List ℕ) → n ≤ 30 → m ≤ 30
    → quick_planned n m grid ≡ searched n m grid [] (unpeeled_on n m grid)
unfolding quick_planned searched
unhindered_on n m grid hn hm =
    let r = reached_on n m grid in
    let rule = outward_clears_on n m grid hn hm in
    let each = (left_lists n m grid (peeled_on n m grid)).each in
    trials_front (is_open n m grid) (clear n m) (peeled_on n m grid) (unpeeled_on n m grid)
    (λ k l d w h.
    let p = get_or (unpeeled_on n m grid) k 0 in
    ap (λ (kept : List Fault). clear_of (clear n m) kept p d) (sym r.same)
    ∙ kept_clear rule r.peeled p d (each k l) w h) []
