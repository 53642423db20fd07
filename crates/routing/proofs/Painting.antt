-- A painted path: what a painted buffer holds, and that painting the path of a fault over those of later faults adds the fault.
-- Assumes nothing.
use mathlib.Core.Path.{◌≡◌, refl, sym, ap, subst, ◌∙◌}
use mathlib.Core.Bool.{Bool, true, false, cond, ◌||◌}
use mathlib.Core.List.{List, [], ◌∷◌, reverse}
use Prim.Native.Nat.{ℕ, suc, ◌+◌, ◌-◌, ◌<◌, ◌≤◌}
use native.Mathlib.Numerals.{add-one}
use native.Mathlib.Omega.{arith}
use borrow.Author.Tests.{eq-eqb, ne_eqb}
use lib.ListN.{length, get_or, set, drop, length-set, drop_of_length-le}
use lib.Seq.{ext_get_or, get_or-set_same, get_or-set_other, drop-cons}
use Rattle.array.specs.Buffer.{span, buffer, zeros}
use Rattle.array.proofs.Bools.{by_eq}
use Rattle.array.proofs.Fills.{tabulate_length, tabulate_at, same_default}
use Rattle.std.proofs.lemmas.List.{get_or-reverse, length-reverse}
use Rattle.paths.specs.Path.{ahead, path_length, path, member, Start}
use Rattle.plans.specs.Faults.{fault, faults, directions_at, paired}
use Rattle.plans.specs.Inner.{Starts, Directed}
use Rattle.plans.proofs.Facts.{fault_below, fault_starts}
use Rattle.plans.specs.declared.Fault.{Fault}
use Rattle.plans.proofs.Pairing.{paired_length, paired_at, direction_at}
use Rattle.track.specs.Placement.{through}
use Rattle.routing.specs.Inner.{painted}

pub painted_length : (l : List ℕ) (v : ℕ) (b : List ℕ) → length (painted l v b) ≡ length b
unfolding painted
painted_length [] v b = refl
painted_length (q ∷ l) v b = painted_length l v (set b q v) ∙ length-set b q v

cond_same : (x : Bool) (v : ℕ) → cond x v v ≡ v
cond_same true v = refl
cond_same false v = refl

painted_at : (l : List ℕ) (v : ℕ) (b : List ℕ) (q : ℕ) → q < length b → get_or (painted l v b) q 0 ≡ cond (member q l) v (get_or b q 0)
unfolding painted member
painted_at [] v b q h = refl
painted_at (x ∷ l) v b q h =
    painted_at l v (set b x v) q (omega (arith, length-set b x v))
    ∙ by_eq q x
    (λ e.
    ap (λ (z : ℕ). cond (member q l) v z) (ap (λ (z : ℕ). get_or (set b x v) z 0) e ∙ get_or-set_same b x v 0 (omega arith))
    ∙ cond_same (member q l) v
    ∙ sym (ap (λ (z : Bool). cond (z || member q l) v (get_or b q 0)) (eq-eqb q x e)))
    (λ e.
    ap (λ (z : ℕ). cond (member q l) v z) (get_or-set_other b x q v 0 e)
    ∙ sym (ap (λ (z : Bool). cond (z || member q l) v (get_or b q 0)) (ne_eqb q x e)))

-- a walk along a path: what is left to paint, painted, gives the whole path painted
pub record Painting (n m p d k : ℕ) (old new : List ℕ) : Type 0 where
  pub within : k ≤ path_length n m p d
  pub long : length new ≡ length old
  pub left : painted (span (ahead p d) k (path_length n m p d - k)) d new ≡ painted (path n m p d) d old

pub paint_start : (n m p d : ℕ) (b : List ℕ) → Painting n m p d 0 b b
unfolding path
paint_start n m p d b =
    record {
      within = omega arith;
      long = refl;
      left =
          let e : path_length n m p d - 0 ≡ path_length n m p d = omega arith in
          ap (λ (j : ℕ). painted (span (ahead p d) 0 j) d b) e;
    }

module _ {n m p d k : ℕ} {old new : List ℕ} (s : Painting n m p d k old new) where
  pub paint_step : (q : ℕ) → k < path_length n m p d → q ≡ ahead p d k → Painting n m p d (k + 1) old (set new q d)
  unfolding painted span
  paint_step q h e =
      record {
        within = omega arith;
        long = length-set new q d ∙ s.long;
        left =
            let a : path_length n m p d - k ≡ suc (path_length n m p d - (k + 1)) = omega arith in
            let t : painted (span (ahead p d) k (path_length n m p d - k)) d new
            ≡ painted (span (ahead p d) (k + 1) (path_length n m p d - (k + 1))) d (set new (ahead p d k) d) = rw (a, add-one k) in
            ap (λ (z : ℕ). painted (span (ahead p d) (k + 1) (path_length n m p d - (k + 1))) d (set new z d)) e ∙ sym t ∙ s.left;
      }

  pub paint_end : path_length n m p d ≤ k → new ≡ painted (path n m p d) d old
  unfolding painted span
  paint_end h =
      let a : path_length n m p d - k ≡ 0 = omega arith in
      let t : painted (span (ahead p d) k (path_length n m p d - k)) d new ≡ new = rw a in
      sym t ∙ s.left

-- the paths of the faults, each over those of the later ones
module _ (n m : ℕ) where
  abbrev pub traced : List Fault → List ℕ
  traced fs = buffer (through n m fs)

  pub paint_over : (p d : ℕ) (fs : List Fault) → painted (path n m p d) d (traced fs) ≡ traced (fault p d ∷ fs)
  unfolding through
  paint_over p d fs =
      let f = fault p d ∷ fs in
      let e : length (painted (path n m p d) d (traced fs)) ≡ 1024 =
      painted_length (path n m p d) d (traced fs) ∙ tabulate_length (through n m fs) 1024 in
      ext_get_or 0 (painted (path n m p d) d (traced fs)) (traced f) (e ∙ sym (tabulate_length (through n m f) 1024))
      (λ q h.
      painted_at (path n m p d) d (traced fs) q (omega (arith, e, h, tabulate_length (through n m fs) 1024))
      ∙ ap (λ (z : ℕ). cond (member q (path n m p d)) d z) (tabulate_at (through n m fs) 1024 q 0 (omega (arith, e, h)))
      ∙ sym (tabulate_at (through n m f) 1024 q 0 (omega (arith, e, h))))

-- from the last fault to the first: the paths of the last i faults are painted
pub record Traced (n m : ℕ) (starts ds : List ℕ) (i : ℕ) (b : List ℕ) : Type 0 where
  pub same : length ds ≡ length starts
  pub within : i ≤ length starts
  pub is : b ≡ traced n m (drop (length starts - i) (paired starts ds))

-- fault k as the code reads it
pub start_here : {n m : ℕ} {starts ds : List ℕ} → Starts n m starts ds → (k p : ℕ) → k < length starts → p ≡ get_or starts k 0
    → Start n m p (get_or ds k 0)
start_here {n} {m} {starts} {ds} s k p h e = subst (λ (q : ℕ). Start n m q (get_or ds k 0)) (sym e) (s.each k h)

pub trace_start : (n m : ℕ) (starts ds b : List ℕ) → length ds ≡ length starts → b ≡ zeros → Traced n m starts ds 0 b
unfolding through
trace_start n m starts ds b h e =
    let l : length (paired starts ds) ≤ length starts - 0 = omega (arith, paired_length starts ds h) in
    record {
      same = h;
      within = omega arith;
      is = e ∙ ap (traced n m) (sym (drop_of_length-le (paired starts ds) l));
    }

module _ {n m : ℕ} {starts ds : List ℕ} {i : ℕ} {b : List ℕ} (s : Traced n m starts ds i b) where
  pub trace_step : (k p : ℕ) (new : List ℕ) → suc k ≡ length starts - i → p ≡ get_or starts k 0
      → new ≡ painted (path n m p (get_or ds k 0)) (get_or ds k 0) b → Traced n m starts ds (i + 1) new
  trace_step k p new h e t =
      let d = get_or ds k 0 in
      let fs = paired starts ds in
      let j : length starts - (i + 1) ≡ k = omega arith in
      let l : k < length starts = omega arith in
      let r : drop k fs ≡ fault p d ∷ drop (length starts - i) fs =
      drop-cons fs k (fault 0 0) (omega (arith, paired_length starts ds s.same))
      ∙ ap (λ (x : Fault). x ∷ drop (suc k) fs) (paired_at starts ds k (fault 0 0) s.same l)
      ∙ ap (λ (q : ℕ). fault q d ∷ drop (suc k) fs) (sym e)
      ∙ ap (λ (z : ℕ). fault p d ∷ drop z fs) h in
      record {
        same = s.same;
        within = omega arith;
        is =
            t
            ∙ ap (painted (path n m p d) d) s.is
            ∙ paint_over n m p d (drop (length starts - i) fs)
            ∙ ap (traced n m) (sym (ap (λ (z : ℕ). drop z fs) j ∙ r));
      }

  pub trace_end : length starts ≤ i → b ≡ traced n m (paired starts ds)
  trace_end h =
      let e : length starts - i ≡ 0 = omega arith in
      s.is ∙ ap (λ (z : ℕ). traced n m (drop z (paired starts ds))) e

-- what a turn from the last fault to the first reads: the start p, after i others
pub record Turn (n m : ℕ) (directions starts : List ℕ) (i p : ℕ) : Type 0 where
  pub k : ℕ
  pub here : suc k ≡ length starts - i
  pub at : p ≡ get_or starts k 0
  pub below : p < 1024
  pub same : get_or directions p 0 ≡ get_or (directions_at directions starts) k 0
  pub start : Start n m p (get_or directions p 0)

module _ (n m : ℕ) (grid directions starts : List ℕ) (h : Directed n m grid directions) (e : starts ≡ faults n m grid) where
  pub listed_starts : Starts n m starts (directions_at directions starts)
  listed_starts = subst (λ (x : List ℕ). Starts n m x (directions_at directions x)) (sym e) (fault_starts n m grid directions h)

  pub turn_of : (i p : ℕ) → i < length (reverse starts) → p ≡ get_or (reverse starts) i p → Turn n m directions starts i p
  turn_of i p l q =
      let j : i < length starts = omega (arith, l, length-reverse starts) in
      let k = length starts - 1 - i in
      let b : k < length starts = omega arith in
      let a : p ≡ get_or starts k 0 = q ∙ get_or-reverse starts i p j ∙ same_default starts k p 0 b in
      let low = fault_below n m grid h.sound.grid_long k (omega (arith, b, ap length e)) in
      let d : get_or directions p 0 ≡ get_or (directions_at directions starts) k 0 =
      ap (λ (x : ℕ). get_or directions x 0) a ∙ sym (direction_at directions starts k b) in
      record {
        k = k;
        here = omega arith;
        at = a;
        below = omega (arith, a, low, ap (λ (x : List ℕ). get_or x k 0) e);
        same = d;
        start = subst (λ (x : ℕ). Start n m p x) (sym d) (start_here listed_starts k p b a);
      }
