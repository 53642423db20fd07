-- What it takes of a map of positions and one of directions, from an array to another, that paths, near-misses and the
-- rim are carried along; and that this holds of two such maps in a row. Assumes nothing.
use Prim.Native.Nat.{ℕ, ◌≤◌, ◌<◌}
use mathlib.Core.Path.{◌≡◌, sym, ap, subst, ◌∙◌}
use native.Mathlib.Omega.{arith}
use Rattle.array.proofs.Places.{Inner}
use Rattle.paths.specs.Path.{ahead, path_length, near_miss, from_rim}
use Rattle.paths.proofs.Ways.{Way, south, north, east, west}
use Rattle.turns.proofs.Places.{Within, inner_within}

-- a path stays within the array
pub ahead_within : (n m p d k : ℕ) → n ≤ 30 → m ≤ 30 → Inner n m p → Way d → k < path_length n m p d
    → Within n m (ahead p d k)
ahead_within n m p d k hn hm i south l = omega arith
ahead_within n m p d k hn hm i north l = omega arith
ahead_within n m p d k hn hm i east l = omega arith
ahead_within n m p d k hn hm i west l = omega arith

pub record Carries (n m n' m' : ℕ) (put way : ℕ → ℕ) : Type 0 where
  pub stays : (p : ℕ) → Within n m p → Within n' m' (put p)
  pub inside : (p : ℕ) → Inner n m p → Inner n' m' (put p)
  pub apart : (p q : ℕ) → Within n m p → Within n m q → put p ≡ put q → p ≡ q
  pub straight : (d : ℕ) → Way d → Way (way d)
  pub long : (p d : ℕ) → Inner n m p → Way d → path_length n' m' (put p) (way d) ≡ path_length n m p d
  pub steps : (p d k : ℕ) → Inner n m p → Way d → k < path_length n m p d → ahead (put p) (way d) k ≡ put (ahead p d k)
  pub near : (p d q e : ℕ) → Inner n m p → Inner n m q → Way d → Way e
      → near_miss (put p) (way d) (put q) (way e) ≡ near_miss p d q e
  pub rim : (p d : ℕ) → Inner n m p → Way d → from_rim n' m' (put p) (way d) ≡ from_rim n m p d

-- two in a row, and maps that agree with these on the array and on the directions
module _ {n m n' m' n'' m'' : ℕ} {put way put' way' : ℕ → ℕ} (put'' way'' : ℕ → ℕ) (hn : n ≤ 30) (hm : m ≤ 30)
    (f : (p : ℕ) → Within n m p → put'' p ≡ put' (put p)) (g : (d : ℕ) → Way d → way'' d ≡ way' (way d))
    (c : Carries n m n' m' put way) (c' : Carries n' m' n'' m'' put' way') where
  fi : (p : ℕ) → Inner n m p → put'' p ≡ put' (put p)
  fi p i = f p (inner_within i)

  pub carries_then : Carries n m n'' m'' put'' way''
  carries_then =
      record {
        stays = λ p w. subst (λ (q : ℕ). Within n'' m'' q) (sym (f p w)) (c'.stays (put p) (c.stays p w));
        inside = λ p i. subst (λ (q : ℕ). Inner n'' m'' q) (sym (fi p i)) (c'.inside (put p) (c.inside p i));
        apart = λ p q w v e.
            c.apart p q w v (c'.apart (put p) (put q) (c.stays p w) (c.stays q v) (sym (f p w) ∙ e ∙ f q v));
        straight = λ d w. subst Way (sym (g d w)) (c'.straight (way d) (c.straight d w));
        long = λ p d i w.
            (λ z. path_length n'' m'' (fi p i z) (g d w z))
            ∙ c'.long (put p) (way d) (c.inside p i) (c.straight d w) ∙ c.long p d i w;
        steps = λ p d k i w l.
            (λ z. ahead (fi p i z) (g d w z) k)
            ∙ c'.steps (put p) (way d) k (c.inside p i) (c.straight d w) (omega (arith, c.long p d i w))
            ∙ ap put' (c.steps p d k i w l) ∙ sym (f (ahead p d k) (ahead_within n m p d k hn hm i w l));
        near = λ p d q e i j w v.
            (λ z. near_miss (fi p i z) (g d w z) (fi q j z) (g e v z))
            ∙ c'.near (put p) (way d) (put q) (way e) (c.inside p i) (c.inside q j) (c.straight d w)
            (c.straight e v)
            ∙ c.near p d q e i j w v;
        rim = λ p d i w.
            (λ z. from_rim n'' m'' (fi p i z) (g d w z))
            ∙ c'.rim (put p) (way d) (c.inside p i) (c.straight d w) ∙ c.rim p d i w;
      }
