-- Each of the eight turnings keeps paths, and whether two of them meet or are clear of each other.
-- Assumes nothing.
use Prim.Native.Nat.{ℕ, ◌≤◌, ◌<◌}
use mathlib.Core.Path.{◌≡◌, sym, ap, ap₂, subst, ◌∙◌}
use mathlib.Core.Bool.{Bool, true, cond}
use native.Mathlib.Omega.{arith}
use Rattle.array.proofs.Bools.{bool_ext}
use Rattle.array.proofs.Places.{Inner}
use Rattle.paths.specs.Path.{Clear, Meet, NearMiss, is_clear, clash, clear, member, ahead, path_length, path, meet}
use Rattle.paths.proofs.Ways.{Way}
use Rattle.paths.proofs.Meeting.{member_elim, member_intro, share_elim, share_intro}
use Rattle.turns.specs.Turn.{Turn, rows_of, columns_of, place_of, way_of}
use Rattle.turns.proofs.Places.{Within}
use Rattle.turns.proofs.Carrying.{Carries, ahead_within}
use Rattle.turns.proofs.Generators.{lawful}

module _ (t : Turn) (n m : ℕ) (hn : n ≤ 30) (hm : m ≤ 30) where
  abbrev n' : ℕ
  n' = rows_of t n m

  abbrev m' : ℕ
  m' = columns_of t n m

  abbrev put : ℕ → ℕ
  put = place_of t n m

  abbrev way : ℕ → ℕ
  way = way_of t

  carried : Carries n m n' m' put way
  carried = lawful t n m hn hm

  -- a position on a path comes to stand on the path's image,
  module _ (p d : ℕ) (i : Inner n m p) (w : Way d) where
    on_image : (q : ℕ) → member q (path n m p d) ≡ true → member (put q) (path n' m' (put p) (way d)) ≡ true
    unfolding path
    on_image q h =
        let f = member_elim (ahead p d) 0 (path_length n m p d) q h in
        let e : put q ≡ ahead (put p) (way d) f.j =
        ap put f.is ∙ sym (carried.steps p d f.j i w (omega arith)) in
        subst (λ (z : ℕ). member z (path n' m' (put p) (way d)) ≡ true) (sym e)
        (member_intro (ahead (put p) (way d)) 0 (path_length n' m' (put p) (way d)) f.j (omega arith)
        (omega (arith, carried.long p d i w)))

    -- and what is on the image comes from the path
    record Image (q' : ℕ) : Type 0 where
      pub q : ℕ
      pub inside : Within n m q
      pub on : member q (path n m p d) ≡ true
      pub is : put q ≡ q'

    image : (q' : ℕ) → member q' (path n' m' (put p) (way d)) ≡ true → Image q'
    unfolding path
    image q' h =
        let f = member_elim (ahead (put p) (way d)) 0 (path_length n' m' (put p) (way d)) q' h in
        let l : f.j < path_length n m p d = omega (arith, carried.long p d i w) in
        record {
          q = ahead p d f.j;
          inside = ahead_within n m p d f.j hn hm i w l;
          on = member_intro (ahead p d) 0 (path_length n m p d) f.j (omega arith) (omega arith);
          is = sym (carried.steps p d f.j i w l) ∙ sym f.is;
        }

    pub path_turned : (q : ℕ) → Within n m q → member (put q) (path n' m' (put p) (way d)) ≡ member q (path n m p d)
    path_turned q b =
        bool_ext _ _
        (λ h.
        let x = image (put q) h in
        subst (λ (z : ℕ). member z (path n m p d) ≡ true) (carried.apart x.q q x.inside b x.is) x.on)
        (on_image q)

  module _ (p d q e : ℕ) (i : Inner n m p) (j : Inner n m q) (w : Way d) (v : Way e) where
    pub meet_turned : meet n' m' (put p) (way d) (put q) (way e) ≡ meet n m p d q e
    unfolding meet
    meet_turned =
        bool_ext _ _
        (λ h.
        let s = share_elim (path n' m' (put p) (way d)) (path n' m' (put q) (way e)) h in
        let x = image p d i w s.q s.left in
        share_intro (path n m p d) (path n m q e) x.q x.on
        (sym (path_turned q e j v x.q x.inside)
        ∙ ap (λ (z : ℕ). member z (path n' m' (put q) (way e))) x.is ∙ s.right))
        (λ h.
        let s = share_elim (path n m p d) (path n m q e) h in
        share_intro (path n' m' (put p) (way d)) (path n' m' (put q) (way e)) (put s.q)
        (on_image p d i w s.q s.left) (on_image q e j v s.q s.right))

    pub clear_turned : clear n' m' (put p) (way d) (put q) (way e) ≡ clear n m p d q e
    unfolding clear clash
    clear_turned =
        ap₂ (λ (a b : Bool). is_clear (cond a Meet (cond b NearMiss Clear))) meet_turned (carried.near p d q e i j w v)
