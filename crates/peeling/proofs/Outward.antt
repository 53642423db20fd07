-- A path whose start lies at least as far out on its side as another start is clear of the other's path, unless that
-- runs over the first start. Proved for west, and turned to the other sides. Assumes nothing.
use Prim.Native.Nat.{ℕ, ◌≤◌}
use mathlib.Core.Path.{◌≡◌, refl, sym, subst, ◌∙◌}
use mathlib.Core.Bool.{true, false}
use native.Mathlib.Omega.{arith}
use borrow.Author.Tests.{le-ltb}
use lib.Dec.{eqb}
use Rattle.array.specs.Place.{row, column}
use Rattle.array.proofs.Bools.{by_bool, and_none}
use Rattle.array.proofs.Places.{Inner}
use Rattle.paths.specs.Path.{member, path_length, path, meet, near_miss, difference, clear}
use Rattle.paths.proofs.Ways.{Way, south, north, east, west}
use Rattle.paths.proofs.Meeting.{share_elim, Box, on_path_box, box_on_path}
use Rattle.paths.proofs.Clashes.{neither_clear}
use Rattle.turns.specs.Turn.{Turn, turn, same, rows_of, columns_of, place_of, way_of}
use Rattle.turns.proofs.Places.{inner_within, sizes_high}
use Rattle.turns.proofs.Generators.{lawful}
use Rattle.turns.proofs.Turned.{path_turned, clear_turned}
use Rattle.peeling.specs.Settling.{Outer}

-- further out on a side is nearer to the spare there
nearer : (n m p d q : ℕ) → Inner n m p → Inner n m q → Way d → Outer d p q → path_length n m p d ≤ path_length n m q d
nearer n m p d q i j south o = omega arith
nearer n m p d q i j north o = omega arith
nearer n m p d q i j east o = omega arith
nearer n m p d q i j west o = omega arith

-- what is proved of the paths of f and g
abbrev Apart : (n m f d g e : ℕ) → Type 0
Apart n m f d g e =
    (member f (path n m g e) ≡ true → ⊥) → path_length n m f d ≤ path_length n m g d → clear n m f d g e ≡ true

-- West.
module _ (n m : ℕ) (hn : n ≤ 30) (hm : m ≤ 30) (f g : ℕ) (i : Inner n m f) (j : Inner n m g)
    (o : column f ≤ column g) where
  -- a processor on both paths: then f is on the path of g
  over : (e q : ℕ) → Way e → Box n m f 4 q → Box n m g e q → Box n m g e f
  over e q south a b = omega arith
  over e q north a b = omega arith
  over e q east a b = omega arith
  over e q west a b = omega arith

  no_meeting : (e : ℕ) → Way e → (member f (path n m g e) ≡ true → ⊥) → meet n m f 4 g e ≡ false
  unfolding meet
  no_meeting e w k =
      by_bool (meet n m f 4 g e)
      (λ h.
      let s = share_elim (path n m f 4) (path n m g e) h in
      let a = on_path_box n m hn hm f 4 s.q west i s.left in
      let b = on_path_box n m hn hm g e s.q w j s.right in
      absurd (k (box_on_path n m hn hm g e f w j (over e s.q w a b))))
      (λ h. h)

  no_near_miss : (e : ℕ) → Way e → near_miss f 4 g e ≡ false
  unfolding near_miss
  no_near_miss e south = refl
  no_near_miss e north = refl
  no_near_miss e east = rw (le-ltb (column g) (column f) o, and_none (eqb (difference (row g) (row f)) 1))
  no_near_miss e west = refl

west_clear : (n m : ℕ) → n ≤ 30 → m ≤ 30 → (f g e : ℕ) → Inner n m f → Inner n m g → Way e → Apart n m f 4 g e
west_clear n m hn hm f g e i j w k o =
    let l : column f ≤ column g = omega arith in
    neither_clear n m f 4 g e (no_meeting n m hn hm f g i j l e w k) (no_near_miss n m hn hm f g i j l e w)

-- The other sides: a turning that takes the side to the west.
to_west : {d : ℕ} → Way d → Turn
to_west south = turn true false true
to_west north = turn true false false
to_west east = turn false false true
to_west west = same

is_west : {d : ℕ} (w : Way d) → way_of (to_west w) d ≡ 4
unfolding to_west
is_west south = refl
is_west north = refl
is_west east = refl
is_west west = refl

pub outward_clear : (n m : ℕ) → n ≤ 30 → m ≤ 30 → (f d g e : ℕ) → Inner n m f → Inner n m g → Way d → Way e
    → (member f (path n m g e) ≡ true → ⊥) → Outer d f g → clear n m f d g e ≡ true
outward_clear n m hn hm f d g e i j w v k o = by (to_west w) (is_west w)
  where
    by : (t : Turn) → way_of t d ≡ 4 → clear n m f d g e ≡ true
    by t z =
        let s = sizes_high t n m hn hm in
        let c = lawful t n m hn hm in
        let n' = rows_of t n m in
        let m' = columns_of t n m in
        let f' = place_of t n m f in
        let g' = place_of t n m g in
        let a : Apart n' m' f' (way_of t d) g' (way_of t e) =
        subst (λ (x : ℕ). Apart n' m' f' x g' (way_of t e)) (sym z)
        (west_clear n' m' s.0 s.1 f' g' (way_of t e) (c.inside f i) (c.inside g j) (c.straight e v)) in
        sym (clear_turned t n m hn hm f d g e i j w v)
        ∙ a (λ h. k (sym (path_turned t n m hn hm g e j v f (inner_within i)) ∙ h))
        (omega (arith, c.long f d i w, c.long g d j w, nearer n m f d g i j w o))
