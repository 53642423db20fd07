-- The run through one channel, from the letters of its switches.
-- Assumes nothing.
use Prim.Native.Nat.{ℕ, suc}
use mathlib.Core.Path.{◌≡◌, refl, sym, ap, ◌∙◌}
use mathlib.Core.Bool.{◌&&◌}
use lib.Dec.{T, eqb→eq}
use Rattle.track.specs.declared.ports.Compass.TheVariants.{W, E, N, S}
use Rattle.track.proofs.Walks.{Letter, sa, sb, sc, sd, no_switch, code, decode, Inside, Run, switch, walk, enter_W}
use Rattle.track.proofs.Cross.{Rel, top, mid, bot, row, leads, is, and_left, and_right}

decoded : (l : Letter) → decode (code l) ≡ l
decoded sa = refl
decoded sb = refl
decoded sc = refl
decoded sd = refl
decoded no_switch = refl

pub is_eq : (l m : Letter) → T (is l m) → l ≡ m
is_eq l m t = sym (decoded l) ∙ ap decode (eqb→eq (code l) (code m) t) ∙ decoded m

pub is_eq₂ : (l m l' m' : Letter) → T (is l m && is l' m') → (l ≡ m) × (l' ≡ m')
is_eq₂ l m l' m' t =
    (is_eq l m (and_left (is l m) (is l' m') t), is_eq l' m' (and_right (is l m) (is l' m') t))

pub is_eq₃ :
    (l m l' m' l'' m'' : Letter) → T (is l m && (is l' m' && is l'' m'')) → (l ≡ m) × (l' ≡ m') × (l'' ≡ m'')
is_eq₃ l m l' m' l'' m'' t =
    let r : T (is l' m' && is l'' m'') = and_right (is l m) (is l' m' && is l'' m'') t in
    (is_eq l m (and_left (is l m) (is l' m' && is l'' m'') t), (is_eq₂ l' m' l'' m'' r).0, (is_eq₂ l' m' l'' m'' r).1)

-- the switches that a link passes from the W port at one row to the E port at another, and then r
abbrev pub run : ℕ → ℕ → Rel → Rel → Run → Run
run k y top top r = switch k y W E r
run k y top mid r = switch k y W S (switch (suc k) y N E r)
run k y top bot r = switch k y W S (switch (suc k) y N S (switch (suc (suc k)) y N E r))
run k y mid top r = switch (suc k) y W N (switch k y S E r)
run k y mid mid r = switch (suc k) y W E r
run k y mid bot r = switch (suc k) y W S (switch (suc (suc k)) y N E r)
run k y bot top r = switch (suc (suc k)) y W N (switch (suc k) y S N (switch k y S E r))
run k y bot mid r = switch (suc (suc k)) y W N (switch (suc k) y S E r)
run k y bot bot r = switch (suc (suc k)) y W E r

-- n and the number of those switches
abbrev pub with_run : Rel → Rel → ℕ → ℕ
with_run top top n = suc n
with_run top mid n = suc (suc n)
with_run top bot n = suc (suc (suc n))
with_run mid top n = suc (suc n)
with_run mid mid n = suc n
with_run mid bot n = suc (suc n)
with_run bot top n = suc (suc (suc n))
with_run bot mid n = suc (suc n)
with_run bot bot n = suc n

module _ (L : ℕ → ℕ → Letter) (I : ℕ → ℕ → Inside) (k y n : ℕ) where
  abbrev pub Led : Rel → Rel → Type 0
  Led p q = T (leads p q (L k y) (L (suc k) y) (L (suc (suc k)) y))

  abbrev pub Runs : Rel → Rel → Type 0
  Runs p q =
      walk L I (with_run p q n) (row k p) y W
      ≡ run k y p q (enter_W (walk L I n) (I (row k q) (suc y)) (row k q) (suc y))

  pub runs_on : (p q : Rel) → Led p q → Runs p q
  runs_on top top t = rw (is_eq (L k y) sb t)
  runs_on top mid t =
      let e = is_eq₂ (L k y) sc (L (suc k) y) sc t in
      rw (e.0, e.1)
  runs_on top bot t =
      let e = is_eq₃ (L k y) sc (L (suc k) y) sa (L (suc (suc k)) y) sc t in
      rw (e.0, e.1, e.2)
  runs_on mid top t =
      let e = is_eq₂ (L (suc k) y) sd (L k y) sd t in
      rw (e.0, e.1)
  runs_on mid mid t = rw (is_eq (L (suc k) y) sb t)
  runs_on mid bot t =
      let e = is_eq₂ (L (suc k) y) sc (L (suc (suc k)) y) sc t in
      rw (e.0, e.1)
  runs_on bot top t =
      let e = is_eq₃ (L (suc (suc k)) y) sd (L (suc k) y) sa (L k y) sd t in
      rw (e.0, e.1, e.2)
  runs_on bot mid t =
      let e = is_eq₂ (L (suc (suc k)) y) sd (L (suc k) y) sd t in
      rw (e.0, e.1)
  runs_on bot bot t = rw (is_eq (L (suc (suc k)) y) sb t)
