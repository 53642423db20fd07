-- What the clash of two paths says of them: clear exactly where they neither meet nor are a near-miss, whichever is named first.
-- Assumes nothing.
use Rattle.std.specs.Prelude.{Ok}
use mathlib.Core.Path.{◌≡◌, refl, ap₂}
use mathlib.Core.Bool.{Bool, true, false, cond, ◌||◌, or_comm, true≢false, false≢true}
use mathlib.Core.Logic.{◌⊎◌, inl, inr}
use Prim.Native.Nat.{ℕ}
use native.Mathlib.Omega.{arith}
use Rattle.array.proofs.Bools.{bool_ext}
use Rattle.paths.specs.Path.{Clash, Clear, Meet, NearMiss, path, meet, south_north, east_west, near_miss, clash, is_clear, clear, refuse_clash, pair_test}
use Rattle.paths.proofs.Meeting.{share_elim, share_intro}

-- the clash by the two tests
abbrev by_tests : Bool → Bool → Clash
by_tests meets near = cond meets Meet (cond near NearMiss Clear)

module _ (n m p d q e : ℕ) where
  pub clear_neither : clear n m p d q e ≡ true → (meet n m p d q e ≡ false) × (near_miss p d q e ≡ false)
  unfolding clear clash
  clear_neither h = by (meet n m p d q e) (near_miss p d q e) h
    where
      by : (a b : Bool) → is_clear (by_tests a b) ≡ true → (a ≡ false) × (b ≡ false)
      by false false h = (refl, refl)
      by false true h = absurd (false≢true h)
      by true b h = absurd (false≢true h)

  pub neither_clear : meet n m p d q e ≡ false → near_miss p d q e ≡ false → clear n m p d q e ≡ true
  unfolding clear clash
  neither_clear a b = rw (a, b)

  pub clash_either : clear n m p d q e ≡ false → (meet n m p d q e ≡ true) ⊎ (near_miss p d q e ≡ true)
  unfolding clear clash
  clash_either h = by (meet n m p d q e) (near_miss p d q e) h
    where
      by : (a b : Bool) → is_clear (by_tests a b) ≡ false → (a ≡ true) ⊎ (b ≡ true)
      by true b h = inl refl
      by false true h = inr refl
      by false false h = absurd (true≢false h)

  pub accepted_clear : pair_test n m p d q e ≡ Ok tt → clear n m p d q e ≡ true
  unfolding clear pair_test
  accepted_clear h = by (clash n m p d q e) h
    where
      by : (c : Clash) → refuse_clash p q c ≡ Ok tt → is_clear c ≡ true
      by Clear h = refl
      by Meet h = let z : ◌≡◌ {A = ℕ} 0 1 = cc in absurd (omega arith)
      by NearMiss h = let z : ◌≡◌ {A = ℕ} 0 1 = cc in absurd (omega arith)

  pub clear_accepted : clear n m p d q e ≡ true → pair_test n m p d q e ≡ Ok tt
  unfolding clear pair_test
  clear_accepted h = by (clash n m p d q e) h
    where
      by : (c : Clash) → is_clear c ≡ true → refuse_clash p q c ≡ Ok tt
      by Clear h = refl
      by Meet h = absurd (false≢true h)
      by NearMiss h = absurd (false≢true h)

meets_back : (n m p d q e : ℕ) → meet n m p d q e ≡ true → meet n m q e p d ≡ true
unfolding meet
meets_back n m p d q e h =
    let s = share_elim (path n m p d) (path n m q e) h in
    share_intro (path n m q e) (path n m p d) s.q s.right s.left

-- which of two paths is named first does not matter
pub clear_comm : (n m p d q e : ℕ) → clear n m p d q e ≡ clear n m q e p d
unfolding clear clash near_miss
clear_comm n m p d q e =
    ap₂ (λ (a b : Bool). is_clear (by_tests a b)) (bool_ext _ _ (meets_back n m p d q e) (meets_back n m q e p d))
    (or_comm (south_north p d q e || east_west p d q e) (south_north q e p d || east_west q e p d))
