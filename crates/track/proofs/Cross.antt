-- The letters of one channel lead a row of cells across it: from the routing states of six processors, by one computed test.
-- Assumes nothing.
use Prim.Native.Nat.{ℕ, suc}
use mathlib.Core.Bool.{Bool, true, false, ◌&&◌}
use lib.Dec.{T, eqb}
use Rattle.track.specs.Letters.{entry, letter, letters}
use Rattle.track.proofs.Walks.{State, v0, v1, v2, v3, v4, Letter, sa, sb, sc, sd, code, table}

-- states that may stand one above the other, and side by side, in a plan
abbrev pub above : State → State → Bool
above v0 v0 = true
above v0 v1 = false
above v0 v2 = true
above v0 v3 = false
above v0 v4 = false
above v1 v0 = false
above v1 v1 = true
above v1 v2 = false
above v1 v3 = false
above v1 v4 = false
above v2 v0 = false
above v2 v1 = true
above v2 v2 = false
above v2 v3 = false
above v2 v4 = false
above v3 v0 = true
above v3 v1 = false
above v3 v2 = true
above v3 v3 = false
above v3 v4 = false
above v4 v0 = false
above v4 v1 = false
above v4 v2 = false
above v4 v3 = true
above v4 v4 = true

abbrev pub beside : State → State → Bool
beside v0 v0 = true
beside v0 v1 = true
beside v0 v2 = true
beside v0 v3 = true
beside v0 v4 = true
beside v1 v0 = true
beside v1 v1 = true
beside v1 v2 = true
beside v1 v3 = false
beside v1 v4 = false
beside v2 v0 = true
beside v2 v1 = true
beside v2 v2 = true
beside v2 v3 = true
beside v2 v4 = false
beside v3 v0 = true
beside v3 v1 = false
beside v3 v2 = true
beside v3 v3 = true
beside v3 v4 = true
beside v4 v0 = true
beside v4 v1 = false
beside v4 v2 = false
beside v4 v3 = true
beside v4 v4 = true

abbrev pub is : Letter → Letter → Bool
is l m = eqb (code l) (code m)

-- where, of the rows k, k+1, k+2, a cell of row k+1 is placed
pub data Rel : Type 0 where
  top mid bot : Rel

abbrev pub rel : State → Rel
rel v0 = mid
rel v1 = bot
rel v2 = bot
rel v3 = top
rel v4 = top

abbrev pub row : ℕ → Rel → ℕ
row k top = k
row k mid = suc k
row k bot = suc (suc k)

-- the letters of the rows k, k+1, k+2 that lead from the W port at one row to the E port at another
abbrev pub leads : Rel → Rel → Letter → Letter → Letter → Bool
leads top top l m n = is l sb
leads top mid l m n = is l sc && is m sc
leads top bot l m n = is l sc && (is m sa && is n sc)
leads mid top l m n = is m sd && is l sd
leads mid mid l m n = is m sb
leads mid bot l m n = is m sc && is n sc
leads bot top l m n = is n sd && (is m sa && is l sd)
leads bot mid l m n = is n sd && is m sd
leads bot bot l m n = is n sb

abbrev pub all : (State → Bool) → Bool
all f = f v0 && (f v1 && (f v2 && (f v3 && f v4)))

pub and_left : (a b : Bool) → T (a && b) → T a
and_left true b t = tt
and_left false b t = t

pub and_right : (a b : Bool) → T (a && b) → T b
and_right true b t = t
and_right false b t = absurd t

pub and_intro : (a b : Bool) → T a → T b → T (a && b)
and_intro true b s t = t
and_intro false b s t = s

pub all_at : (f : State → Bool) → T (all f) → (s : State) → T (f s)
all_at f t v0 = and_left (f v0) _ t
all_at f t v1 = and_left (f v1) _ (and_right (f v0) _ t)
all_at f t v2 = and_left (f v2) _ (and_right (f v1) _ (and_right (f v0) _ t))
all_at f t v3 = and_left (f v3) _ (and_right (f v2) _ (and_right (f v1) _ (and_right (f v0) _ t)))
all_at f t v4 = and_right (f v3) _ (and_right (f v2) _ (and_right (f v1) _ (and_right (f v0) _ t)))

pub pairs_at : (f : State → State → Bool) → T (all (λ s. all (λ t. f s t))) → (s t : State) → T (f s t)
pairs_at f h s t = all_at (λ t. f s t) (all_at (λ s. all (λ t. f s t)) h s) t

-- where a test passes, another does
abbrev pub given : Bool → Bool → Bool
given true b = b
given false b = true

pub use_given : (a b : Bool) → T (given a b) → T a → T b
use_given true b g t = g
use_given false b g t = absurd t

-- u u' u'' the states of the west column in rows k, k+1, k+2, and v v' v'' of the east one
abbrev pub right : State → State → State → State → State → State → Bool
right u' v' u v u'' v'' =
    given (beside u' v' && (above u u' && (above v v' && (above u' u'' && above v' v''))))
    (leads (rel u') (rel v') (table u v) (table u' v') (table u'' v''))

pub everywhere :
    T
    (all (λ u'. all (λ v'. all (λ u. all (λ v. all (λ u''. all (λ v''. right u' v' u v u'' v'')))))))
unfolding letter entry letters
everywhere = tt

pub rule :
    (u' v' u v u'' v'' : State) →
    T (beside u' v') → T (above u u') → T (above v v') → T (above u' u'') → T (above v' v'') →
    T (leads (rel u') (rel v') (table u v) (table u' v') (table u'' v''))
rule u' v' u v u'' v'' n a b c d =
    use_given (beside u' v' && (above u u' && (above v v' && (above u' u'' && above v' v'')))) _
    (pairs_at (λ u'' v''. right u' v' u v u'' v'')
    (pairs_at (λ u v. all (λ u''. all (λ v''. right u' v' u v u'' v'')))
    (pairs_at (λ u' v'. all (λ u. all (λ v. all (λ u''. all (λ v''. right u' v' u v u'' v''))))) everywhere u' v') u v) u'' v'')
    (and_intro (beside u' v') _ n
    (and_intro (above u u') _ a (and_intro (above v v') _ b (and_intro (above u' u'') (above v' v'') c d))))
