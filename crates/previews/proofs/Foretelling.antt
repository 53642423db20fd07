-- What a preview gives, by the answer of its report, and how it counts what would change.
-- Assumes nothing.
use Rattle.std.specs.Prelude.{Ok, Err, count_by, filter}
use Rattle.std.proofs.lemmas.List.Sums.{length-filter}
use Rattle.std.specs.List.{zip}
use Prim.Native.Nat.{ℕ, suc, ◌+◌, ◌<◌}
use mathlib.Core.Path.{◌≡◌, refl, sym, ap, ◌∙◌}
use mathlib.Core.Bool.{Bool, not}
use mathlib.Core.List.{List, [], ◌∷◌}
use native.Mathlib.Omega.{arith}
use native.Mathlib.Nat.{add-zero, zero-add}
use lib.Dec.{eqb}
use lib.ListN.{length, get_or}
use Rattle.array.specs.Buffer.{positions_along}
use Rattle.array.specs.Tests.{told}
use Rattle.array.specs.declared.Refusal.{Refusal}
use Rattle.array.specs.Tests.{Verdict}
use Rattle.array.proofs.Bools.{by_bool}
use Rattle.array.proofs.Answers.{verdict_kept}
use Rattle.sessions.specs.Session.{report_test, session_reported}
use Rattle.sessions.specs.declared.Session.{Session}
use Rattle.sessions.proofs.Judging.{accepted_standing}
use Rattle.sessions.proofs.Stood.{below}
use Rattle.previews.specs.Preview.{nothing_foretold, shown_at, foretold_if, foretold, differs, differences}
use Rattle.previews.specs.declared.Foretold.{Foretold}

-- a session s, a report of p, and the answer v that was told
module _ (s : Session) (failing : Bool) (p : ℕ) (v : Verdict) (h : told v ≡ told (report_test s failing p)) where
  -- what is foretold, chosen by an answer
  abbrev chosen : Verdict → Foretold
  chosen a = foretold_if a (shown_at (session_reported s failing p) p)

  answered : v ≡ report_test s failing p
  answered = verdict_kept v (report_test s failing p) h

  by_answer : chosen v ≡ foretold s failing p
  unfolding foretold
  by_answer = ap chosen answered

  pub refused_foretells : {r : Refusal} → v ≡ Err r → nothing_foretold ≡ foretold s failing p
  refused_foretells e = ap chosen (sym e) ∙ by_answer

  -- where it is accepted
  module _ (e : v ≡ Ok tt) where
    pub accepted_foretells : {after : Session} → after ≡ session_reported s failing p
        → shown_at after p ≡ foretold s failing p
    accepted_foretells is = ap (λ (t : Session). shown_at t p) is ∙ ap chosen (sym e) ∙ by_answer

    pub accepted_below : p < 1024
    accepted_below = below (accepted_standing s p failing (sym answered ∙ e))

-- The pairs of two buffers that differ stand at the positions that are counted.
abbrev unequal : ℕ × ℕ → Bool
unequal p = not (eqb p.0 p.1)

along_pairs : (b : List ℕ) (i : ℕ) (xs ys : List ℕ) → length xs ≡ length ys
    → ((k : ℕ) → k < length ys → get_or b (i + k) 0 ≡ get_or ys k 0)
    → length (filter unequal (zip xs ys)) ≡ length (positions_along (differs b) i xs)
unfolding positions_along
along_pairs b i [] [] e h = refl
along_pairs b i [] (y ∷ ys) e h = absurd (omega (arith, e))
along_pairs b i (x ∷ xs) [] e h = absurd (omega (arith, e))
along_pairs b i (x ∷ xs) (y ∷ ys) e h =
    let here : get_or b i 0 ≡ y = rw (add-zero i) at (h 0 (omega arith)) in
    let rest =
    along_pairs b (suc i) xs ys (omega (arith, e))
    (λ k l. let same : suc i + k ≡ i + suc k = omega arith in rw same (h (suc k) (omega arith))) in
    by_bool (eqb x y) (λ t. rw (here, t) rest) (λ t. rw (here, t) (ap suc rest))

pub pairs_differ : (a b : List ℕ) → length a ≡ length b → count_by unequal (zip a b) ≡ differences a b
unfolding differences
pairs_differ a b e =
    sym (length-filter unequal (zip a b))
    ∙ along_pairs b 0 a b e (λ k l. ap (λ (j : ℕ). get_or b j 0) (zero-add k))
