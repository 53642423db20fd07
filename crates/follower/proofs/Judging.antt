-- The follower's answer from one node to the next.
-- Assumes nothing.
use Rattle.std.proofs.Common.{◌≡◌, refl, sym, ap, ◌∙◌, ℕ, suc, true, false, List}
use Rattle.std.specs.Prelude.{Option, Some, None, Result, Ok, Err, ok_or}
use native.Mathlib.Numerals.{add-one}
use mathlib.Core.Bool.{true≢false}
use borrow.Author.Tests.{eqb-true, eqb-false}
use lib.Dec.{eqb}
use Rattle.array.proofs.Bools.{by_bool}
use Rattle.array.specs.Tests.{Verdict, refuse}
use Rattle.array.specs.declared.Refusal.{Refusal}
use Rattle.track.specs.Ports.{Wafer, ◌at◌, stretch_from, ends_link, joined}
use Rattle.track.specs.declared.ports.Compass.{Compass}
use Rattle.track.specs.declared.ports.Node.{Node}
use Rattle.track.specs.declared.ports.Port.{Port}
use Rattle.track.specs.declared.Landing.{Landing}
use Rattle.track.specs.Link.{Trail, passes, enters, unjoined_at, ends, on, stops, is_switch, inside, run}
use Rattle.track.specs.Follower.{position_of, refused, judged}
use Rattle.track.proofs.Follows.{run_nowhere, run_ending, run_passing, run_stopping, judged_switch, judged_fourth, judged_fault, unjoined_switch, unjoined_fourth, unjoined_fault}
use Rattle.follower.specs.declared.Walk.{Walk}
use Rattle.follower.specs.Inner.{SoundWalk, Enters, Advances, answer}

module _ (w : Wafer) (o : Port) (c k : ℕ) where
  -- from where the stretch leads
  pub no_way : stretch_from w o ≡ None → (z : ℕ) → judged w.grid c k (run w (suc z) o) ≡ refused 17 c
  unfolding judged
  no_way h z = ap (judged w.grid c k) (run_nowhere w z o h)

  module _ (i : Port) (h : stretch_from w o ≡ Some i) where
    pub at_end : ends_link w i.node ≡ true → (z : ℕ) → judged w.grid c k (run w (suc z) o) ≡ judged w.grid c k (enters i)
    unfolding inside
    at_end e z = let f : inside w i ≡ ends = rw (e, inside) in ap (judged w.grid c k) (run_ending w z o i h f)

    module _ (e : ends_link w i.node ≡ false) where
      pub at_join : (s : Compass) → joined w i.node i.side ≡ Some s
          → (z : ℕ) → judged w.grid c k (run w (suc z) o) ≡ judged w.grid c k (passes i (i.node at s) (run w z (i.node at s)))
      unfolding inside
      at_join s j z =
          let f : inside w i ≡ on (i.node at s) = rw (e, inside, j) in
          ap (judged w.grid c k) (run_passing w z o i (i.node at s) h f)

      pub at_stop : joined w i.node i.side ≡ None → (z : ℕ) → judged w.grid c k (run w (suc z) o) ≡ judged w.grid c k (unjoined_at i)
      unfolding inside
      at_stop j z = let f : inside w i ≡ stops = rw (e, inside, j) in ap (judged w.grid c k) (run_stopping w z o i h f)

-- from what the walk makes of the node entered
not_both : {x : Refusal} {A : Type 0} → ◌≡◌ {A = Verdict} (Err x) (Ok tt) → A
not_both e = absurd (true≢false (cc))

same : {x y : Refusal} → ◌≡◌ {A = Verdict} (Err x) (Err y) → x ≡ y
same e = cc

module _ (g : List ℕ) {v v' : Walk} (i : Port) {r : Verdict} (n : Enters v i.node v' r) where
  -- the refusal of a fourth switch
  refused_here : is_switch i.node ≡ true → eqb v.passed 3 ≡ true → r ≡ refuse 18 (position_of i.node) 0
  refused_here s f = rw (s, f) at n.refused

  pub goes_on : r ≡ Ok tt → (q : Port) (t : Trail) → judged g v.last v.passed (passes i q t) ≡ judged g v'.last v'.passed t
  goes_on e q t =
      by_bool (is_switch i.node)
      (λ s.
      by_bool (eqb v.passed 3) (λ f. not_both (sym (refused_here s f) ∙ e))
      (λ f.
      let a = rw s at n.last e in
      let b = rw s at n.passed e in
      judged_switch g v.last v.passed i q t s (eqb-false v.passed 3 f) ∙ rw (a, b, add-one v.passed)))
      (λ s.
      let a = rw s at n.last e in
      let b = rw s at n.passed e in
      judged_fault g v.last v.passed i q t s ∙ rw (a, b))

  pub stops_here : r ≡ Ok tt → judged g v.last v.passed (unjoined_at i) ≡ refused 17 v'.last
  stops_here e =
      by_bool (is_switch i.node)
      (λ s.
      by_bool (eqb v.passed 3) (λ f. not_both (sym (refused_here s f) ∙ e))
      (λ f.
      let a = rw s at n.last e in
      unjoined_switch g v.last v.passed i s (eqb-false v.passed 3 f) ∙ rw a))
      (λ s.
      let a = rw s at n.last e in
      unjoined_fault g v.last v.passed i s ∙ rw a)

  module _ (x : Refusal) (e : r ≡ Err x) where
    not_passed : is_switch i.node ≡ false → {A : Type 0} → A
    not_passed s = let a = rw s at n.refused in not_both (sym e ∙ a)

    pub fourth : (q : Port) (t : Trail) → judged g v.last v.passed (passes i q t) ≡ Err x
    fourth q t =
        by_bool (is_switch i.node)
        (λ s.
        by_bool (eqb v.passed 3)
        (λ f. judged_fourth g v.last v.passed i q t s (eqb-true v.passed 3 f) ∙ ap Err (same (sym (refused_here s f) ∙ e)))
        (λ f. let a = rw (s, f) at n.refused in not_both (sym e ∙ a)))
        (λ s. not_passed s)

    pub fourth_stops : judged g v.last v.passed (unjoined_at i) ≡ Err x
    fourth_stops =
        by_bool (is_switch i.node)
        (λ s.
        by_bool (eqb v.passed 3)
        (λ f. unjoined_fourth g v.last v.passed i s (eqb-true v.passed 3 f) ∙ ap Err (same (sym (refused_here s f) ∙ e)))
        (λ f. let a = rw (s, f) at n.refused in not_both (sym e ∙ a)))
        (λ s. not_passed s)

-- the same where it is not known what is joined there
pub fourth_met : (w : Wafer) {v v' : Walk} (i : Port) {r : Verdict} → stretch_from w v.port ≡ Some i → ends_link w i.node ≡ false
    → Enters v i.node v' r → (x : Refusal) → r ≡ Err x → (z : ℕ) → judged w.grid v.last v.passed (run w (suc z) v.port) ≡ Err x
fourth_met w {v} i h e n x f z = by_side (joined w i.node i.side) refl
  where
    by_side : (s : Option Compass) → joined w i.node i.side ≡ s → judged w.grid v.last v.passed (run w (suc z) v.port) ≡ Err x
    by_side None j = at_stop w v.port v.last v.passed i h e j z ∙ fourth_stops w.grid i n x f
    by_side (Some s) j = at_join w v.port v.last v.passed i h e s j z ∙ fourth w.grid i n x f (i.node at s) (run w z (i.node at s))

-- a walk that is refused
pub refused_as : {w : Wafer} {v v' : Walk} {r : Result (Option Landing) Refusal} {x : Refusal} → r ≡ Err x
    → ((z : ℕ) → judged w.grid v.last v.passed (run w (suc z) v.port) ≡ Err x) → SoundWalk v' → Advances w v v' r
refused_as {w} {v} {v'} e h s = record { is = λ z. ap (answer w z v') e ∙ sym (h z); sound = s }

-- the walk after a node entered
pub still_sound : {v v' : Walk} {i : Node} {r : Verdict} → SoundWalk v → Enters v i v' r → SoundWalk v'
still_sound s n = record { port = rw n.same s.port; few = n.few }

-- what `ok_or` says of the value
pub was_none : {A B : Type 0} (o : Option A) (e d : B) → ok_or o e ≡ Err d → (o ≡ None) × (d ≡ e)
was_none None e d h = (refl, cc)
was_none (Some x) e d h = absurd (true≢false (cc))

pub was_some : {A B : Type 0} (o : Option A) (e : B) (x : A) → ok_or o e ≡ Ok x → o ≡ Some x
was_some None e x h = absurd (true≢false (cc))
was_some (Some y) e x h = cc

-- no nodes left
pub none_left : (w : Wafer) (g : List ℕ) (c k : ℕ) (o : Port) → judged g c k (run w 0 o) ≡ refused 0 0
unfolding run judged
none_left w g c k o = refl
