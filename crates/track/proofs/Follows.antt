-- On any wafer the follower tells of the link, and refuses with 17 and 18 exactly where its track ends or a fourth switch is ahead.
-- Seven steps are enough.
-- Assumes nothing.
use Rattle.std.specs.Prelude.{Ok, Err, Option, None, Some}
use Prim.Native.Nat.{ℕ, zero, suc, ◌+◌, ◌*◌, ◌≤◌}
use mathlib.Core.Path.{◌≡◌, refl, sym, ap, subst, ◌∙◌}
use mathlib.Core.Bool.{true, false, true≢false}
use mathlib.Core.List.{List}
use mathlib.Core.Logic.{◌⊎◌, inl, inr}
use native.Mathlib.Omega.{arith}
use native.Mathlib.Nat.{add-zero}
use borrow.Author.Tests.{eqb-true, eqb-false, eq-eqb, ne_eqb}
use lib.Dec.{eqb}
use Rattle.array.specs.Map.{faulty}
use Rattle.array.specs.Reason.{number_of}
use Rattle.array.specs.Tests.{refusal}
use Rattle.array.specs.declared.Refusal.{Refusal}
use Rattle.array.proofs.Bools.{by_bool}
use Rattle.track.specs.Ports.{Wafer, ◌at◌, neighbour, stands, if_stands, stretch_from, ends_link, joined}
use Rattle.track.specs.declared.ports.Compass.{Compass}
use Rattle.track.specs.declared.ports.Compass.TheVariants.{W, E, N, S}
use Rattle.track.specs.declared.ports.Node.{Node}
use Rattle.track.specs.declared.ports.Node.TheVariants.{Processor, Across, Down}
use Rattle.track.specs.declared.ports.Port.{Port}
use Rattle.track.specs.Link.{Trail, passes, enters, unjoined_at, no_stretch, unfinished, Inside, ends, on, stops, joined_to, inside, Link, last, next, run, is_switch, switches, Enters}
use Rattle.track.specs.Follower.{port_number, position_of, out_of, seat_of, refused, judged, followed, Enough, LinkOf, FollowerOwn}
use Rattle.track.specs.declared.Landing.{Landing}
use Rattle.track.specs.Follower.{Followed}
use Rattle.track.specs.Refusals.{Passed, begun, by_switch, by_fault, TrackEnds, FourthSwitch, fourth, FollowerRefuses}
use Rattle.track.proofs.OneLink.{one_link}
use Rattle.track.specs.Refusals as refusals

-- what a port leads to
data Step (w : Wafer) (o : Port) : Type 0 where
  nowhere : stretch_from w o ≡ None → Step w o
  ending : (i : Port) → stretch_from w o ≡ Some i → inside w i ≡ ends → Step w o
  passing : (i q : Port) → stretch_from w o ≡ Some i → inside w i ≡ on q → Step w o
  stopping : (i : Port) → stretch_from w o ≡ Some i → inside w i ≡ stops → Step w o

step : (w : Wafer) (o : Port) → Step w o
step w o = from (stretch_from w o) refl
  where
    into : (i : Port) → stretch_from w o ≡ Some i → (a : Inside) → inside w i ≡ a → Step w o
    into i e ends f = ending i e f
    into i e (on q) f = passing i q e f
    into i e stops f = stopping i e f

    from : (s : Option Port) → stretch_from w o ≡ s → Step w o
    from None e = nowhere e
    from (Some i) e = into i e (inside w i) refl

-- a computed run by its first step
module _ (w : Wafer) (f : ℕ) (o : Port) where
  pub run_nowhere : stretch_from w o ≡ None → run w (suc f) o ≡ no_stretch
  unfolding run
  run_nowhere e = rw (e, run)

  pub run_ending : (i : Port) → stretch_from w o ≡ Some i → inside w i ≡ ends → run w (suc f) o ≡ enters i
  unfolding run
  run_ending i e h = rw (e, h, run)

  pub run_passing : (i q : Port) → stretch_from w o ≡ Some i → inside w i ≡ on q → run w (suc f) o ≡ passes i q (run w f q)
  unfolding run
  run_passing i q e h = rw (e, h, run)

  pub run_stopping : (i : Port) → stretch_from w o ≡ Some i → inside w i ≡ stops → run w (suc f) o ≡ unjoined_at i
  unfolding run
  run_stopping i e h = rw (e, h, run)

-- a computed run that enters a processor is the link
run_link : (w : Wafer) (f : ℕ) (o e : Port) → Enters (run w f o) e → Link w o (run w f o)
unfolding run
run_link w zero o e h = absurd h
run_link w (suc f) o e h = by_step (λ q. run_link w f q e) (step w o)
  where
    by_step : ((q : Port) → Enters (run w f q) e → Link w q (run w f q)) → Step w o → Link w o (run w (suc f) o)
    by_step ih (nowhere s) = absurd (subst (λ (t : Trail). Enters t e) (run_nowhere w f o s) h)
    by_step ih (ending i s g) = subst (λ (t : Trail). Link w o t) (sym (run_ending w f o i s g)) (last s g)
    by_step ih (passing i q s g) =
        let x = run_passing w f o i q s g in
        subst (λ (t : Trail). Link w o t) (sym x) (next s g (ih q (subst (λ (t : Trail). Enters t e) x h)))
    by_step ih (stopping i s g) = absurd (subst (λ (t : Trail). Enters t e) (run_stopping w f o i s g) h)

-- the nodes that a trail enters, and f
steps : Trail → ℕ → ℕ
steps (passes i q t) f = suc (steps t f)
steps (enters i) f = suc f
steps (unjoined_at i) f = suc f
steps no_stretch f = suc f
steps unfinished f = f

-- a link is what a run of as many steps computes
link_run : (w : Wafer) (o : Port) (t : Trail) (f : ℕ) → Link w o t → run w (steps t f) o ≡ t
unfolding steps
link_run w o t f (last {i = i} e g) = run_ending w f o i e g
link_run w o t f (next {i = i} {q = q} {t = r} e g l) =
    run_passing w (steps r f) o i q e g ∙ ap (passes i q) (link_run w q r f l)

steps_high : (t : Trail) (f : ℕ) → f ≤ steps t f
unfolding steps
steps_high (passes i q t) f = omega (arith, steps_high t f)
steps_high (enters i) f = omega arith
steps_high (unjoined_at i) f = omega arith
steps_high no_stretch f = omega arith
steps_high unfinished f = omega arith

-- the follower's judgement by a trail's first step
module _ (grid : List ℕ) (c k : ℕ) (i q : Port) (t : Trail) where
  pub judged_switch : is_switch i.node ≡ true → (k ≡ 3 → ⊥)
      → judged grid c k (passes i q t) ≡ judged grid (position_of i.node) (suc k) t
  unfolding judged
  judged_switch h n = rw (h, ne_eqb k 3 n)

  pub judged_fourth : is_switch i.node ≡ true → k ≡ 3 → judged grid c k (passes i q t) ≡ refused 18 (position_of i.node)
  unfolding judged
  judged_fourth h e = rw (h, eq-eqb k 3 e)

  pub judged_fault : is_switch i.node ≡ false → judged grid c k (passes i q t) ≡ judged grid c k t
  unfolding judged
  judged_fault h = rw h

  switches_switch : is_switch i.node ≡ true → switches (passes i q t) ≡ suc (switches t)
  unfolding switches
  switches_switch h = rw h

  switches_fault : is_switch i.node ≡ false → switches (passes i q t) ≡ switches t
  unfolding switches
  switches_fault h = rw h

-- a track that ends at an unjoined port
module _ (grid : List ℕ) (c k : ℕ) (i : Port) where
  pub unjoined_switch : is_switch i.node ≡ true → (k ≡ 3 → ⊥) → judged grid c k (unjoined_at i) ≡ refused 17 (position_of i.node)
  unfolding judged
  unjoined_switch h n = rw (h, ne_eqb k 3 n)

  pub unjoined_fourth : is_switch i.node ≡ true → k ≡ 3 → judged grid c k (unjoined_at i) ≡ refused 18 (position_of i.node)
  unfolding judged
  unjoined_fourth h e = rw (h, eq-eqb k 3 e)

  pub unjoined_fault : is_switch i.node ≡ false → judged grid c k (unjoined_at i) ≡ refused 17 c
  unfolding judged
  unjoined_fault h = rw h

  -- in each case a refusal
  unjoined_refused : {A : Type 0} → ((m p : ℕ) → 1 ≤ m → judged grid c k (unjoined_at i) ≡ refused m p → A) → A
  unjoined_refused f =
      by_bool (is_switch i.node)
      (λ h.
      by_bool (eqb k 3) (λ z. f 18 (position_of i.node) (omega arith) (unjoined_fourth h (eqb-true k 3 z)))
      (λ z. f 17 (position_of i.node) (omega arith) (unjoined_switch h (eqb-false k 3 z))))
      (λ h. f 17 c (omega arith) (unjoined_fault h))

module _ (grid : List ℕ) (c k : ℕ) (i : Port) where
  pub judged_healthy : faulty grid (position_of i.node) ≡ false
      → judged grid c k (enters i) ≡ Ok (record { position = position_of i.node; port = port_number i.side; switches = k })
  unfolding judged
  judged_healthy h = rw h

  pub judged_faulty : faulty grid (position_of i.node) ≡ true → judged grid c k (enters i) ≡ refused 17 c
  unfolding judged
  judged_faulty h = rw h

not_entered : (m p : ℕ) (l : Landing) {A : Type 0} → refused m p ≡ Ok l → A
not_entered m p l e = absurd (true≢false (cc))

-- what is returned of a trail that enters at e, where k switches were passed before
abbrev landing_after : ℕ → Trail → Port → Landing
landing_after k t e = record { position = position_of e.node; port = port_number e.side; switches = k + switches t }

record ComesIn (grid : List ℕ) (k : ℕ) (t : Trail) (l : Landing) : Type 0 where
  pub end : Port
  pub ends : Enters t end
  pub healthy_end : faulty grid (position_of end.node) ≡ false
  pub few : k + switches t ≤ 3
  pub is : l ≡ landing_after k t end

same_landing : (p q a b : ℕ) → a ≡ b → ◌≡◌ {A = Landing} (record { position = p; port = q; switches = a }) (record { position = p; port = q; switches = b })
same_landing p q a b e = rw e

comes_in : (grid : List ℕ) (c k : ℕ) (t : Trail) (l : Landing) → k ≤ 3 → judged grid c k t ≡ Ok l → ComesIn grid k t l
unfolding judged switches
comes_in grid c k (passes i q t) l h e =
    by_bool (is_switch i.node) (through (λ z b. comes_in grid (position_of i.node) (suc k) t l b z)) (fault (λ z. comes_in grid c k t l h z))
  where
    -- from the rest of the trail, with j switches passed before it
    passing : (j : ℕ) → ComesIn grid j t l → j + switches t ≡ k + switches (passes i q t) → ComesIn grid k (passes i q t) l
    passing j r x =
        record {
          end = r.end;
          ends = r.ends;
          healthy_end = r.healthy_end;
          few = omega (arith, r.few, x);
          is = r.is ∙ same_landing _ _ _ _ x;
        }

    through : (judged grid (position_of i.node) (suc k) t ≡ Ok l → suc k ≤ 3 → ComesIn grid (suc k) t l)
        → is_switch i.node ≡ true → ComesIn grid k (passes i q t) l
    through ih s =
        by_bool (eqb k 3) (λ z. not_entered 18 (position_of i.node) l (sym (judged_fourth grid c k i q t s (eqb-true k 3 z)) ∙ e))
        (λ z.
        let n : (k ≡ 3 → ⊥) = eqb-false k 3 z in
        passing (suc k) (ih (sym (judged_switch grid c k i q t s n) ∙ e) (omega arith)) (omega (arith, switches_switch grid c k i q t s)))

    fault : (judged grid c k t ≡ Ok l → ComesIn grid k t l) → is_switch i.node ≡ false → ComesIn grid k (passes i q t) l
    fault ih s =
        passing k (ih (sym (judged_fault grid c k i q t s) ∙ e)) (omega (arith, switches_fault grid c k i q t s))
comes_in grid c k (enters i) l h e =
    by_bool (faulty grid (position_of i.node)) (λ z. not_entered 17 c l (sym (judged_faulty grid c k i z) ∙ e))
    (λ z. record {
      end = i;
      ends = refl;
      healthy_end = z;
      few = omega arith;
      is =
          let g : Ok (record { position = position_of i.node; port = port_number i.side; switches = k }) ≡ Ok l = sym (judged_healthy grid c k i z) ∙ e in
          let u : record { position = position_of i.node; port = port_number i.side; switches = k } ≡ l = cc in
          sym u ∙ same_landing _ _ _ _ (sym (add-zero k));
    })
comes_in grid c k (unjoined_at i) l h e = unjoined_refused grid c k i (λ m p b z. not_entered m p l (sym z ∙ e))
comes_in grid c k no_stretch l h e = not_entered 17 c l e
comes_in grid c k unfinished l h e = not_entered 0 0 l e

-- the other way
goes_in : (grid : List ℕ) (c k : ℕ) (t : Trail) (e : Port) → Enters t e → faulty grid (position_of e.node) ≡ false → k + switches t ≤ 3
    → judged grid c k t ≡ Ok (landing_after k t e)
unfolding judged switches
goes_in grid c k (passes i q t) e h g b =
    by_bool (is_switch i.node)
    (λ s.
    let x = switches_switch grid c k i q t s in
    judged_switch grid c k i q t s (λ z. omega (arith, b, x, z))
    ∙ goes_in grid (position_of i.node) (suc k) t e h g (omega (arith, b, x))
    ∙ ap Ok (same_landing _ _ _ _ (omega (arith, x))))
    (λ s.
    let x = switches_fault grid c k i q t s in
    judged_fault grid c k i q t s ∙ goes_in grid c k t e h g (omega (arith, b, x)) ∙ ap Ok (same_landing _ _ _ _ (omega (arith, x))))
goes_in grid c k (enters i) e h g b =
    let z : faulty grid (position_of i.node) ≡ false = rw h g in
    judged_healthy grid c k i z ∙ rw h (ap Ok (same_landing _ _ _ _ (sym (add-zero k))))
goes_in grid c k (unjoined_at i) e h g b = absurd h
goes_in grid c k no_stretch e h g b = absurd h
goes_in grid c k unfinished e h g b = absurd h

-- a stretch from a processor leads to a switch
beside_processor : (v : Node) (s : Compass) (i : Port) → is_switch v ≡ false → neighbour v s ≡ Some i → is_switch i.node ≡ true
unfolding neighbour
beside_processor (Processor x y) E i h e = let z : Across x y at W ≡ i = cc in ap (λ (u : Port). is_switch u.node) (sym z)
beside_processor (Processor x y) S i h e = let z : Down x y at N ≡ i = cc in ap (λ (u : Port). is_switch u.node) (sym z)
beside_processor (Processor x zero) W i h e = absurd (true≢false (cc))
beside_processor (Processor x (suc y)) W i h e = let z : Across x y at E ≡ i = cc in ap (λ (u : Port). is_switch u.node) (sym z)
beside_processor (Processor zero y) N i h e = absurd (true≢false (cc))
beside_processor (Processor (suc x) y) N i h e = let z : Down x y at S ≡ i = cc in ap (λ (u : Port). is_switch u.node) (sym z)
beside_processor (Across x y) s i h e = absurd (true≢false h)
beside_processor (Down x y) s i h e = absurd (true≢false h)

stands_some : (n m : ℕ) (a : Option Port) (i : Port) → if_stands n m a ≡ Some i → a ≡ Some i
stands_some n m None i e = absurd (true≢false (cc))
stands_some n m (Some j) i e = by_bool (stands n m j.node) (λ h. rw h at e) (λ h. let z : None ≡ Some i = rw h at e in absurd (true≢false (cc)))

leads_to_switch : (w : Wafer) (o i : Port) → is_switch o.node ≡ false → stretch_from w o ≡ Some i → is_switch i.node ≡ true
unfolding stretch_from
leads_to_switch w o i h e = beside_processor o.node o.side i h (stands_some w.rows w.columns _ i e)

-- a join stays in its node
same_node : (w : Wafer) (i q : Port) → inside w i ≡ on q → q.node ≡ i.node
unfolding inside
same_node w i q e = by_bool (ends_link w i.node) ended joining
  where
    ended : ends_link w i.node ≡ true → q.node ≡ i.node
    ended h = let z : ends ≡ on q = rw (h, inside) at e in absurd (true≢false (cc))

    at_port : (a : Option Compass) → joined_to i.node a ≡ on q → q.node ≡ i.node
    at_port None z = absurd (true≢false (cc))
    at_port (Some s) z = let u : i.node at s ≡ q = cc in ap (λ (p : Port). p.node) (sym u)

    joining : ends_link w i.node ≡ false → q.node ≡ i.node
    joining h = at_port (joined w i.node i.side) (rw (h, inside) at e)

-- a switch does not end a link
switch_joins : (w : Wafer) (i : Port) → is_switch i.node ≡ true → inside w i ≡ ends → ⊥
unfolding inside ends_link
switch_joins w i s h = at_node i.node refl
  where
    joining : (a : Option Compass) → joined_to i.node a ≡ ends → ⊥
    joining None z = true≢false (cc)
    joining (Some q) z = true≢false (cc)

    in_switch : ends_link w i.node ≡ false → ⊥
    in_switch e = joining (joined w i.node i.side) (rw (e, inside) at h)

    at_node : (v : Node) → i.node ≡ v → ⊥
    at_node (Processor x y) e = true≢false (sym s ∙ ap is_switch e)
    at_node (Across x y) e = in_switch (ap (ends_link w) e)
    at_node (Down x y) e = in_switch (ap (ends_link w) e)

-- f steps from the port o are enough to judge a run that may pass r more switches
record Late (o : Port) (r f : ℕ) : Type 0 where
  pub low : 2 * r + 1 ≤ f
  pub high : is_switch o.node ≡ true → 2 * r + 2 ≤ f

late_switch : (o q : Port) (r f : ℕ) → Late o (suc r) (suc f) → Late q r f
late_switch o q r f h = record { low = omega (arith, h.low); high = λ e. omega (arith, h.low) }

late_fault : (w : Wafer) (o i q : Port) (r f : ℕ) → stretch_from w o ≡ Some i → inside w i ≡ on q → is_switch i.node ≡ false
    → Late o r (suc f) → Late q r f
late_fault w o i q r f e g s h =
    by_bool (is_switch o.node)
    (λ z. record {
      low = omega (arith, h.high z);
      high = λ t. absurd (true≢false (sym t ∙ ap is_switch (same_node w i q g) ∙ s));
    })
    (λ z. absurd (true≢false (sym (leads_to_switch w o i z e) ∙ s)))

-- with enough steps, more do not change the judgement
module _ (w : Wafer) (grid : List ℕ) where
  abbrev judges : ℕ → ℕ → ℕ → Port → Followed
  judges c k f o = judged grid c k (run w f o)

  abbrev Stable : ℕ → ℕ → Type 0
  Stable f g = (c k r : ℕ) (o : Port) → k + r ≡ 3 → Late o r f → Late o r g → judges c k f o ≡ judges c k g o

  stable_on : (f g : ℕ) → Stable f g → (c k r : ℕ) (o : Port) → k + r ≡ 3 → Late o r (suc f) → Late o r (suc g)
      → (i q : Port) → stretch_from w o ≡ Some i → inside w i ≡ on q
      → judged grid c k (passes i q (run w f q)) ≡ judged grid c k (passes i q (run w g q))
  stable_on f g ih c k zero o b l m i q e h =
      by_bool (is_switch i.node)
      (λ s. judged_fourth grid c k i q (run w f q) s (omega arith) ∙ sym (judged_fourth grid c k i q (run w g q) s (omega arith)))
      (λ s.
      judged_fault grid c k i q (run w f q) s
      ∙ ih c k 0 q b (late_fault w o i q 0 f e h s l) (late_fault w o i q 0 g e h s m)
      ∙ sym (judged_fault grid c k i q (run w g q) s))
  stable_on f g ih c k (suc r) o b l m i q e h =
      by_bool (is_switch i.node)
      (λ s.
      judged_switch grid c k i q (run w f q) s (λ z. omega arith)
      ∙ ih (position_of i.node) (suc k) r q (omega arith) (late_switch o q r f l) (late_switch o q r g m)
      ∙ sym (judged_switch grid c k i q (run w g q) s (λ z. omega arith)))
      (λ s.
      judged_fault grid c k i q (run w f q) s
      ∙ ih c k (suc r) q b (late_fault w o i q (suc r) f e h s l) (late_fault w o i q (suc r) g e h s m)
      ∙ sym (judged_fault grid c k i q (run w g q) s))

  stable : (f g : ℕ) → Stable f g
  stable zero g c k r o b l m = absurd (omega (arith, l.low))
  stable (suc f) zero c k r o b l m = absurd (omega (arith, m.low))
  stable (suc f) (suc g) c k r o b l m = by_step (λ i q e h. stable_on f g (stable f g) c k r o b l m i q e h) (step w o)
    where
      by_step : ((i q : Port) → stretch_from w o ≡ Some i → inside w i ≡ on q
          → judged grid c k (passes i q (run w f q)) ≡ judged grid c k (passes i q (run w g q)))
          → Step w o → judges c k (suc f) o ≡ judges c k (suc g) o
      by_step ih (nowhere s) = ap (judged grid c k) (run_nowhere w f o s ∙ sym (run_nowhere w g o s))
      by_step ih (ending i s h) = ap (judged grid c k) (run_ending w f o i s h ∙ sym (run_ending w g o i s h))
      by_step ih (passing i q s h) =
          ap (judged grid c k) (run_passing w f o i q s h) ∙ ih i q s h ∙ ap (judged grid c k) (sym (run_passing w g o i q s h))
      by_step ih (stopping i s h) = ap (judged grid c k) (run_stopping w f o i s h ∙ sym (run_stopping w g o i s h))

-- from the cell's processor seven steps are enough
start_late : (p side f : ℕ) → 7 ≤ f → Late (out_of p side) 3 f
start_late p side f h = record { low = omega arith; high = λ e. absurd (true≢false (sym e)) }

pub seven : (w : Wafer) (cell side f : ℕ) → 7 ≤ f → judged w.grid (seat_of w cell) 0 (run w f (out_of (seat_of w cell) side)) ≡ followed w cell side
unfolding followed
seven w cell side f h =
    stable w w.grid f 7 (seat_of w cell) 0 3 (out_of (seat_of w cell) side) (omega arith) (start_late (seat_of w cell) side f h)
    (start_late (seat_of w cell) side 7 (omega arith))

-- why the follower refuses
abbrev Reason : Wafer → ℕ → ℕ → Refusal → Type 0
Reason w cell side x =
    ((x ≡ refusal 17 x.place 0) × TrackEnds w cell side x.place)
    ⊎ ((x ≡ refusal 18 x.place 0) × FourthSwitch w cell side x.place)

module _ (w : Wafer) (cell side : ℕ) where
  for_17 : (p : ℕ) (x : Refusal) → refused 17 p ≡ Err x → TrackEnds w cell side p → Reason w cell side x
  for_17 p x e t = let u : refusal 17 p 0 ≡ x = cc in subst (λ (z : Refusal). Reason w cell side z) u (inl (refl, t))

  for_18 : (p : ℕ) (x : Refusal) → refused 18 p ≡ Err x → FourthSwitch w cell side p → Reason w cell side x
  for_18 p x e t = let u : refusal 18 p 0 ≡ x = cc in subst (λ (z : Refusal). Reason w cell side z) u (inr (refl, t))

  not_refused : (l : Landing) (x : Refusal) {A : Type 0} → Ok l ≡ Err x → A
  not_refused l x e = absurd (true≢false (cc))

  judged_none : (c k : ℕ) → judged w.grid c k no_stretch ≡ refused 17 c
  unfolding judged
  judged_none c k = refl

  abbrev Reasons : ℕ → Type 0
  Reasons f = (c k r : ℕ) (o : Port) → Passed w cell side k c o → k + r ≡ 3 → Late o r f
      → (x : Refusal) → judged w.grid c k (run w f o) ≡ Err x → Reason w cell side x

  reason_on : (f : ℕ) → Reasons f → (c k r : ℕ) (o : Port) → Passed w cell side k c o → k + r ≡ 3 → Late o r (suc f) → (x : Refusal)
      → (i q : Port) → stretch_from w o ≡ Some i → inside w i ≡ on q
      → judged w.grid c k (passes i q (run w f q)) ≡ Err x → Reason w cell side x
  reason_on f ih c k zero o d b l x i q e h g =
      let z : k ≡ 3 = omega arith in
      by_bool (is_switch i.node)
      (λ s.
      for_18 (position_of i.node) x (sym (judged_fourth w.grid c k i q (run w f q) s z) ∙ g)
      (fourth (subst (λ (n : ℕ). Passed w cell side n c o) z d) e s))
      (λ s.
      ih c k 0 q (by_fault d e s h) b (late_fault w o i q 0 f e h s l) x (sym (judged_fault w.grid c k i q (run w f q) s) ∙ g))
  reason_on f ih c k (suc r) o d b l x i q e h g =
      by_bool (is_switch i.node)
      (λ s.
      ih (position_of i.node) (suc k) r q (by_switch d e s h) (omega arith) (late_switch o q r f l) x
      (sym (judged_switch w.grid c k i q (run w f q) s (λ z. omega arith)) ∙ g))
      (λ s.
      ih c k (suc r) q (by_fault d e s h) b (late_fault w o i q (suc r) f e h s l) x (sym (judged_fault w.grid c k i q (run w f q) s) ∙ g))

  reason_unjoined : (c k r : ℕ) (o i : Port) → Passed w cell side k c o → k + r ≡ 3 → (x : Refusal)
      → stretch_from w o ≡ Some i → inside w i ≡ stops → judged w.grid c k (unjoined_at i) ≡ Err x → Reason w cell side x
  reason_unjoined c k r o i d b x e h g =
      by_bool (is_switch i.node)
      (λ s.
      by_bool (eqb k 3)
      (λ z.
      for_18 (position_of i.node) x (sym (unjoined_fourth w.grid c k i s (eqb-true k 3 z)) ∙ g)
      (fourth (subst (λ (n : ℕ). Passed w cell side n c o) (eqb-true k 3 z) d) e s))
      (λ z.
      let n : (k ≡ 3 → ⊥) = eqb-false k 3 z in
      for_17 (position_of i.node) x (sym (unjoined_switch w.grid c k i s n) ∙ g) (refusals.unjoined_switch d (omega arith) e s h)))
      (λ s. for_17 c x (sym (unjoined_fault w.grid c k i s) ∙ g) (refusals.unjoined_fault d (omega arith) e s h))

  reason_ending : (c k r : ℕ) (o i : Port) → Passed w cell side k c o → k + r ≡ 3 → (x : Refusal)
      → stretch_from w o ≡ Some i → inside w i ≡ ends → judged w.grid c k (enters i) ≡ Err x → Reason w cell side x
  reason_ending c k r o i d b x e h g =
      by_bool (faulty w.grid (position_of i.node))
      (λ z. for_17 c x (sym (judged_faulty w.grid c k i z) ∙ g) (refusals.faulty_spare d (omega arith) e h z))
      (λ z. not_refused _ x (sym (judged_healthy w.grid c k i z) ∙ g))

  reasons : (f : ℕ) → Reasons f
  reasons zero c k r o d b l x g = absurd (omega (arith, l.low))
  reasons (suc f) c k r o d b l x g = by_step (λ i q e h. reason_on f (reasons f) c k r o d b l x i q e h) (step w o)
    where
      as_run : (t : Trail) → run w (suc f) o ≡ t → judged w.grid c k t ≡ Err x
      as_run t e = ap (judged w.grid c k) (sym e) ∙ g

      by_step : ((i q : Port) → stretch_from w o ≡ Some i → inside w i ≡ on q → judged w.grid c k (passes i q (run w f q)) ≡ Err x → Reason w cell side x)
          → Step w o → Reason w cell side x
      by_step ih (nowhere s) = for_17 c x (sym (judged_none c k) ∙ as_run no_stretch (run_nowhere w f o s)) (refusals.missing_switch d (omega arith) s)
      by_step ih (ending i s h) = reason_ending c k r o i d b x s h (as_run (enters i) (run_ending w f o i s h))
      by_step ih (passing i q s h) = ih i q s h (as_run (passes i q (run w f q)) (run_passing w f o i q s h))
      by_step ih (stopping i s h) = reason_unjoined c k r o i d b x s h (as_run (unjoined_at i) (run_stopping w f o i s h))

  reason : (x : Refusal) → followed w cell side ≡ Err x → Reason w cell side x
  unfolding followed
  reason x e = reasons 7 (seat_of w cell) 0 3 (out_of (seat_of w cell) side) begun (omega arith) (start_late (seat_of w cell) side 7 (omega arith)) x e

  -- the judgement of a run is that of what is left of it
  so_far : (k c f : ℕ) (o : Port) → Passed w cell side k c o → k ≤ 3 → 7 ≤ f → judged w.grid c k (run w f o) ≡ followed w cell side
  so_far k c f o begun h b = seven w cell side f b
  so_far k c f o (by_switch {k = k'} {c = c'} {o = o'} {i = i} {q = q} d e s g) h b =
      sym (judged_switch w.grid c' k' i q (run w f q) s (λ z. omega arith))
      ∙ ap (judged w.grid c' k') (sym (run_passing w f o' i q e g))
      ∙ so_far k' c' (suc f) o' d (omega arith) (omega arith)
  so_far k c f o (by_fault {o = o'} {i = i} {q = q} d e s g) h b =
      sym (judged_fault w.grid c k i q (run w f q) s)
      ∙ ap (judged w.grid c k) (sym (run_passing w f o' i q e g))
      ∙ so_far k c (suc f) o' d h (omega arith)

  refuses_17 : (p : ℕ) → TrackEnds w cell side p → followed w cell side ≡ refused 17 p
  refuses_17 p (refusals.unjoined_switch {k = k} {c = c} {o = o} {i = i} d b e s h) =
      sym (so_far k c 8 o d (omega arith) (omega arith))
      ∙ ap (judged w.grid c k) (run_stopping w 7 o i e h)
      ∙ unjoined_switch w.grid c k i s (λ z. omega arith)
  refuses_17 p (refusals.unjoined_fault {k = k} {o = o} {i = i} d b e s h) =
      sym (so_far k p 8 o d b (omega arith)) ∙ ap (judged w.grid p k) (run_stopping w 7 o i e h) ∙ unjoined_fault w.grid p k i s
  refuses_17 p (refusals.missing_switch {k = k} {o = o} d b e) =
      sym (so_far k p 8 o d b (omega arith)) ∙ ap (judged w.grid p k) (run_nowhere w 7 o e) ∙ judged_none p k
  refuses_17 p (refusals.faulty_spare {k = k} {o = o} {i = i} d b e h z) =
      sym (so_far k p 8 o d b (omega arith)) ∙ ap (judged w.grid p k) (run_ending w 7 o i e h) ∙ judged_faulty w.grid p k i z

  refuses_18 : (p : ℕ) → FourthSwitch w cell side p → followed w cell side ≡ refused 18 p
  refuses_18 p (fourth {c = c} {o = o} {i = i} d e s) = sym (so_far 3 c 8 o d (omega arith) (omega arith)) ∙ by_inside (inside w i) refl
    where
      at_end : inside w i ≡ ends → ⊥
      at_end h = switch_joins w i s h

      by_inside : (a : Inside) → inside w i ≡ a → judged w.grid c 3 (run w 8 o) ≡ refused 18 (position_of i.node)
      by_inside ends h = absurd (at_end h)
      by_inside (on q) h = ap (judged w.grid c 3) (run_passing w 7 o i q e h) ∙ judged_fourth w.grid c 3 i q (run w 7 q) s refl
      by_inside stops h = ap (judged w.grid c 3) (run_stopping w 7 o i e h) ∙ unjoined_fourth w.grid c 3 i s refl

  gives_17 : (p : ℕ) → followed w cell side ≡ refused 17 p → TrackEnds w cell side p
  gives_17 p e = told (reason (refusal 17 p 0) e)
    where
      told : Reason w cell side (refusal 17 p 0) → TrackEnds w cell side p
      told (inl t) = t.1
      told (inr t) = let z : ◌≡◌ {A = ℕ} 17 18 = ap (λ (u : Refusal). number_of u.reason) t.0 in absurd (omega arith)

  gives_18 : (p : ℕ) → followed w cell side ≡ refused 18 p → FourthSwitch w cell side p
  gives_18 p e = told (reason (refusal 18 p 0) e)
    where
      told : Reason w cell side (refusal 18 p 0) → FourthSwitch w cell side p
      told (inl t) = let z : ◌≡◌ {A = ℕ} 18 17 = ap (λ (u : Refusal). number_of u.reason) t.0 in absurd (omega arith)
      told (inr t) = t.1

  either : (x : Refusal) → followed w cell side ≡ Err x → (x ≡ refusal 17 x.place 0) ⊎ (x ≡ refusal 18 x.place 0)
  either x e = told (reason x e)
    where
      told : Reason w cell side x → (x ≡ refusal 17 x.place 0) ⊎ (x ≡ refusal 18 x.place 0)
      told (inl t) = inl t.0
      told (inr t) = inr t.0

pub follower_refuses : FollowerRefuses
follower_refuses =
    record {
      seventeen = λ w cell side p. (gives_17 w cell side p, refuses_17 w cell side p);
      eighteen = λ w cell side p. (gives_18 w cell side p, refuses_18 w cell side p);
      no_other = either;
    }

-- the follower's own laws
enough : Enough
enough =
    record {
      no_more = λ w cell side k. seven w cell side (7 + k) (omega arith);
      answered = λ w cell side e. None w cell side (either w cell side (refusal 0 0 0) e);
    }
  where
    None : (w : Wafer) (cell side : ℕ) → (refusal 0 0 0 ≡ refusal 17 0 0) ⊎ (refusal 0 0 0 ≡ refusal 18 0 0) → ⊥
    None w cell side (inl e) = let z : ◌≡◌ {A = ℕ} 0 17 = ap (λ (u : Refusal). number_of u.reason) e in omega arith
    None w cell side (inr e) = let z : ◌≡◌ {A = ℕ} 0 18 = ap (λ (u : Refusal). number_of u.reason) e in omega arith

answered : (w : Wafer) (cell side : ℕ) (l : Landing) → followed w cell side ≡ Ok l → LinkOf w cell side l
unfolding followed
answered w cell side l e =
    let o = out_of (seat_of w cell) side in
    let r = comes_in w.grid (seat_of w cell) 0 (run w 7 o) l (omega arith) e in
    let z : 0 + switches (run w 7 o) ≡ switches (run w 7 o) = omega arith in
    record {
      link = run w 7 o;
      is_link = run_link w 7 o r.end r.ends;
      end = r.end;
      ends = r.ends;
      healthy_end = r.healthy_end;
      few = omega (arith, r.few);
      is = r.is ∙ same_landing _ _ _ _ z;
    }

answers : (w : Wafer) (cell side : ℕ) (l : Landing) → LinkOf w cell side l → followed w cell side ≡ Ok l
answers w cell side l r =
    let o = out_of (seat_of w cell) side in
    let t = r.link in
    let z : 0 + switches t ≡ switches t = omega arith in
    sym (seven w cell side (steps t 7) (steps_high t 7))
    ∙ ap (judged w.grid (seat_of w cell) 0) (link_run w o t 7 r.is_link)
    ∙ goes_in w.grid (seat_of w cell) 0 t r.end r.ends r.healthy_end (omega (arith, r.few))
    ∙ ap Ok (same_landing _ _ _ _ z ∙ sym r.is)

pub follower_own : FollowerOwn
follower_own = record { answered = answered; answers = answers; one_link = one_link; enough = enough }
