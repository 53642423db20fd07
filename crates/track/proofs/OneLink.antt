-- There is one link from a port, and it does not depend on what is joined at nodes that it does not enter.
-- Assumes nothing.
use Rattle.std.specs.Prelude.{None}
use mathlib.Core.Path.{◌≡◌, refl, ap, subst, ◌∙◌}
use mathlib.Core.Bool.{Bool, true, false, cond, true≢false}
use mathlib.Core.Logic.{inl, inr}
use Rattle.array.proofs.Bools.{by_bool}
use Rattle.track.specs.Ports.{Wafer, ◌at◌, stretch_from, ends_link, set_to, joined}
use Rattle.track.specs.declared.ports.Compass.{Compass}
use Rattle.track.specs.declared.ports.Node.{Node}
use Rattle.track.specs.declared.ports.Node.TheVariants.{Processor, Across, Down}
use Rattle.track.specs.declared.ports.Port.{Port}
use Rattle.track.specs.Link.{Trail, enters, Inside, ends, joined_to, inside, Link, last, next}
use Rattle.track.specs.Avoids.{Visits, SameElsewhere}

pub one_link : (w : Wafer) (o : Port) (t t' : Trail) → Link w o t → Link w o t' → t ≡ t'
one_link w o t t' (last {i = i} e f) (last {i = i'} e' f') = let s : i ≡ i' = cc in ap enters s
one_link w o t t' (last {i = i} e f) (next {i = i'} e' f' l') = let s : i ≡ i' = cc in absurd (true≢false (cc))
one_link w o t t' (next {i = i} e f l) (last {i = i'} e' f') = let s : i ≡ i' = cc in absurd (true≢false (cc))
one_link w o t t' (next {i = i} {q = q} {t = r} e f l) (next {i = i'} {q = q'} {t = r'} e' f' l') =
    let s : i ≡ i' = cc in
    let u : q' ≡ q = cc in
    let v : r ≡ r' = one_link w q r r' l (subst (λ (z : Port). Link w z r') u l') in
    cc

-- the same wafer with nothing broken
abbrev pub sound : Wafer → Wafer
sound w =
    record {
      rows = w.rows;
      columns = w.columns;
      grid = w.grid;
      directions = w.directions;
      across = w.across;
      down = w.down;
      broken = λ v. false;
    }

pub same_elsewhere : SameElsewhere
same_elsewhere w w' o t (last {i = i} e f) s = last (s.stretches o ∙ e) (s.held i refl ∙ f)
same_elsewhere w w' o t (next {i = i} {q = q} {t = r} e f l) s =
    next (s.stretches o ∙ e) (s.held i (inl refl) ∙ f)
    (same_elsewhere w w' q r l (record { stretches = s.stretches; held = λ j v. s.held j (inr v) }))

abbrev held : Wafer → Node → Compass → Bool → Inside
held w v s b = elim (ends_link w v) [ true ↦ ends | false ↦ joined_to v (cond b None (set_to w v s)) ]

-- at a node that is not broken the same is inside as if nothing were broken
inside_same : (w : Wafer) (v : Node) (s : Compass) → w.broken v ≡ false → inside w (v at s) ≡ inside (sound w) (v at s)
unfolding inside ends_link joined set_to
inside_same w (Processor x y) s h = ap (held w (Processor x y) s) h
inside_same w (Across x y) s h = ap (held w (Across x y) s) h
inside_same w (Down x y) s h = ap (held w (Down x y) s) h

-- a link of the sound wafer that enters nothing broken is a link
pub past_broken : (w : Wafer) (o : Port) (t : Trail) → ((v : Node) → w.broken v ≡ true → Visits t v → ⊥)
    → Link (sound w) o t → Link w o t
unfolding stretch_from
past_broken w o t n l =
    same_elsewhere (sound w) w o t l
    (record {
      stretches = λ p. refl;
      held = λ p g. by_bool (w.broken p.node) (λ b. absurd (n p.node b g)) (inside_same w p.node p.side);
    })
