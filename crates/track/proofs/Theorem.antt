-- On a routed wafer every link to a neighbour reaches it over at most three switches, no two of different name share a
-- piece of track, and they enter every inner fault but those whose path starts at the rim, the dead processors among them.
-- Assumes nothing.
use Prim.Native.Nat.{ℕ}
use native.Mathlib.Omega.{arith}
use mathlib.Core.Path.{◌≡◌, sym, ap, subst, ◌∙◌}
use mathlib.Core.Bool.{true, false≢true}
use mathlib.Core.List.{Memᴰ}
use lib.ListN.{get_or}
use Rattle.array.specs.Place.{position, row, column}
use Rattle.array.specs.Map.{mark_at, dead}
use Rattle.array.proofs.Bools.{and_both}
use Rattle.array.proofs.Marks.{faulty_below, dead_faulty, dead_inner}
use Rattle.paths.proofs.Opens.{open_from_rim}
use Rattle.plans.proofs.ByPosition.{buffer_plan}
use Rattle.track.specs.Ports.{Wafer}
use Rattle.track.specs.declared.ports.Compass.{Compass}
use Rattle.track.specs.declared.ports.Node.{Node}
use Rattle.track.specs.declared.ports.Node.TheVariants.{Processor, Across, Down}
use Rattle.track.specs.Link.{Trail, Link}
use Rattle.track.specs.Pieces.{Piece}
use Rattle.track.specs.Theorems.{Routed, out, Neighbour, LinksReach, NeighbourLink, pieces_of, NoPieceShared}
use Rattle.track.specs.Avoids.{Visits, RimFault, AvoidsFaults, AvoidsDead, UsesOthers}
use Rattle.track.proofs.Held.{view_of, formed_of}
use Rattle.track.proofs.OneLink.{one_link, past_broken}
use Rattle.track.proofs.Sound.{named, Both, every_at, Mine, good, same_name}
use Rattle.track.proofs.Avoids.{avoids, met_fault}

module _ (w : Wafer) (r : Routed w) where
  -- what is broken is a dead processor, and its path starts at the rim
  broken_rim : (x y : ℕ) → w.broken (Processor x y) ≡ true → RimFault w (position x y)
  broken_rim x y b =
      let p = position x y in
      let f = formed_of w r in
      let d : dead w.grid p ≡ true = sym (r.broken_are (Processor x y)) ∙ b in
      let e = dead_faulty (mark_at w.grid p) d in
      let m = f.marks p (omega (arith, faulty_below w.grid p e, f.length_is)) in
      let h = and_both _ _ (dead_inner w.rows w.columns (row p) (column p) (mark_at w.grid p) m d) e in
      let o = ((buffer_plan w.rows w.columns w.grid w.directions).0 r.plan).open_path p h in
      record { is_fault = h; starts = open_from_rim w.rows w.columns p (get_or w.directions p 0) w.grid o d }

  none_broken : (t : Trail) → ((x y : ℕ) → RimFault w (position x y) → Visits t (Processor x y) → ⊥)
      → (v : Node) → w.broken v ≡ true → Visits t v → ⊥
  none_broken t n (Processor x y) b g = n x y (broken_rim x y b) g
  none_broken t n (Across x y) b g = false≢true (sym (r.broken_are (Across x y)) ∙ b)
  none_broken t n (Down x y) b g = false≢true (sym (r.broken_are (Down x y)) ∙ b)

  -- the link of the sound wafer is a link
  there : (i j side k l : ℕ) (port : Compass) (n : Neighbour w i j side k l port)
      → Link w (out w i j side) (good w r i j side k l port n).reaches.link
  there i j side k l port n =
      let g = (good w r i j side k l port n).reaches in
      past_broken w (out w i j side) g.link (none_broken g.link (avoids w r i j side k l port n)) g.is_link

  module _ (u : NeighbourLink w) where
    as_good : (good w r u.i u.j u.side u.k u.l u.port u.to).reaches.link ≡ u.link
    as_good =
        one_link w (out w u.i u.j u.side) _ u.link
        (there u.i u.j u.side u.k u.l u.port u.to) u.is_link

    own : (a : Piece) → Memᴰ a (pieces_of w u) → Both (Mine (view_of w) u.side u.i u.j) a
    own a h =
        let g = good w r u.i u.j u.side u.k u.l u.port u.to in
        every_at (Both (Mine (view_of w) u.side u.i u.j)) (pieces_of w u) (rw as_good at g.mine) a h

    avoided : (x y : ℕ) → RimFault w (position x y) → Visits u.link (Processor x y) → ⊥
    avoided x y f g =
        avoids w r u.i u.j u.side u.k u.l u.port u.to x y f
        (subst (λ (t : Trail). Visits t (Processor x y)) (sym as_good) g)

pub reaches : LinksReach
reaches w r i j side k l port n =
    let g = (good w r i j side k l port n).reaches in
    record { link = g.link; is_link = there w r i j side k l port n; ends = g.ends; few = g.few }

pub no_shared_piece : NoPieceShared
no_shared_piece w r u v a b h g s =
    let e = same_name (view_of w) (named u.side u.i u.j) (named v.side v.i v.j) a b (own w r u a h) (own w r v b g) s in
    (ap (λ n. n.row) e, ap (λ n. n.col) e, ap (λ n. n.side) e)

pub avoids_faults : AvoidsFaults
avoids_faults w r u x y f g = avoided w r u x y f g

pub avoids_dead : AvoidsDead
avoids_dead w r u v b g = none_broken w r u.link (avoided w r u) v b g

pub uses_others : UsesOthers
uses_others w r p h b =
    met_fault w r p h b
    (λ i j side k l port n m.
    let g = good w r i j side k l port n in
    let t = there w r i j side k l port n in
    record {
      by = record { i = i; j = j; side = side; k = k; l = l; port = port; to = n; link = g.reaches.link; is_link = t };
      visits = g.enters_met (row p) (column p) m;
    })
