-- A walk from switch to switch that arrives is a link of the track, once for both axes: a walk's switch and processor (x, y) are the nodes
-- `sw x y` and `pr x y`, and its port p is their port `tp p`.
-- Assumes nothing.
use Rattle.std.specs.Prelude.{Option, Some}
use Prim.Native.Nat.{ℕ, zero, suc}
use mathlib.Core.Path.{◌≡◌, refl, ap}
use mathlib.Core.Bool.{Bool, true, false, true≢false}
use lib.Dec.{T}
use Rattle.track.specs.Ports.{Wafer, ◌at◌, neighbour, stands, stretch_from}
use Rattle.track.specs.declared.ports.Compass.{Compass}
use Rattle.track.specs.declared.ports.Compass.TheVariants.{W, E, N, S}
use Rattle.track.specs.declared.ports.Node.{Node}
use Rattle.track.specs.declared.ports.Node.TheVariants.{Processor, Across, Down}
use Rattle.track.specs.declared.ports.Port.{Port}
use Rattle.track.specs.Link.{Trail, Link, Enters}
use Rattle.track.proofs.Walks.{Letter, sa, sb, sc, sd, no_switch, Joined, to, unjoined, missing, join, Inside, ends, runs, stuck, Run, switch, fault, enters, unjoined_at, lost, too_long, last, switches, enter_W, enter_E, north_of, pass, one_more, walk}
use Rattle.track.specs.Link as link

abbrev pub arrives : Run → Bool
arrives (switch x y p q r) = arrives r
arrives (fault x y p q r) = arrives r
arrives (enters x y p) = true
arrives (unjoined_at x y) = false
arrives lost = false
arrives (too_long x y) = false

abbrev pub there : Joined → Bool
there (to p) = true
there unjoined = true
there missing = false

abbrev met : Port → Option Port
met o = neighbour o.node o.side

abbrev pub up : Wafer → Node → Bool
up w v = stands w.rows w.columns v

-- one axis of the track
pub record Axis (sw pr : ℕ → ℕ → Node) (tp : Compass → Compass) : Type 0 where
  pub down_on : (x y : ℕ) → neighbour (sw x y) (tp S) ≡ Some (sw (suc x) y at tp N)
  pub up_on : (x y : ℕ) → neighbour (sw (suc x) y) (tp N) ≡ Some (sw x y at tp S)
  pub in_west : (x y : ℕ) → neighbour (sw x y) (tp E) ≡ Some (pr x (suc y) at tp W)
  pub in_east : (x y : ℕ) → neighbour (sw x y) (tp W) ≡ Some (pr x y at tp E)
  pub out_east : (x y : ℕ) → neighbour (pr x y) (tp E) ≡ Some (sw x y at tp W)
  pub out_west : (x y : ℕ) → neighbour (pr x (suc y)) (tp W) ≡ Some (sw x y at tp E)
  pub switch_is : (x y : ℕ) → link.is_switch (sw x y) ≡ true
  pub processor_is : (x y : ℕ) → link.is_switch (pr x y) ≡ false

abbrev pub unturned : Compass → Compass
unturned p = p

abbrev pub turned : Compass → Compass
turned W = N
turned N = W
turned E = S
turned S = E

abbrev pub down_turned : ℕ → ℕ → Node
down_turned x y = Down y x

abbrev pub processor_turned : ℕ → ℕ → Node
processor_turned x y = Processor y x

pub eastward : Axis Across Processor unturned
unfolding neighbour
eastward =
    record {
      down_on = λ x y. refl;
      up_on = λ x y. refl;
      in_west = λ x y. refl;
      in_east = λ x y. refl;
      out_east = λ x y. refl;
      out_west = λ x y. refl;
      switch_is = λ x y. refl;
      processor_is = λ x y. refl;
    }

pub southward : Axis down_turned processor_turned turned
unfolding neighbour
southward =
    record {
      down_on = λ x y. refl;
      up_on = λ x y. refl;
      in_west = λ x y. refl;
      in_east = λ x y. refl;
      out_east = λ x y. refl;
      out_west = λ x y. refl;
      switch_is = λ x y. refl;
      processor_is = λ x y. refl;
    }

-- the trail of a run
abbrev pub trail : (ℕ → ℕ → Node) → (ℕ → ℕ → Node) → (Compass → Compass) → Run → Trail
trail sw pr tp (switch x y p q r) = link.passes (sw x y at tp p) (sw x y at tp q) (trail sw pr tp r)
trail sw pr tp (fault x y p q r) = link.passes (pr x y at tp p) (pr x y at tp q) (trail sw pr tp r)
trail sw pr tp (enters x y p) = link.enters (pr x y at tp p)
trail sw pr tp (unjoined_at x y) = link.unfinished
trail sw pr tp lost = link.unfinished
trail sw pr tp (too_long x y) = link.unfinished

-- what the track holds at the nodes that a walk through the letters L and the processors I meets
pub record Alike (w : Wafer) (sw pr : ℕ → ℕ → Node) (tp : Compass → Compass) (L : ℕ → ℕ → Letter) (I : ℕ → ℕ → Inside) : Type 0 where
  pub switch_up : (x y : ℕ) (p : Compass) → there (join (L x y) p) ≡ true → up w (sw x y) ≡ true
  pub west_up : (x y : ℕ) (p : Compass) → there (join (L x y) p) ≡ true → up w (pr x y) ≡ true
  pub east_up : (x y : ℕ) (p : Compass) → there (join (L x y) p) ≡ true → up w (pr x (suc y)) ≡ true
  pub joins : (x y : ℕ) (p q : Compass) → join (L x y) p ≡ to q → link.inside w (sw x y at tp p) ≡ link.on (sw x y at tp q)
  pub end_in : (x y : ℕ) (p : Compass) → I x y ≡ ends → link.inside w (pr x y at p) ≡ link.ends
  pub run_W : (x y : ℕ) → I x y ≡ runs → link.inside w (pr x y at tp W) ≡ link.on (pr x y at tp E)
  pub run_E : (x y : ℕ) → I x y ≡ runs → link.inside w (pr x y at tp E) ≡ link.on (pr x y at tp W)

stretch_to : (w : Wafer) (o i : Port) → met o ≡ Some i → up w i.node ≡ true → stretch_from w o ≡ Some i
unfolding stretch_from
stretch_to w o i e h = rw (e, h)

module _
    (w : Wafer) (sw pr : ℕ → ℕ → Node) (tp : Compass → Compass) (L : ℕ → ℕ → Letter) (I : ℕ → ℕ → Inside) (ax : Axis sw pr tp)
    (al : Alike w sw pr tp L I)
  where
    abbrev tr : Run → Trail
    tr r = trail sw pr tp r

    -- how the rest of a run, of at most n switches, is known to be a link
    abbrev Rest : ℕ → Type 0
    Rest n = (x y : ℕ) (p : Compass) (o : Port) → met o ≡ Some (sw x y at tp p)
        → T (arrives (walk L I n x y p)) → Link w o (tr (walk L I n x y p))

    north_link : (n : ℕ) → Rest n → (x y : ℕ) → T (arrives (north_of (walk L I n) x y))
        → Link w (sw x y at tp N) (tr (north_of (walk L I n) x y))
    north_link n ih zero y t = absurd t
    north_link n ih (suc x) y t = ih x y S (sw (suc x) y at tp N) (ax.up_on x y) t

    east_link : (n : ℕ) → Rest n → (x y : ℕ) → up w (pr x (suc y)) ≡ true
        → (a : Inside) → I x (suc y) ≡ a → T (arrives (enter_W (walk L I n) a x (suc y)))
        → Link w (sw x y at tp E) (tr (enter_W (walk L I n) a x (suc y)))
    east_link n ih x y h ends f t = link.last (stretch_to w _ _ (ax.in_west x y) h) (al.end_in x (suc y) (tp W) f)
    east_link n ih x y h runs f t =
        link.next (stretch_to w _ _ (ax.in_west x y) h) (al.run_W x (suc y) f)
        (ih x (suc y) W (pr x (suc y) at tp E) (ax.out_east x (suc y)) t)
    east_link n ih x y h stuck f t = absurd t

    west_link : (n : ℕ) → Rest n → (x y : ℕ) → up w (pr x y) ≡ true
        → (a : Inside) → I x y ≡ a → T (arrives (enter_E (walk L I n) a x y))
        → Link w (sw x y at tp W) (tr (enter_E (walk L I n) a x y))
    west_link n ih x y h ends f t = link.last (stretch_to w _ _ (ax.in_east x y) h) (al.end_in x y (tp E) f)
    west_link n ih x y h stuck f t = absurd t
    west_link n ih x zero h runs f t = absurd t
    west_link n ih x (suc y) h runs f t =
        link.next (stretch_to w _ _ (ax.in_east x (suc y)) h) (al.run_E x (suc y) f)
        (ih x y E (pr x (suc y) at tp W) (ax.out_west x y) t)

    passed : (n : ℕ) → Rest n → (x y : ℕ) (p : Compass) (o : Port) → met o ≡ Some (sw x y at tp p)
        → (j : Joined) → join (L x y) p ≡ j → T (arrives (pass (walk L I n) (I x y) (I x (suc y)) x y p j))
        → Link w o (tr (pass (walk L I n) (I x y) (I x (suc y)) x y p j))
    passed n ih x y p o e missing f t = absurd t
    passed n ih x y p o e unjoined f t = absurd t
    passed n ih x y p o e (to S) f t =
        link.next (stretch_to w _ _ e (al.switch_up x y p (ap there f))) (al.joins x y p S f)
        (ih (suc x) y N (sw x y at tp S) (ax.down_on x y) t)
    passed n ih x y p o e (to N) f t =
        link.next (stretch_to w _ _ e (al.switch_up x y p (ap there f))) (al.joins x y p N f) (north_link n ih x y t)
    passed n ih x y p o e (to E) f t =
        link.next (stretch_to w _ _ e (al.switch_up x y p (ap there f))) (al.joins x y p E f)
        (east_link n ih x y (al.east_up x y p (ap there f)) (I x (suc y)) refl t)
    passed n ih x y p o e (to W) f t =
        link.next (stretch_to w _ _ e (al.switch_up x y p (ap there f))) (al.joins x y p W f)
        (west_link n ih x y (al.west_up x y p (ap there f)) (I x y) refl t)

    none_left : (l : Letter) (x y : ℕ) → T (arrives (one_more l x y)) → ⊥
    none_left sa x y t = t
    none_left sb x y t = t
    none_left sc x y t = t
    none_left sd x y t = t
    none_left no_switch x y t = t

    -- a walk that arrives is the link from whatever port leads to its first switch
    as_link : (n : ℕ) → Rest n
    as_link zero x y p o e t = absurd (none_left (L x y) x y t)
    as_link (suc n) x y p o e t = passed n (as_link n) x y p o e (join (L x y) p) refl t

    -- the same of a walk that leaves a processor by the port that leads on to its first switch
    pub leaves : (n x y : ℕ) → T (arrives (walk L I n x y W)) → Link w (pr x y at tp E) (tr (walk L I n x y W))
    leaves n x y t = as_link n x y W (pr x y at tp E) (ax.out_east x y) t

-- where a trail ends, and the switches that it passes
pub last_arrives : (r : Run) (x y : ℕ) (p : Compass) → last r ≡ enters x y p → T (arrives r)
last_arrives (switch x y p q r) a b c e = last_arrives r a b c e
last_arrives (fault x y p q r) a b c e = last_arrives r a b c e
last_arrives (enters x y p) a b c e = tt
last_arrives (unjoined_at x y) a b c e = true≢false (cc)
last_arrives lost a b c e = true≢false (cc)
last_arrives (too_long x y) a b c e = true≢false (cc)

module _ (sw pr : ℕ → ℕ → Node) (tp : Compass → Compass) where
  pub last_enters : (r : Run) (x y : ℕ) (p : Compass) → last r ≡ enters x y p → Enters (trail sw pr tp r) (pr x y at tp p)
  last_enters (switch x y p q r) a b c e = last_enters r a b c e
  last_enters (fault x y p q r) a b c e = last_enters r a b c e
  last_enters (enters x y p) a b c e =
      let f : x ≡ a = cc in
      let g : y ≡ b = cc in
      let h : p ≡ c = cc in
      rw (f, g, h)
  last_enters (unjoined_at x y) a b c e = last_arrives (unjoined_at x y) a b c e
  last_enters lost a b c e = last_arrives lost a b c e
  last_enters (too_long x y) a b c e = last_arrives (too_long x y) a b c e

  pub trail_switches : Axis sw pr tp → (r : Run) → link.switches (trail sw pr tp r) ≡ switches r
  unfolding link.switches
  trail_switches ax (switch x y p q r) = rw (ax.switch_is x y) (ap suc (trail_switches ax r))
  trail_switches ax (fault x y p q r) = rw (ax.processor_is x y) (trail_switches ax r)
  trail_switches ax (enters x y p) = refl
  trail_switches ax (unjoined_at x y) = refl
  trail_switches ax lost = refl
  trail_switches ax (too_long x y) = refl
