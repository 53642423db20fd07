-- The east link of [i, j] enters the processor of [i, j+1] by its W port over at most three switches, each port that it
-- goes by is its own, and the faults that it passes are known. From the rules between neighbours.
-- Assumes nothing.
use Prim.Native.Nat.{ℕ, suc, ◌≤◌}
use native.Mathlib.Omega.{arith}
use mathlib.Core.Path.{◌≡◌, refl, sym, ◌∙◌, ap, subst}
use mathlib.Core.Bool.{Bool}
use mathlib.Core.List.{List, [], ◌∷◌}
use lib.Dec.{T, lit≤}
use Rattle.track.proofs.View.{Dir, still, south, north, east, west, View}
use Rattle.track.specs.declared.ports.Compass.TheVariants.{W, E}
use Rattle.track.proofs.Walks.{State, v0, v1, v2, v3, v4, sb, Letter, vertical, horizontal, across, Inside, ends, runs, inside, placed, Run, switch, fault, enters, unjoined_at, lost, too_long, last, walk, switches, link, Place}
use Rattle.track.proofs.Cross.{above, is, Rel, top, mid, bot, rel, row, leads}
use Rattle.track.proofs.Runs.{is_eq, run, with_run, runs_on}
use Rattle.track.proofs.Own.{of_processor, ports, link_ports, name, stretch, stretch_of, owner, owner_at, owned_at, Owned, owns}
use Rattle.track.proofs.Rules.{Rules, upright, Means, means, under_1, under_2, over_3, over_4, at_row, led, flat, mine, here, healthy}

abbrev pub enters_at : Place → Run
enters_at c = enters c.row c.col W

-- the faults that a run passes
abbrev pub passed : Run → List Place
passed (switch x y p q r) = passed r
passed (fault x y p q r) = name x y ∷ passed r
passed (enters x y p) = []
passed (unjoined_at x y) = []
passed lost = []
passed (too_long x y) = []

-- c where a west path starts there, before others
abbrev pub west_start : State → Place → List Place → List Place
west_start v0 c others = others
west_start v1 c others = others
west_start v2 c others = others
west_start v3 c others = c ∷ others
west_start v4 c others = others

-- c where an east path starts there
abbrev pub east_start : State → Place → List Place
east_start v0 c = []
east_start v1 c = []
east_start v2 c = c ∷ []
east_start v3 c = []
east_start v4 c = []

-- the faults at (i, j) and (i, j+1) whose paths start there and run away from each other
abbrev pub starts : View → ℕ → ℕ → List Place
starts w i j = west_start (horizontal w i j) (name i j) (east_start (horizontal w i (suc j)) (name i (suc j)))

pub record Right (w : View) (i j : ℕ) : Type 0 where
  pub arrives : last (link w i j) ≡ enters_at (placed w i (suc j))
  pub short : switches (link w i j) ≤ 3
  pub owned : Owned w i j (link_ports w i j)
  pub passes : passed (link w i j) ≡ starts w i j

-- the same of a run that is known to be the link
record Fine (w : View) (i j : ℕ) (from to : Place) (r : Run) : Type 0 where
  is_run : walk (across w) (inside w) 3 from.row from.col W ≡ r
  arrives : last r ≡ enters_at to
  short : switches r ≤ 3
  first : owner w (of_processor from.row from.col E) ≡ name i j
  owned : Owned w i j (ports r)
  passes : passed r ≡ starts w i j

fine_right : (w : View) (i j : ℕ) (from to : Place) (r : Run) → placed w i j ≡ from → placed w i (suc j) ≡ to → Fine w i j from to r → Right w i j
fine_right w i j from to r e f g =
    let same : link w i j ≡ r = rw e g.is_run in
    record {
      arrives = rw (e, f, g.is_run) g.arrives;
      short = rw (e, g.is_run) g.short;
      owned = (rw e g.first, subst (λ s. Owned w i j (ports s)) (sym same) g.owned);
      passes = rw (e, g.is_run) g.passes;
    }

-- from the W port in one row to a processor that the link ends in: the run, where it ends, its length
module _ (L : ℕ → ℕ → Letter) (I : ℕ → ℕ → Inside) (k y : ℕ) where
  arrives_on :
      (n : ℕ) (p q : Rel) → T (leads p q (L k y) (L (suc k) y) (L (suc (suc k)) y)) → I (row k q) (suc y) ≡ ends →
      walk L I (with_run p q n) (row k p) y W ≡ run k y p q (enters (row k q) (suc y) W)
  arrives_on n p q t e = rw e at (runs_on L I k y n p q t)

  within : (p q : Rel) → T (leads p q (L k y) (L (suc k) y) (L (suc (suc k)) y)) → I (row k q) (suc y) ≡ ends →
      walk L I 3 (row k p) y W ≡ run k y p q (enters (row k q) (suc y) W)
  within top top = arrives_on 2 top top
  within top mid = arrives_on 1 top mid
  within top bot = arrives_on 0 top bot
  within mid top = arrives_on 1 mid top
  within mid mid = arrives_on 2 mid mid
  within mid bot = arrives_on 1 mid bot
  within bot top = arrives_on 0 bot top
  within bot mid = arrives_on 1 bot mid
  within bot bot = arrives_on 2 bot bot

  -- straight on through the switch under (x, z): to a processor that the link ends in, or through a converted fault
  end_straight : (n x z : ℕ) → T (is (L x z) sb) → I x (suc z) ≡ ends → walk L I (suc n) x z W ≡ switch x z W E (enters x (suc z) W)
  end_straight n x z t e = rw (is_eq (L x z) sb t, e)

  on_straight :
      (n x z : ℕ) → T (is (L x z) sb) → I x (suc z) ≡ runs →
      walk L I (suc n) x z W ≡ switch x z W E (fault x (suc z) W E (walk L I n x (suc z) W))
  on_straight n x z t e = rw (is_eq (L x z) sb t, e)

  -- with one switch less, from the middle row
  within_two : (q : Rel) → T (leads mid q (L k y) (L (suc k) y) (L (suc (suc k)) y)) → I (row k q) (suc y) ≡ ends →
      walk L I 2 (suc k) y W ≡ run k y mid q (enters (row k q) (suc y) W)
  within_two top = arrives_on 0 mid top
  within_two mid = arrives_on 1 mid mid
  within_two bot = arrives_on 0 mid bot

  -- to the middle row, through a fault there, and straight on
  abbrev past_east : Run
  past_east = fault (suc k) (suc y) W E (switch (suc k) (suc y) W E (enters (suc k) (suc (suc y)) W))

  module _
      (f : I (suc k) (suc y) ≡ runs)
      (t' : T (is (L (suc k) (suc y)) sb))
      (e : I (suc k) (suc (suc y)) ≡ ends)
    where
      through_on :
          (n : ℕ) (p : Rel) → T (leads p mid (L k y) (L (suc k) y) (L (suc (suc k)) y)) →
          walk L I (with_run p mid (suc n)) (row k p) y W ≡ run k y p mid past_east
      through_on n p t =
          runs_on L I k y (suc n) p mid t
          ∙ rw f (ap (λ z. run k y p mid (fault (suc k) (suc y) W E z)) (end_straight n (suc k) (suc y) t' e))

      through_east : (p : Rel) → T (leads p mid (L k y) (L (suc k) y) (L (suc (suc k)) y)) → walk L I 3 (row k p) y W ≡ run k y p mid past_east
      through_east top = through_on 0 top
      through_east mid = through_on 1 mid
      through_east bot = through_on 0 bot

-- a crossing does not change where a run ends and which faults it passes
run_kept : (k y : ℕ) (p q : Rel) (r : Run) → (last (run k y p q r) ≡ last r) × (passed (run k y p q r) ≡ passed r)
run_kept k y top top r = (refl, refl)
run_kept k y top mid r = (refl, refl)
run_kept k y top bot r = (refl, refl)
run_kept k y mid top r = (refl, refl)
run_kept k y mid mid r = (refl, refl)
run_kept k y mid bot r = (refl, refl)
run_kept k y bot top r = (refl, refl)
run_kept k y bot mid r = (refl, refl)
run_kept k y bot bot r = (refl, refl)

three : (k y x z : ℕ) (p q : Rel) → switches (run k y p q (enters x z W)) ≤ 3
three k y x z top top = lit≤ tt
three k y x z top mid = lit≤ tt
three k y x z top bot = lit≤ tt
three k y x z mid top = lit≤ tt
three k y x z mid mid = lit≤ tt
three k y x z mid bot = lit≤ tt
three k y x z bot top = lit≤ tt
three k y x z bot mid = lit≤ tt
three k y x z bot bot = lit≤ tt

two : (k y x z : ℕ) (q : Rel) → switches (run k y mid q (enters x z W)) ≤ 2
two k y x z top = lit≤ tt
two k y x z mid = lit≤ tt
two k y x z bot = lit≤ tt

past_two : (k y x z u : ℕ) (p : Rel) → switches (run k y p mid (fault x z W E (switch x z W E (enters x u W)))) ≤ 3
past_two k y x z u top = lit≤ tt
past_two k y x z u mid = lit≤ tt
past_two k y x z u bot = lit≤ tt

upright_stretch : (d : Dir) (f : Bool) (y : ℕ) → T (upright d) → stretch_of d f y ≡ y
upright_stretch still f y t = refl
upright_stretch south f y t = refl
upright_stretch north f y t = refl
upright_stretch east f y t = absurd t
upright_stretch west f y t = absurd t

module _ (w : View) (r : Rules w) (k l : ℕ) (hi : suc k ≤ w.rows) (hj : suc (suc l) ≤ w.cols) where
  -- what is known at the processor in column y of the row
  known : (y : ℕ) (s : State) → horizontal w (suc k) y ≡ s → Means s (w.path (suc k) y) (w.faulty (suc k) y)
  known y s e =
      subst (λ (z : State). Means z (w.path (suc k) y) (w.faulty (suc k) y)) e
      (means (w.path (suc k) y) (w.faulty (suc k) y))

  -- the states to the right of the link's end and to the left of its start
  after : (s t : State) → horizontal w (suc k) (suc (suc l)) ≡ s → ((z : State) → T (above s z) → z ≡ t) → horizontal w (suc k) (suc (suc (suc l))) ≡ t
  after s t e f =
      f (horizontal w (suc k) (suc (suc (suc l))))
      (subst (λ (z : State). T (above z (horizontal w (suc k) (suc (suc (suc l)))))) e (r.horiz (suc k) (suc (suc l)) (omega arith) hi hj))

  prior : (s t : State) → horizontal w (suc k) (suc l) ≡ s → ((z : State) → T (above z s) → z ≡ t) → horizontal w (suc k) l ≡ t
  prior s t e f =
      f (horizontal w (suc k) l)
      (subst (λ (z : State). T (above (horizontal w (suc k) l) z)) e (r.horiz (suc k) l (omega arith) hi (omega arith)))

  -- a channel in which the line runs straight
  own_W : (y : ℕ) → vertical w (suc k) y ≡ v0 → stretch w (suc k) y ≡ suc l → owner_at w (suc k) y W ≡ name (suc k) (suc l)
  own_W y e s = owned_at w (suc k) (suc l) (suc k) y W (rw e) s

  own_E : (y : ℕ) → vertical w (suc k) (suc y) ≡ v0 → stretch w (suc k) y ≡ suc l → owner_at w (suc k) y E ≡ name (suc k) (suc l)
  own_E y e s = owned_at w (suc k) (suc l) (suc k) y E (rw e) s

  -- neither end is on a horizontal path
  plain : horizontal w (suc k) (suc l) ≡ v0 → horizontal w (suc k) (suc (suc l)) ≡ v0 → Right w (suc k) (suc l)
  plain a b =
      let ka = known (suc l) v0 a in
      let kb = known (suc (suc l)) v0 b in
      let p = at_row w r k hi (suc l) in
      let q = at_row w r k hi (suc (suc l)) in
      let s : stretch w (suc k) (suc l) ≡ suc l = upright_stretch (w.path (suc k) (suc l)) (w.faulty (suc k) (suc l)) (suc l) ka in
      let ma = mine w r k hi (suc l) (omega arith) (omega arith) in
      let mb = mine w r k hi (suc (suc l)) (omega arith) hj in
      let t = led w r k hi (suc l) (omega arith) hj in
      fine_right w (suc k) (suc l) (name (row k p) (suc l)) (name (row k q) (suc (suc l)))
      (run k (suc l) p q (enters (row k q) (suc (suc l)) W))
      (here w r k hi (suc l) ka)
      (here w r k hi (suc (suc l)) kb)
      (record {
        is_run = within (across w) (inside w) k (suc l) p q t (healthy w r k hi (suc (suc l)) (omega arith) hj kb);
        arrives = (run_kept k (suc l) p q (enters (row k q) (suc (suc l)) W)).0;
        short = three k (suc l) (row k q) (suc (suc l)) p q;
        first = owned_at w (suc k) (suc l) (row k p) (suc l) W ma s;
        owned = owns w k (suc l) (suc l) (enters (row k q) (suc (suc l)) W) s (owned_at w (suc k) (suc l) (row k q) (suc l) E mb s, tt) p q t ma mb;
        passes = rw (a, b) (run_kept k (suc l) p q (enters (row k q) (suc (suc l)) W)).1;
      })

  -- the row's east path runs through both ends
  along_east : w.path (suc k) (suc l) ≡ east → horizontal w (suc k) (suc (suc l)) ≡ v1
      → west_start (horizontal w (suc k) (suc l)) (name (suc k) (suc l)) [] ≡ [] → Right w (suc k) (suc l)
  along_east a b n =
      let kb = known (suc (suc l)) v1 b in
      let kr = known (suc (suc (suc l))) v1 (after v1 v1 b under_1) in
      let eb : vertical w (suc k) (suc (suc l)) ≡ v0 = rw kb.0 in
      let er : vertical w (suc k) (suc (suc (suc l))) ≡ v0 = rw kr.0 in
      let s : stretch w (suc k) (suc (suc l)) ≡ suc l = rw kb.0 in
      fine_right w (suc k) (suc l) (name (suc k) (suc (suc l))) (name (suc k) (suc (suc (suc l))))
      (switch (suc k) (suc (suc l)) W E (enters (suc k) (suc (suc (suc l))) W))
      (rw a)
      (rw kb.0)
      (record {
        is_run = end_straight (across w) (inside w) k l 2 (suc k) (suc (suc l)) (flat w r k hi (suc (suc l)) hj eb er) (rw kr.1);
        arrives = refl;
        short = lit≤ tt;
        first = own_W (suc (suc l)) eb s;
        owned = (own_W (suc (suc l)) eb s, (own_E (suc (suc l)) er s, (own_E (suc (suc l)) er s, tt)));
        passes = rw b (sym n);
      })

  -- the row's west path runs through both ends
  along_west : horizontal w (suc k) (suc l) ≡ v4 → w.path (suc k) (suc (suc l)) ≡ west
      → east_start (horizontal w (suc k) (suc (suc l))) (name (suc k) (suc (suc l))) ≡ [] → Right w (suc k) (suc l)
  along_west a b n =
      let ka = known (suc l) v4 a in
      let kl = known l v4 (prior v4 v4 a over_4) in
      let ea : vertical w (suc k) (suc l) ≡ v0 = rw ka.0 in
      let el : vertical w (suc k) l ≡ v0 = rw kl.0 in
      let s : stretch w (suc k) l ≡ suc l = rw (kl.0, kl.1) in
      fine_right w (suc k) (suc l) (name (suc k) l) (name (suc k) (suc l))
      (switch (suc k) l W E (enters (suc k) (suc l) W))
      (rw ka.0)
      (rw b)
      (record {
        is_run = end_straight (across w) (inside w) k l 2 (suc k) l (flat w r k hi l (omega arith) el ea) (rw ka.1);
        arrives = refl;
        short = lit≤ tt;
        first = own_W l el s;
        owned = (own_W l el s, (own_E l ea s, (own_E l ea s, tt)));
        passes = rw a (sym n);
      })

  -- a west path starts at the near end
  from_west : horizontal w (suc k) (suc l) ≡ v3 → horizontal w (suc k) (suc (suc l)) ≡ v0 → Right w (suc k) (suc l)
  from_west a b =
      let ka = known (suc l) v3 a in
      let kb = known (suc (suc l)) v0 b in
      let kl = known l v4 (prior v3 v4 a over_3) in
      let ea : vertical w (suc k) (suc l) ≡ v0 = rw ka.0 in
      let el : vertical w (suc k) l ≡ v0 = rw kl.0 in
      let sl : stretch w (suc k) l ≡ suc l = rw (kl.0, kl.1) in
      let s : stretch w (suc k) (suc l) ≡ suc l = rw (ka.0, ka.1) in
      let q = at_row w r k hi (suc (suc l)) in
      let mb = mine w r k hi (suc (suc l)) (omega arith) hj in
      let t : T (leads mid q (across w k (suc l)) (across w (suc k) (suc l)) (across w (suc (suc k)) (suc l))) =
      subst (λ (z : State). T (leads (rel z) q (across w k (suc l)) (across w (suc k) (suc l)) (across w (suc (suc k)) (suc l)))) ea (led w r k hi (suc l) (omega arith) hj) in
      let rest = run k (suc l) mid q (enters (row k q) (suc (suc l)) W) in
      fine_right w (suc k) (suc l) (name (suc k) l) (name (row k q) (suc (suc l)))
      (switch (suc k) l W E (fault (suc k) (suc l) W E rest))
      (rw ka.0)
      (here w r k hi (suc (suc l)) kb)
      (record {
        is_run =
            on_straight (across w) (inside w) k l 2 (suc k) l (flat w r k hi l (omega arith) el ea) (rw (ka.0, ka.1))
            ∙ ap (λ z. switch (suc k) l W E (fault (suc k) (suc l) W E z)) (within_two (across w) (inside w) k (suc l) q t (healthy w r k hi (suc (suc l)) (omega arith) hj kb));
        arrives = (run_kept k (suc l) mid q (enters (row k q) (suc (suc l)) W)).0;
        short = omega (arith, two k (suc l) (row k q) (suc (suc l)) q);
        first = own_W l el sl;
        owned = (
          own_W l el sl,
          (
            own_E l ea sl,
            (
              own_E l ea sl,
              (
                own_W (suc l) ea s,
                owns w k (suc l) (suc l) (enters (row k q) (suc (suc l)) W) s (owned_at w (suc k) (suc l) (row k q) (suc l) E mb s, tt) mid q t (rw ea) mb,
              ),
            ),
          ),
        );
        passes = rw (a, b) (ap (λ z. name (suc k) (suc l) ∷ z) (run_kept k (suc l) mid q (enters (row k q) (suc (suc l)) W)).1);
      })

  -- an east path starts at the far end
  to_east : horizontal w (suc k) (suc l) ≡ v0 → horizontal w (suc k) (suc (suc l)) ≡ v2 → Right w (suc k) (suc l)
  to_east a b =
      let ka = known (suc l) v0 a in
      let kb = known (suc (suc l)) v2 b in
      let kr = known (suc (suc (suc l))) v1 (after v2 v1 b under_2) in
      let eb : vertical w (suc k) (suc (suc l)) ≡ v0 = rw kb.0 in
      let er : vertical w (suc k) (suc (suc (suc l))) ≡ v0 = rw kr.0 in
      let s : stretch w (suc k) (suc l) ≡ suc l = upright_stretch (w.path (suc k) (suc l)) (w.faulty (suc k) (suc l)) (suc l) ka in
      let sb : stretch w (suc k) (suc (suc l)) ≡ suc l = rw kb.0 in
      let p = at_row w r k hi (suc l) in
      let ma = mine w r k hi (suc l) (omega arith) (omega arith) in
      let t : T (leads p mid (across w k (suc l)) (across w (suc k) (suc l)) (across w (suc (suc k)) (suc l))) =
      subst (λ (z : State). T (leads p (rel z) (across w k (suc l)) (across w (suc k) (suc l)) (across w (suc (suc k)) (suc l)))) eb (led w r k hi (suc l) (omega arith) hj) in
      let rest = fault (suc k) (suc (suc l)) W E (switch (suc k) (suc (suc l)) W E (enters (suc k) (suc (suc (suc l))) W)) in
      let oe = own_E (suc (suc l)) er sb in
      let ow = own_W (suc (suc l)) eb sb in
      fine_right w (suc k) (suc l) (name (row k p) (suc l)) (name (suc k) (suc (suc (suc l))))
      (run k (suc l) p mid rest)
      (here w r k hi (suc l) ka)
      (rw kb.0)
      (record {
        is_run = through_east (across w) (inside w) k (suc l) (rw (kb.0, kb.1)) (flat w r k hi (suc (suc l)) hj eb er) (rw kr.1) p t;
        arrives = (run_kept k (suc l) p mid rest).0;
        short = past_two k (suc l) (suc k) (suc (suc l)) (suc (suc (suc l))) p;
        first = owned_at w (suc k) (suc l) (row k p) (suc l) W ma s;
        owned = owns w k (suc l) (suc l) rest s (own_E (suc l) eb s, (ow, (ow, (oe, (oe, tt))))) p mid t ma (rw eb);
        passes = rw (a, b) (run_kept k (suc l) p mid rest).1;
      })

  -- both
  apart_run : horizontal w (suc k) (suc l) ≡ v3 → horizontal w (suc k) (suc (suc l)) ≡ v2 → Right w (suc k) (suc l)
  apart_run a b =
      let ka = known (suc l) v3 a in
      let kb = known (suc (suc l)) v2 b in
      let kl = known l v4 (prior v3 v4 a over_3) in
      let kr = known (suc (suc (suc l))) v1 (after v2 v1 b under_2) in
      let ea : vertical w (suc k) (suc l) ≡ v0 = rw ka.0 in
      let eb : vertical w (suc k) (suc (suc l)) ≡ v0 = rw kb.0 in
      let el : vertical w (suc k) l ≡ v0 = rw kl.0 in
      let er : vertical w (suc k) (suc (suc (suc l))) ≡ v0 = rw kr.0 in
      let sl : stretch w (suc k) l ≡ suc l = rw (kl.0, kl.1) in
      let s : stretch w (suc k) (suc l) ≡ suc l = rw (ka.0, ka.1) in
      let sb : stretch w (suc k) (suc (suc l)) ≡ suc l = rw kb.0 in
      let rest = fault (suc k) (suc (suc l)) W E (switch (suc k) (suc (suc l)) W E (enters (suc k) (suc (suc (suc l))) W)) in
      let oe = own_E (suc (suc l)) er sb in
      let ow = own_W (suc (suc l)) eb sb in
      let mw = own_W (suc l) ea s in
      let me = own_E (suc l) eb s in
      let lw = own_W l el sl in
      let le = own_E l ea sl in
      fine_right w (suc k) (suc l) (name (suc k) l) (name (suc k) (suc (suc (suc l))))
      (switch (suc k) l W E (fault (suc k) (suc l) W E (switch (suc k) (suc l) W E rest)))
      (rw ka.0)
      (rw kb.0)
      (record {
        is_run =
            on_straight (across w) (inside w) k l 2 (suc k) l (flat w r k hi l (omega arith) el ea) (rw (ka.0, ka.1))
            ∙ ap (λ z. switch (suc k) l W E (fault (suc k) (suc l) W E z))
            (on_straight (across w) (inside w) k l 1 (suc k) (suc l) (flat w r k hi (suc l) (omega arith) ea eb) (rw (kb.0, kb.1))
            ∙ ap (λ z. switch (suc k) (suc l) W E (fault (suc k) (suc (suc l)) W E z))
            (end_straight (across w) (inside w) k l 0 (suc k) (suc (suc l)) (flat w r k hi (suc (suc l)) hj eb er) (rw kr.1)));
        arrives = refl;
        short = lit≤ tt;
        first = lw;
        owned = (lw, (le, (le, (mw, (mw, (me, (me, (ow, (ow, (oe, (oe, tt)))))))))));
        passes = rw (a, b);
      })

  -- Document 003's Fig. 15, by the horizontal states of A at (i, j) and B at (i, j+1), with i = k+1 and j = l+1. State 0 is its
  -- None, South and North: `plain` has nine of its 25 fields, `to_east` and `from_west` three each, the others one. The other 7 do
  -- not occur in a plan: an east path through A runs on through B, and a west path through B through A.
  by_states :
      (a b : State) → horizontal w (suc k) (suc l) ≡ a → horizontal w (suc k) (suc (suc l)) ≡ b → T (above a b) →
      Right w (suc k) (suc l)
  by_states v0 v0 e f t = plain e f
  by_states v0 v1 e f t = absurd t
  by_states v0 v2 e f t = to_east e f
  by_states v0 v3 e f t = absurd t
  by_states v0 v4 e f t = absurd t
  by_states v1 v0 e f t = absurd t
  by_states v1 v1 e f t = along_east (known (suc l) v1 e).0 f (rw e)
  by_states v1 v2 e f t = absurd t
  by_states v1 v3 e f t = absurd t
  by_states v1 v4 e f t = absurd t
  by_states v2 v0 e f t = absurd t
  by_states v2 v1 e f t = along_east (known (suc l) v2 e).0 f (rw e)
  by_states v2 v2 e f t = absurd t
  by_states v2 v3 e f t = absurd t
  by_states v2 v4 e f t = absurd t
  by_states v3 v0 e f t = from_west e f
  by_states v3 v1 e f t = absurd t
  by_states v3 v2 e f t = apart_run e f
  by_states v3 v3 e f t = absurd t
  by_states v3 v4 e f t = absurd t
  by_states v4 v0 e f t = absurd t
  by_states v4 v1 e f t = absurd t
  by_states v4 v2 e f t = absurd t
  by_states v4 v3 e f t = along_west e (known (suc (suc l)) v3 f).0 (rw f)
  by_states v4 v4 e f t = along_west e (known (suc (suc l)) v4 f).0 (rw f)

  pub link_right : Right w (suc k) (suc l)
  link_right =
      by_states (horizontal w (suc k) (suc l)) (horizontal w (suc k) (suc (suc l))) refl refl
      (r.horiz (suc k) (suc l) (omega arith) hi (omega arith))
