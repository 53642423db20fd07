-- Where nothing is broken every link to a neighbour reaches it over at most three switches, all its ports are its own, and
-- the faults that it enters are those of the view. Both sides at once: a south link is the east link of the transposed view.
-- Assumes nothing.
use mathlib.Core.Path.{◌≡◌, refl, sym, ap, subst, ◌∙◌}
use mathlib.Core.Bool.{true≢false}
use mathlib.Core.List.Memᴰ
use mathlib.Core.List.{List, [], ◌∷◌, Memᴰ}
use mathlib.Core.Logic.{◌⊎◌, inl, inr, ⊎_elim}
use Prim.Native.Nat.{ℕ, zero, suc, ◌≤◌}
use native.Mathlib.Omega.{arith}
use native.Mathlib.Numerals.{add-one}
use Rattle.track.specs.Ports.{Wafer, ◌at◌}
use Rattle.track.specs.declared.ports.Compass.{Compass}
use Rattle.track.specs.declared.ports.Compass.TheVariants.{W, E, N, S}
use Rattle.track.specs.declared.ports.Node.{Node}
use Rattle.track.specs.declared.ports.Node.TheVariants.{Processor, Across, Down}
use Rattle.track.specs.declared.ports.Port.{Port}
use Rattle.track.specs.Link.{Enters}
use Rattle.track.specs.Pieces.{Piece, Same}
use Rattle.track.specs.Follower.{processor_of}
use Rattle.track.specs.Theorems.{Routed, holder, out, Neighbour, right, lower, Reaches}
use Rattle.track.specs.Avoids.{Visits}
use Rattle.track.proofs.OneLink.{sound}
use Rattle.track.proofs.View.{Dir, still, south, north, east, west, tr, View, transposed}
use Rattle.track.proofs.Walks.{Run, switch, fault, enters, unjoined_at, lost, too_long, Place, moved, placed, across, inside}
use Rattle.track.proofs.Own.{of_switch, of_processor, ports, name, owner, Owned}
use Rattle.track.proofs.Links.{passed, link_right}
use Rattle.track.proofs.Rims.{In}
use Rattle.track.proofs.FromPlan.{transposed_plan, plan_rules}
use Rattle.track.proofs.Trails.{turned, unturned, down_turned, processor_turned, eastward, southward, trail, leaves, last_arrives, last_enters, trail_switches}
use Rattle.track.proofs.Held.{view_of, planned_of, along_rows, along_columns}
use Rattle.track.proofs.Seats.{processor_is}
use Rattle.track.specs.Pieces as pieces
use Rattle.track.proofs.Walks as walks

-- the link whose port a port may be
pub record Name : Type 0 where
  pub side : ℕ
  pub row : ℕ
  pub col : ℕ

abbrev pub named : ℕ → ℕ → ℕ → Name
named s i j = record { side = s; row = i; col = j }

abbrev east_name : Place → Name
east_name c = named 0 c.row c.col

abbrev south_name : Place → Name
south_name c = named 1 c.col c.row

abbrev whose_at : View → Node → Compass → Name
whose_at v (Across x y) p = east_name (owner v (of_switch x y p))
whose_at v (Down x y) p = south_name (owner (transposed v) (of_switch y x (turned p)))
whose_at v (Processor x y) E = east_name (owner v (of_processor x y E))
whose_at v (Processor x y) W = east_name (owner v (of_processor x y W))
whose_at v (Processor x y) N = south_name (owner (transposed v) (of_processor y x W))
whose_at v (Processor x y) S = south_name (owner (transposed v) (of_processor y x E))

abbrev whose : View → Port → Name
whose v a = whose_at v a.node a.side

-- both ports of a piece
abbrev pub Both : (Port → Type 0) → Piece → Type 0
Both P (pieces.stretch a b) = P a × P b
Both P (pieces.join k s t) = P (k at s) × P (k at t)

abbrev pub Every : {A : Type 0} → (A → Type 0) → List A → Type 0
Every P [] = Unit {0}
Every P (a ∷ rest) = P a × Every P rest

pub every_at : {A : Type 0} (P : A → Type 0) (l : List A) → Every P l → (a : A) → Memᴰ a l → P a
every_at P [] e a m = absurd (Memᴰ.not-nil m)
every_at P (b ∷ l) e a m = go (every_at P l e.1 a) (Memᴰ.cases_cons m)
  where
    go : (Memᴰ a l → P a) → (a ≡ b) ⊎ Memᴰ a l → P a
    go ih (inl q) = subst P (sym q) e.0
    go ih (inr q) = ih q

-- the ports of a run that are all owned by one cell give pieces whose ports all pass
module _
    (v : View) (i j : ℕ) (sw pr : ℕ → ℕ → Node) (tp : Compass → Compass) (P : Port → Type 0)
    (at-switch : (x y : ℕ) (p : Compass) → owner v (of_switch x y p) ≡ name i j → P (sw x y at tp p))
    (at-processor : (x y : ℕ) (p : Compass) → owner v (of_processor x y p) ≡ name i j → P (pr x y at tp p))
  where
    owned_pieces : (o : Port) (r : Run) → P o → Owned v i j (ports r) → Every (Both P) (pieces.pieces o (trail sw pr tp r))
    unfolding pieces.pieces
    owned_pieces o (switch x y p q r) h e =
        let a = at-switch x y p e.0 in
        let b = at-switch x y q e.1.0 in
        ((h, a), ((a, b), owned_pieces (sw x y at tp q) r b e.1.1))
    owned_pieces o (fault x y p q r) h e =
        let a = at-processor x y p e.0 in
        let b = at-processor x y q e.1.0 in
        ((h, a), ((a, b), owned_pieces (pr x y at tp q) r b e.1.1))
    owned_pieces o (enters x y p) h e = ((h, at-processor x y p e.0), tt)
    owned_pieces o (unjoined_at x y) h e = tt
    owned_pieces o lost h e = tt
    owned_pieces o (too_long x y) h e = tt

nobody : {A : Type 0} (k l : ℕ) → name zero zero ≡ name (suc k) (suc l) → A
nobody k l e = let z : 0 ≡ suc k = ap (λ c. c.row) e in absurd (omega arith)

abbrev pub Mine : View → ℕ → ℕ → ℕ → Port → Type 0
Mine v s i j a = whose v a ≡ named s i j

module _ (v : View) (k l : ℕ) where
  east_switch : (x y : ℕ) (p : Compass) → owner v (of_switch x y p) ≡ name (suc k) (suc l) → Mine v 0 (suc k) (suc l) (Across x y at p)
  east_switch x y p e = ap east_name e

  east_processor : (x y : ℕ) (p : Compass) → owner v (of_processor x y p) ≡ name (suc k) (suc l) → Mine v 0 (suc k) (suc l) (Processor x y at p)
  east_processor x y W e = ap east_name e
  east_processor x y E e = ap east_name e
  east_processor x y N e = nobody k l e
  east_processor x y S e = nobody k l e

  south_switch : (x y : ℕ) (p : Compass) → owner (transposed v) (of_switch x y p) ≡ name (suc l) (suc k)
      → Mine v 1 (suc k) (suc l) (Down y x at turned p)
  south_switch x y W e = ap south_name e
  south_switch x y E e = ap south_name e
  south_switch x y N e = ap south_name e
  south_switch x y S e = ap south_name e

  south_processor : (x y : ℕ) (p : Compass) → owner (transposed v) (of_processor x y p) ≡ name (suc l) (suc k)
      → Mine v 1 (suc k) (suc l) (Processor y x at turned p)
  south_processor x y W e = ap south_name e
  south_processor x y E e = ap south_name e
  south_processor x y N e = nobody l k e
  south_processor x y S e = nobody l k e

-- rows and columns exchanged
moved_tr : (d : Dir) (i j : ℕ) → moved (tr d) j i ≡ name (moved d i j).col (moved d i j).row
moved_tr still i j = refl
moved_tr south i j = refl
moved_tr north i j = refl
moved_tr east i j = refl
moved_tr west i j = refl

-- the faults that a run passes are entered by its trail, which enters no other processor but its last
module _ (sw pr : ℕ → ℕ → Node) (tp : Compass → Compass) (v : Node) (c : Place) where
  in_visits : pr c.row c.col ≡ v → (r : Run) → In (passed r) c → Visits (trail sw pr tp r) v
  in_visits n (switch x y p q r) h = inr (in_visits n r h)
  in_visits n (fault x y p q r) (inl e) = inl (ap (λ (z : Place). pr z.row z.col) e ∙ n)
  in_visits n (fault x y p q r) (inr h) = inr (in_visits n r h)
  in_visits n (enters x y p) h = absurd h
  in_visits n (unjoined_at x y) h = absurd h
  in_visits n lost h = absurd h
  in_visits n (too_long x y) h = absurd h

  visits_in : ((x y : ℕ) → sw x y ≡ v → ⊥) → ((x y : ℕ) → pr x y ≡ v → name x y ≡ c)
      → (r : Run) (e : Port) → Enters (trail sw pr tp r) e → Visits (trail sw pr tp r) v → In (passed r) c ⊎ (e.node ≡ v)
  visits_in n f (switch x y p q r) e h (inl g) = absurd (n x y g)
  visits_in n f (switch x y p q r) e h (inr g) = visits_in n f r e h g
  visits_in n f (fault x y p q r) e h (inl g) = inl (inl (f x y g))
  visits_in n f (fault x y p q r) e h (inr g) = ⊎_elim (λ z. inl (inr z)) inr (visits_in n f r e h g)
  visits_in n f (enters x y p) e h g = inr (ap (λ (i : Port). i.node) (sym h) ∙ g)
  visits_in n f (unjoined_at x y) e h g = absurd h
  visits_in n f lost e h g = absurd h
  visits_in n f (too_long x y) e h g = absurd h

-- the link of [i, j] on a side passes the fault at (x, y) in the view
abbrev pub Meets : View → ℕ → ℕ → ℕ → ℕ → ℕ → Type 0
Meets v zero i j x y = In (passed (walks.link v i j)) (name x y)
Meets v (suc s) i j x y = In (passed (walks.link (transposed v) j i)) (name y x)

-- a link that reaches where nothing is broken, with all its pieces its own, and the faults that it enters
pub record Good (w : Wafer) (i j side k l : ℕ) (port : Compass) : Type 0 where
  pub reaches : Reaches (sound w) i j side k l port
  pub mine : Every (Both (Mine (view_of w) side i j)) (pieces.pieces (out w i j side) reaches.link)
  pub enters_met : (x y : ℕ) → Meets (view_of w) side i j x y → Visits reaches.link (Processor x y)
  pub meets : (x y : ℕ) → Visits reaches.link (Processor x y)
      → Meets (view_of w) side i j x y ⊎ (processor_of (holder w k l) ≡ Processor x y)

module _ (w : Wafer) (r : Routed w) (k l : ℕ) where
  east_good : suc k ≤ w.rows → suc (suc l) ≤ w.columns → Good w (suc k) (suc l) 0 (suc k) (suc (suc l)) W
  east_good a b =
      let v = view_of w in
      let g = link_right v (plan_rules v (planned_of w r)) k l a b in
      let c = placed v (suc k) (suc l) in
      let t = walks.link v (suc k) (suc l) in
      let o : Processor c.row c.col at E ≡ out w (suc k) (suc l) 0 = rw (processor_is w r k l a (omega arith)) in
      let e : Enters (trail Across Processor unturned t) (processor_of (holder w (suc k) (suc (suc l))) at W) =
      rw (processor_is w r k (suc l) a b) (last_enters Across Processor unturned t _ _ W g.arrives) in
      record {
        reaches = record {
          link = trail Across Processor unturned t;
          is_link =
              rw o at (leaves (sound w) Across Processor unturned (across v) (inside v) eastward (along_rows w r) 3 c.row c.col
              (last_arrives t _ _ W g.arrives));
          ends = e;
          few = rw (trail_switches Across Processor unturned eastward t) g.short;
        };
        mine =
            rw o at (owned_pieces v (suc k) (suc l) Across Processor unturned (Mine v 0 (suc k) (suc l)) (east_switch v k l) (east_processor v k l)
            (Processor c.row c.col at E) t (east_processor v k l c.row c.col E g.owned.0) g.owned.1);
        enters_met = λ x y h. in_visits Across Processor unturned (Processor x y) (name x y) refl t h;
        meets = λ x y h.
            visits_in Across Processor unturned (Processor x y) (name x y) (λ x y z. true≢false (cc)) (λ x y z. cc) t _ e h;
      }

  south_good : suc (suc k) ≤ w.rows → suc l ≤ w.columns → Good w (suc k) (suc l) 1 (suc (suc k)) (suc l) N
  south_good a b =
      let v = view_of w in
      let u = transposed v in
      let g = link_right u (plan_rules u (transposed_plan v (planned_of w r))) l k b a in
      let c = placed u (suc l) (suc k) in
      let t = walks.link u (suc l) (suc k) in
      let m = moved_tr (v.path (suc k) (suc l)) (suc k) (suc l) in
      let m' = moved_tr (v.path (suc (suc k)) (suc l)) (suc (suc k)) (suc l) in
      let o : Processor c.col c.row at S ≡ out w (suc k) (suc l) 1 =
      rw (processor_is w r k l (omega arith) b) (ap (λ (z : Place). Processor z.col z.row at S) m) in
      let e : Enters (trail down_turned processor_turned turned t) (processor_of (holder w (suc (suc k)) (suc l)) at N) =
      rw (processor_is w r (suc k) l a b)
      (subst (λ (z : Place). Enters (trail down_turned processor_turned turned t) (Processor z.col z.row at N)) m'
      (last_enters down_turned processor_turned turned t _ _ W g.arrives)) in
      record {
        reaches = record {
          link = trail down_turned processor_turned turned t;
          is_link =
              rw o at (leaves (sound w) down_turned processor_turned turned (across u) (inside u) southward (along_columns w r) 3 c.row c.col
              (last_arrives t _ _ W g.arrives));
          ends = e;
          few = rw (trail_switches down_turned processor_turned turned southward t) g.short;
        };
        mine =
            rw o at (owned_pieces u (suc l) (suc k) down_turned processor_turned turned (Mine v 1 (suc k) (suc l)) (south_switch v k l) (south_processor v k l)
            (Processor c.col c.row at S) t (south_processor v k l c.row c.col E g.owned.0) g.owned.1);
        enters_met = λ x y h. in_visits down_turned processor_turned turned (Processor x y) (name y x) refl t h;
        meets = λ x y h.
            visits_in down_turned processor_turned turned (Processor x y) (name y x) (λ x y z. true≢false (cc)) (λ x y z. cc) t _ e h;
      }

pub good : (w : Wafer) → Routed w → (i j side k l : ℕ) (port : Compass) → Neighbour w i j side k l port → Good w i j side k l port
good w r zero j side k l port (right c h) = absurd (omega (arith, c.row_low))
good w r zero j side k l port (lower c h) = absurd (omega (arith, c.row_low))
good w r (suc i) zero side k l port (right c h) = absurd (omega (arith, c.column_low))
good w r (suc i) zero side k l port (lower c h) = absurd (omega (arith, c.column_low))
good w r (suc i) (suc j) side k l port (right c h) = rw (add-one (suc j)) (east_good w r i j c.row_high h)
good w r (suc i) (suc j) side k l port (lower c h) = rw (add-one (suc i)) (south_good w r i j h c.column_high)

-- a piece that a port of each of two links is at
pub same_name : (v : View) (n m : Name) (a b : Piece) → Both (λ (z : Port). whose v z ≡ n) a → Both (λ (z : Port). whose v z ≡ m) b → Same a b → n ≡ m
same_name v n m (pieces.stretch a b) (pieces.stretch a' b') h g (inl e) = sym h.0 ∙ ap (whose v) e.0 ∙ g.0
same_name v n m (pieces.stretch a b) (pieces.stretch a' b') h g (inr e) = sym h.0 ∙ ap (whose v) e.0 ∙ g.1
same_name v n m (pieces.stretch a b) (pieces.join k s t) h g e = absurd e
same_name v n m (pieces.join k s t) (pieces.stretch a b) h g e = absurd e
same_name v n m (pieces.join k s t) (pieces.join k' s' t') h g (e, inl f) = sym h.0 ∙ ap (λ z. whose_at v z s) e ∙ ap (whose_at v k') f.0 ∙ g.0
same_name v n m (pieces.join k s t) (pieces.join k' s' t') h g (e, inr f) = sym h.0 ∙ ap (λ z. whose_at v z s) e ∙ ap (whose_at v k') f.0 ∙ g.1
