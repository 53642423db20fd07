-- The switches and processors of a routed wafer hold what a walk of its view meets, as if nothing were broken: along rows
-- and, with the view transposed, along columns.
-- Assumes nothing.
use Rattle.std.specs.Prelude.{Option, None, Some}
use mathlib.Core.Path.{◌≡◌, refl, sym, ap, ◌∙◌}
use mathlib.Core.Bool.{Bool, true, false, false≢true, true≢false}
use mathlib.Core.List.{List}
use Prim.Native.Nat.{ℕ, suc, ◌+◌, ◌≤◌}
use native.Mathlib.Omega.{arith}
use native.Mathlib.Numerals.{add-one}
use borrow.Author.Tests.{le-leb}
use lib.Dec.{T, eqb, eqb→eq}
use lib.ListN.{get_or}
use Rattle.array.specs.Place.{position, inner_at, inner, processor_at}
use Rattle.array.specs.Map.{faulty}
use Rattle.array.proofs.Bools.{and_true, and_none}
use Rattle.array.proofs.Places.{inner_at_holds, processor_within, position_read}
use Rattle.array.proofs.Fills.{tabulate_at}
use Rattle.array.proofs.Formed.{Formed, formed}
use Rattle.paths.proofs.Directions.{by_number}
use Rattle.plans.specs.Faults.{directed_faults}
use Rattle.plans.specs.declared.Fault.{Fault}
use Rattle.plans.proofs.ByPosition.{buffer_plan}
use Rattle.track.specs.Placement.{through}
use Rattle.track.specs.Letters.{letter, across_exists, down_exists, across_at, down_at, across_letters, down_letters}
use Rattle.track.specs.Ports.{Wafer, ◌at◌, stands, N–S, W–E, unjoined as unjoined-All, across_joins, down_joins, fault_joins, ends_link, set_to, joined}
use Rattle.track.specs.declared.ports.Compass.{Compass}
use Rattle.track.specs.declared.ports.Compass.TheVariants.{W, E, N, S}
use Rattle.track.specs.declared.ports.Node.TheVariants.{Processor, Across, Down}
use Rattle.track.specs.declared.ports.Port.{Port}
use Rattle.track.specs.Theorems.{Routed}
use Rattle.track.proofs.OneLink.{sound}
use Rattle.track.proofs.View.{Dir, still, south, north, east, west, tr, moving, View, transposed, Planned}
use Rattle.track.proofs.Walks.{State, state, state_number, code, as_joined, vertical, Letter, sa, sb, sc, sd, no_switch, table, where_both, across, Joined, to, unjoined, missing, join, ends, runs, inside, inside_of}
use Rattle.track.proofs.Cross.{all, pairs_at}
use Rattle.track.proofs.OnPath.{heading}
use Rattle.track.proofs.Seen.{view, planned}
use Rattle.track.proofs.Paths.{moving_not_still, own_direction, true_if}
use Rattle.track.proofs.Rules.{processor_turns}
use Rattle.track.proofs.Trails.{there, turned, unturned, down_turned, processor_turned, Alike}
use Rattle.track.specs.Letters as letters
use Rattle.track.specs.Link as link

pub vertical_is : (d : ℕ) (f : Bool) → letters.vertical d f ≡ state_number (state (heading d) f)
vertical_is d true =
    by_number (λ z. letters.vertical z true ≡ state_number (state (heading z) true)) d refl refl refl refl (λ a b c e. rw (a, b, c, e))
vertical_is d false =
    by_number (λ z. letters.vertical z false ≡ state_number (state (heading z) false)) d refl refl refl refl (λ a b c e. rw (a, b, c, e))

pub horizontal_is : (d : ℕ) (f : Bool) → letters.horizontal d f ≡ state_number (state (tr (heading d)) f)
horizontal_is d true =
    by_number (λ z. letters.horizontal z true ≡ state_number (state (tr (heading z)) true)) d refl refl refl refl
    (λ a b c e. rw (a, b, c, e))
horizontal_is d false =
    by_number (λ z. letters.horizontal z false ≡ state_number (state (tr (heading z)) false)) d refl refl refl refl
    (λ a b c e. rw (a, b, c, e))

abbrev same_letter : State → State → Bool
same_letter s t = eqb (letter (state_number s) (state_number t)) (code (table s t))

letters_agree : T (all (λ s. all (λ t. same_letter s t)))
unfolding letter letters.entry letters.letters
letters_agree = tt

pub letter_is : (s t : State) → letter (state_number s) (state_number t) ≡ code (table s t)
letter_is s t =
    eqb→eq _ _ (pairs_at same_letter letters_agree s t)

-- joins
abbrev as_option : Joined → Option Compass
as_option (to q) = Some q
as_option unjoined = None
as_option missing = None

kept : (o : Option Compass) → o ≡ as_option (as_joined o)
kept None = refl
kept (Some q) = refl

across_joins_is : (l : Letter) (p : Compass) → across_joins (code l) p ≡ as_option (join l p)
across_joins_is sa p = kept (across_joins letters.a p)
across_joins_is sb p = kept (across_joins letters.b p)
across_joins_is sc p = kept (across_joins letters.c p)
across_joins_is sd p = kept (across_joins letters.d p)
across_joins_is no_switch p = refl

abbrev as_turned : Joined → Option Compass
as_turned (to q) = Some (turned q)
as_turned unjoined = None
as_turned missing = None

down_joins_is : (l : Letter) (p : Compass) → down_joins (code l) (turned p) ≡ as_turned (join l p)
down_joins_is sa W = refl
down_joins_is sa E = refl
down_joins_is sa N = refl
down_joins_is sa S = refl
down_joins_is sb W = refl
down_joins_is sb E = refl
down_joins_is sb N = refl
down_joins_is sb S = refl
down_joins_is sc W = refl
down_joins_is sc E = refl
down_joins_is sc N = refl
down_joins_is sc S = refl
down_joins_is sd W = refl
down_joins_is sd E = refl
down_joins_is sd N = refl
down_joins_is sd S = refl
down_joins_is no_switch p = refl

pub down_turns : (n m x y : ℕ) → across_exists m n x y ≡ down_exists n m y x
down_turns n m x y = rw (processor_turns m n x y, processor_turns m n x (y + 1))

-- what an inner fault of a direction joins
abbrev joins_of : Dir → Compass → Option Compass
joins_of still = unjoined-All
joins_of south = N–S
joins_of north = N–S
joins_of east = W–E
joins_of west = W–E

fault_joins_is : (d : ℕ) (s : Compass) → fault_joins d s ≡ joins_of (heading d) s
fault_joins_is d s =
    by_number (λ z. fault_joins z s ≡ joins_of (heading z) s) d refl refl refl refl (λ a b c e. rw (a, b, c, e))

-- a fault that a walk runs through is on a path along the walk's axis
abbrev pub level : Dir → Bool
level still = false
level south = false
level north = false
level east = true
level west = true

level_joins : (d : Dir) → T (level d) → T (moving d) × (joins_of d W ≡ Some E) × (joins_of d E ≡ Some W)
level_joins still t = absurd t
level_joins south t = absurd t
level_joins north t = absurd t
level_joins east t = (tt, refl, refl)
level_joins west t = (tt, refl, refl)

turned_joins : (d : Dir) → T (level (tr d)) → T (moving d) × (joins_of d N ≡ Some S) × (joins_of d S ≡ Some N)
turned_joins still t = absurd t
turned_joins south t = (tt, refl, refl)
turned_joins north t = (tt, refl, refl)
turned_joins east t = absurd t
turned_joins west t = absurd t

runs_when : (d : Dir) (f : Bool) → inside_of d f ≡ runs → (f ≡ true) × T (level d)
runs_when d false e = absurd (true≢false (cc))
runs_when still true e = absurd (true≢false (cc))
runs_when south true e = absurd (true≢false (cc))
runs_when north true e = absurd (true≢false (cc))
runs_when east true e = (refl, tt)
runs_when west true e = (refl, tt)

ends_when : (d : Dir) (f : Bool) → inside_of d f ≡ ends → f ≡ false
ends_when d false e = refl
ends_when still true e = absurd (true≢false (cc))
ends_when south true e = absurd (true≢false (cc))
ends_when north true e = absurd (true≢false (cc))
ends_when east true e = absurd (true≢false (cc))
ends_when west true e = absurd (true≢false (cc))

-- a letter that joins a port is the letter of a switch that exists
exists_where : (b : Bool) (l : Letter) (p : Compass) → there (join (where_both b l) p) ≡ true → b ≡ true
exists_where true l p h = refl
exists_where false l p h = absurd (false≢true h)

abbrev pub view_of : Wafer → View
view_of w = view w.rows w.columns w.grid w.directions

abbrev pub fault_list : Wafer → List Fault
fault_list w = directed_faults w.rows w.columns w.grid w.directions

abbrev pub through_at : Wafer → ℕ → ℕ
through_at w p = through w.rows w.columns (fault_list w) p

-- what is inside at a port, from what its node joins
inside_ends : (w : Wafer) (i : Port) → ends_link w i.node ≡ true → link.inside w i ≡ link.ends
unfolding link.inside
inside_ends w i e = rw (e, link.inside)

inside_on : (w : Wafer) (i : Port) (q : Compass) → ends_link w i.node ≡ false → joined w i.node i.side ≡ Some q
    → link.inside w i ≡ link.on (i.node at q)
unfolding link.inside
inside_on w i q e f = rw (e, f, link.inside)

module _ (w : Wafer) (r : Routed w) where
  pub formed_of : Formed w.rows w.columns w.grid
  formed_of = formed w.rows w.columns w.grid r.map

  pub planned_of : Planned (view_of w)
  planned_of =
      planned w.rows w.columns w.grid w.directions formed_of
      ((buffer_plan w.rows w.columns w.grid w.directions).0 r.plan)

  -- the states that the letters are read from are those of the view
  pub vertical_held : (x y : ℕ) → y ≤ 31
      → letters.vertical (through_at w (position x y)) (faulty w.grid (position x y))
      ≡ state_number (vertical (view_of w) x y)
  vertical_held x y h = rw (le-leb y 31 h) (vertical_is (through_at w (position x y)) (faulty w.grid (position x y)))

  pub horizontal_held : (x y : ℕ) → x ≤ 31
      → letters.horizontal (through_at w (position y x)) (faulty w.grid (position y x))
      ≡ state_number (vertical (transposed (view_of w)) x y)
  horizontal_held x y h = rw (le-leb x 31 h) (horizontal_is (through_at w (position y x)) (faulty w.grid (position y x)))

  -- the buffers hold the letters of the view
  pub across_held : (x y : ℕ) → across_exists w.rows w.columns x y ≡ true
      → get_or w.across (position x y) 0 ≡ code (across (view_of w) x y)
  unfolding across_letters
  across_held x y h =
      let a = and_true (processor_at w.rows w.columns x y) (processor_at w.rows w.columns x (y + 1)) h in
      let b = processor_within w.rows w.columns x (y + 1) a.1 in
      let s = formed_of.sizes in
      let i = position_read x y (omega (arith, s)) in
      let k : position x y + 1 ≡ position x (suc y) = omega arith in
      ap (λ (z : List ℕ). get_or z (position x y) 0) r.across_set
      ∙ tabulate_at (across_at w.rows w.columns w.grid (fault_list w)) 1024 (position x y) 0 (omega (arith, s))
      ∙ rw (i.0, i.1, h, k, vertical_held x y (omega (arith, s)), vertical_held x (suc y) (omega (arith, s)))
      (letter_is (vertical (view_of w) x y) (vertical (view_of w) x (suc y)))

  pub down_held : (x y : ℕ) → down_exists w.rows w.columns y x ≡ true
      → get_or w.down (position y x) 0 ≡ code (across (transposed (view_of w)) x y)
  unfolding down_letters
  down_held x y h =
      let a = and_true (processor_at w.rows w.columns y x) (processor_at w.rows w.columns (y + 1) x) h in
      let b = processor_within w.rows w.columns (y + 1) x a.1 in
      let s = formed_of.sizes in
      let i = position_read y x (omega (arith, s)) in
      let k : position y x + 32 ≡ position (suc y) x = omega arith in
      ap (λ (z : List ℕ). get_or z (position y x) 0) r.down_set
      ∙ tabulate_at (down_at w.rows w.columns w.grid (fault_list w)) 1024 (position y x) 0 (omega (arith, s))
      ∙ rw (i.0, i.1, h, k, horizontal_held x y (omega (arith, s)), horizontal_held x (suc y) (omega (arith, s)), down_turns w.rows w.columns x y, h)
      (letter_is (vertical (transposed (view_of w)) x y) (vertical (transposed (view_of w)) x (suc y)))

  -- a healthy processor ends a link
  healthy_ends : (x y : ℕ) (p : Compass) → faulty w.grid (position x y) ≡ false → link.inside (sound w) (Processor x y at p) ≡ link.ends
  unfolding ends_link
  healthy_ends x y p h =
      inside_ends (sound w) (Processor x y at p) (rw (h, and_none (inner w.rows w.columns (position x y))))

  -- a fault on a path joins the ports that its own direction says
  fault_inside : (x y : ℕ) (d : Dir) (s q : Compass) → T (moving d) → faulty w.grid (position x y) ≡ true → (view_of w).path x y ≡ d
      → joins_of d s ≡ Some q → link.inside (sound w) (Processor x y at s) ≡ link.on (Processor x y at q)
  unfolding ends_link joined set_to
  fault_inside x y d s q m h e g =
      let o = own_direction (view_of w) planned_of d x y m (rw h tt) e in
      let a = true_if (inner_at w.rows w.columns x y) (planned_of.only x y (λ z. moving_not_still d m (sym o ∙ z))).0 in
      let b = inner_at_holds w.rows w.columns x y a in
      let i = position_read x y (omega (arith, b.column_high, formed_of.sizes.columns_high)) in
      let k : heading (get_or w.directions (position x y) 0) ≡ d = rw (a, h) at o in
      inside_on (sound w) (Processor x y at s) q (rw (i.0, i.1, a, h))
      (rw (i.0, i.1, a, h, fault_joins_is (get_or w.directions (position x y) 0) s, k) g)

  across_inside : (x y : ℕ) (p q : Compass) → across_exists w.rows w.columns x y ≡ true → join (across (view_of w) x y) p ≡ to q
      → link.inside (sound w) (Across x y at p) ≡ link.on (Across x y at q)
  unfolding ends_link joined set_to
  across_inside x y p q h e =
      inside_on (sound w) (Across x y at p) q refl (rw (across_held x y h, across_joins_is (across (view_of w) x y) p, e))

  down_inside : (x y : ℕ) (p q : Compass) → down_exists w.rows w.columns y x ≡ true
      → join (across (transposed (view_of w)) x y) p ≡ to q → link.inside (sound w) (Down y x at turned p) ≡ link.on (Down y x at turned q)
  unfolding ends_link joined set_to
  down_inside x y p q h e =
      inside_on (sound w) (Down y x at turned p) (turned q) refl
      (rw (down_held x y h, down_joins_is (across (transposed (view_of w)) x y) p, e))

  across_there : (x y : ℕ) (p : Compass) → there (join (across (view_of w) x y) p) ≡ true → across_exists w.rows w.columns x y ≡ true
  across_there x y p t = exists_where _ (table (vertical (view_of w) x y) (vertical (view_of w) x (suc y))) p t

  down_there : (x y : ℕ) (p : Compass) → there (join (across (transposed (view_of w)) x y) p) ≡ true → down_exists w.rows w.columns y x ≡ true
  down_there x y p t =
      sym (down_turns w.rows w.columns x y)
      ∙ exists_where _ (table (vertical (transposed (view_of w)) x y) (vertical (transposed (view_of w)) x (suc y))) p t

  pub along_rows : Alike (sound w) Across Processor unturned (across (view_of w)) (inside (view_of w))
  unfolding stands
  along_rows =
      record {
        switch_up = across_there;
        west_up = λ x y p t. (and_true (processor_at w.rows w.columns x y) _ (across_there x y p t)).0;
        east_up = λ x y p t. rw (← add-one y) (and_true (processor_at w.rows w.columns x y) _ (across_there x y p t)).1;
        joins = λ x y p q e. across_inside x y p q (across_there x y p (ap there e)) e;
        end_in = λ x y p e. healthy_ends x y p (ends_when ((view_of w).path x y) (faulty w.grid (position x y)) e);
        run_W = λ x y e. run x y W E e (λ d t. (level_joins d t).1);
        run_E = λ x y e. run x y E W e (λ d t. (level_joins d t).2);
      }
    where
      run : (x y : ℕ) (s q : Compass) → inside (view_of w) x y ≡ runs → ((d : Dir) → T (level d) → joins_of d s ≡ Some q)
          → link.inside (sound w) (Processor x y at s) ≡ link.on (Processor x y at q)
      run x y s q e f =
          let d = (view_of w).path x y in
          let a = runs_when d (faulty w.grid (position x y)) e in
          fault_inside x y d s q (level_joins d a.1).0 a.0 refl (f d a.1)

  pub along_columns : Alike (sound w) down_turned processor_turned turned (across (transposed (view_of w))) (inside (transposed (view_of w)))
  unfolding stands
  along_columns =
      record {
        switch_up = down_there;
        west_up = λ x y p t. (and_true (processor_at w.rows w.columns y x) _ (down_there x y p t)).0;
        east_up = λ x y p t. rw (← add-one y) (and_true (processor_at w.rows w.columns y x) _ (down_there x y p t)).1;
        joins = λ x y p q e. down_inside x y p q (down_there x y p (ap there e)) e;
        end_in = λ x y p e. healthy_ends y x p (ends_when (tr ((view_of w).path y x)) (faulty w.grid (position y x)) e);
        run_W = λ x y e. run x y N S e (λ d t. (turned_joins d t).1);
        run_E = λ x y e. run x y S N e (λ d t. (turned_joins d t).2);
      }
    where
      run : (x y : ℕ) (s q : Compass) → inside (transposed (view_of w)) x y ≡ runs → ((d : Dir) → T (level (tr d)) → joins_of d s ≡ Some q)
          → link.inside (sound w) (Processor y x at s) ≡ link.on (Processor y x at q)
      run x y s q e f =
          let d = (view_of w).path y x in
          let a = runs_when (tr d) (faulty w.grid (position y x)) e in
          fault_inside y x d s q (turned_joins d a.1).0 a.0 refl (f d a.1)
