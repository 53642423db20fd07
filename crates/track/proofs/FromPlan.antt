-- A plan keeps the rules between neighbours, and the transposed plan is a plan.
-- Assumes nothing.
use Prim.Native.Nat.{ℕ, suc, ◌≤◌}
use native.Mathlib.Omega.{arith}
use mathlib.Core.Path.{◌≡◌, refl, ◌∙◌, sym, ap}
use mathlib.Core.Bool.{Bool, true, false, not, ◌&&◌}
use lib.Dec.{T, leb}
use Rattle.array.proofs.Places.{inner_between}
use Rattle.track.proofs.View.{Dir, still, south, north, east, west, tr, moving, View, transposed, on, covers, Source, Planned}
use Rattle.track.proofs.Walks.{state, vertical}
use Rattle.track.proofs.Cross.{above, beside, given, use_given, and_left, and_right, and_intro}
use Rattle.track.proofs.Rules.{Rules}
use Rattle.track.proofs.Paths.{south_down, south_up, north_up, north_down, face, covered}

abbrev goes_south : Dir → Bool
goes_south still = false
goes_south south = true
goes_south north = false
goes_south east = false
goes_south west = false

abbrev goes_north : Dir → Bool
goes_north still = false
goes_north south = false
goes_north north = true
goes_north east = false
goes_north west = false

south_eq : (d : Dir) → T (goes_south d) → d ≡ south
south_eq still t = absurd t
south_eq south t = refl
south_eq north t = absurd t
south_eq east t = absurd t
south_eq west t = absurd t

north_eq : (d : Dir) → T (goes_north d) → d ≡ north
north_eq still t = absurd t
north_eq south t = absurd t
north_eq north t = refl
north_eq east t = absurd t
north_eq west t = absurd t

abbrev all_Dir : (Dir → Bool) → Bool
all_Dir f = f still && (f south && (f north && (f east && f west)))

abbrev all_Bool : (Bool → Bool) → Bool
all_Bool f = f true && f false

at_Dir : (f : Dir → Bool) → T (all_Dir f) → (d : Dir) → T (f d)
at_Dir f t still = and_left (f still) _ t
at_Dir f t south = and_left (f south) _ (and_right (f still) _ t)
at_Dir f t north = and_left (f north) _ (and_right (f south) _ (and_right (f still) _ t))
at_Dir f t east = and_left (f east) _ (and_right (f north) _ (and_right (f south) _ (and_right (f still) _ t)))
at_Dir f t west = and_right (f east) _ (and_right (f north) _ (and_right (f south) _ (and_right (f still) _ t)))

at_Bool : (f : Bool → Bool) → T (all_Bool f) → (b : Bool) → T (f b)
at_Bool f t true = and_left (f true) _ t
at_Bool f t false = and_right (f true) _ t

-- a rule that facts of two processors' directions and faults imply, by one computed test
by_table : (facts rule : Dir → Bool → Dir → Bool → Bool)
    → T (all_Dir (λ d. all_Bool (λ f. all_Dir (λ d'. all_Bool (λ f'. given (facts d f d' f') (rule d f d' f'))))))
    → (d : Dir) (f : Bool) (d' : Dir) (f' : Bool) → T (facts d f d' f') → T (rule d f d' f')
by_table facts rule t d f d' f' =
    let g : Dir → Bool → Dir → Bool → Bool = λ d f d' f'. given (facts d f d' f') (rule d f d' f') in
    use_given (facts d f d' f') (rule d f d' f')
    (at_Bool (λ f'. g d f d' f')
    (at_Dir (λ d'. all_Bool (λ f'. g d f d' f'))
    (at_Bool (λ f. all_Dir (λ d'. all_Bool (λ f'. g d f d' f')))
    (at_Dir (λ d. all_Bool (λ f. all_Dir (λ d'. all_Bool (λ f'. g d f d' f')))) t d) f) d') f')

give : (a b : Bool) → (T a → T b) → T (given a b)
give true b h = h tt
give false b h = tt

-- the four facts of a path and the processor below, on directions and faults
abbrev facts : Dir → Bool → Dir → Bool → Bool
facts d f d' f' =
    given (goes_south d) (goes_south d' && not f')
    && (given (goes_south d' && not f') (goes_south d)
    && (given (goes_north d') (goes_north d && not f)
    && given (goes_north d && not f) (goes_north d')))

above_rule : (d : Dir) (f : Bool) (d' : Dir) (f' : Bool) → T (facts d f d' f') → T (above (state d f) (state d' f'))
above_rule = by_table facts (λ d f d' f'. above (state d f) (state d' f')) tt

abbrev facing : Dir → Bool → Dir → Bool → Bool
facing d f d' f' =
    given (goes_south d && goes_north d') (f && f') && given (goes_north d && goes_south d') (f && f')

beside_rule : (d : Dir) (f : Bool) (d' : Dir) (f' : Bool) → T (facing d f d' f') → T (beside (state d f) (state d' f'))
beside_rule = by_table facing (λ d f d' f'. beside (state d f) (state d' f')) tt

T_not : (b : Bool) → b ≡ false → T (not b)
T_not b e = rw e tt

not_T : (b : Bool) → T (not b) → b ≡ false
not_T true t = absurd t
not_T false t = refl

TSouth : (d : Dir) → d ≡ south → T (goes_south d)
TSouth d e = rw e tt

TNorth : (d : Dir) → d ≡ north → T (goes_north d)
TNorth d e = rw e tt

module _ (w : View) (p : Planned w) where
  vert : (x y : ℕ) → x ≤ w.rows → T (above (vertical w x y) (vertical w (suc x) y))
  vert x y b =
      let d = w.path x y in
      let f = w.faulty x y in
      let d' = w.path (suc x) y in
      let f' = w.faulty (suc x) y in
      above_rule d f d' f'
      (and_intro (given (goes_south d) (goes_south d' && not f')) _
      (give (goes_south d) (goes_south d' && not f')
      (λ t. let q = south_down w p x y b (south_eq d t) in and_intro (goes_south d') (not f') (TSouth d' q.0) (T_not f' q.1)))
      (and_intro (given (goes_south d' && not f') (goes_south d)) _
      (give (goes_south d' && not f') (goes_south d)
      (λ t. TSouth d (south_up w p x y (south_eq d' (and_left (goes_south d') (not f') t)) (not_T f' (and_right (goes_south d') (not f') t)))))
      (and_intro (given (goes_north d') (goes_north d && not f)) (given (goes_north d && not f) (goes_north d'))
      (give (goes_north d') (goes_north d && not f)
      (λ t. let q = north_up w p x y (north_eq d' t) in and_intro (goes_north d) (not f) (TNorth d q.0) (T_not f q.1)))
      (give (goes_north d && not f) (goes_north d')
      (λ t. TNorth d' (north_down w p x y (north_eq d (and_left (goes_north d) (not f) t)) (not_T f (and_right (goes_north d) (not f) t))))))))

  pub near : (x y : ℕ) → T (beside (vertical w x y) (vertical w x (suc y)))
  near x y =
      let d = w.path x y in
      let f = w.faulty x y in
      let d' = w.path x (suc y) in
      let f' = w.faulty x (suc y) in
      beside_rule d f d' f'
      (and_intro (given (goes_south d && goes_north d') (f && f')) (given (goes_north d && goes_south d') (f && f'))
      (give (goes_south d && goes_north d') (f && f')
      (λ t. let q = face w p x y (suc y) (omega arith) (south_eq d (and_left (goes_south d) (goes_north d') t)) (north_eq d' (and_right (goes_south d) (goes_north d') t)) in and_intro f f' q.0 q.1))
      (give (goes_north d && goes_south d') (f && f')
      (λ t. let q = face w p x (suc y) y (omega arith) (south_eq d' (and_right (goes_north d) (goes_south d') t)) (north_eq d (and_left (goes_north d) (goes_south d') t)) in and_intro f f' q.1 q.0)))

-- rows and columns exchanged
on_tr : (w : View) (d : Dir) (fx fy x y : ℕ) → on (transposed w) (tr d) fy fx y x ≡ on w d fx fy x y
on_tr w still fx fy x y = refl
on_tr w south fx fy x y = refl
on_tr w north fx fy x y = refl
on_tr w east fx fy x y = refl
on_tr w west fx fy x y = refl

tr_tr : (d : Dir) → tr (tr d) ≡ d
tr_tr still = refl
tr_tr south = refl
tr_tr north = refl
tr_tr east = refl
tr_tr west = refl

pub untr : (d e : Dir) → tr d ≡ e → d ≡ tr e
untr d e q = sym (tr_tr d) ∙ ap tr q

swap : (a b : Bool) → T (a && b) → T (b && a)
swap a b t = and_intro b a (and_right a b t) (and_left a b t)

covers_back : (w : View) (fx fy x y : ℕ) → T (covers (transposed w) fx fy x y) → T (covers w fy fx y x)
covers_back w fx fy x y t = rw (on_tr w (w.dir fy fx) fy fx y x) at t

on_turned : (w : View) (d : Dir) (fx fy x y : ℕ) → on (transposed w) d fx fy x y ≡ on w (tr d) fy fx y x
on_turned w still fx fy x y = refl
on_turned w south fx fy x y = refl
on_turned w north fx fy x y = refl
on_turned w east fx fy x y = refl
on_turned w west fx fy x y = refl

moving_tr : (d : Dir) → T (moving d) → T (moving (tr d))
moving_tr still t = t
moving_tr south t = tt
moving_tr north t = tt
moving_tr east t = tt
moving_tr west t = tt

-- the source of a path in the transposed view
source_tr : (w : View) (d : Dir) (x y : ℕ) → Source w (tr d) y x → Source (transposed w) d x y
source_tr w d x y s =
    record {
      row = s.col;
      col = s.row;
      is = ap tr s.is ∙ tr_tr d;
      on_it = rw (on_turned w d s.col s.row x y) s.on_it;
    }

source_back : (w : View) (d : Dir) (x y : ℕ) → Source (transposed w) d x y → Source w (tr d) y x
source_back w d x y s =
    record {
      row = s.col;
      col = s.row;
      is = untr (w.dir s.col s.row) d s.is;
      on_it = rw (on_turned w d s.row s.col x y) at s.on_it;
    }

pub transposed_plan : (w : View) → Planned w → Planned (transposed w)
transposed_plan w p =
    record {
      only = λ x y h. let q = p.only y x (λ e. h (ap tr e)) in (swap (leb 1 y && leb y w.rows) (leb 1 x && leb x w.cols) q.0, q.1);
      each = λ x y i f e. p.each y x (swap (leb 1 x && leb x w.cols) (leb 1 y && leb y w.rows) i) f (untr (w.dir y x) still e);
      open_path = λ fx fy x y c f. let q = p.open_path fy fx y x (covers_back w fx fy x y c) f in (q.1, q.0);
      source = λ d x y m e. source_tr w d x y (p.source (tr d) y x (moving_tr d m) (untr (w.path y x) d e));
      path_of = λ d x y s. ap tr (p.path_of (tr d) y x (source_back w d x y s)) ∙ tr_tr d;
      no_near_miss = λ fx fy gx gy e f a b. p.no_near_miss_across fy fx gy gx (untr (w.dir fy fx) south e) (untr (w.dir gy gx) north f) a b;
      no_near_miss_across = λ fx fy gx gy e f a b. p.no_near_miss fy fx gy gx (untr (w.dir fy fx) east e) (untr (w.dir gy gx) west f) a b;
    }

pub plan_rules : (w : View) → Planned w → Rules w
plan_rules w p =
    record {
      vert = λ x y a b c. vert w p x y c;
      near = λ x y a b c d. near w p x y;
      horiz = λ x y a b c. vert (transposed w) (transposed_plan w p) y x c;
      alive = λ x y a b c d f e. covered w p x y (rw (inner_between w.rows w.cols x y a b c d) tt) (rw f tt) e;
    }
