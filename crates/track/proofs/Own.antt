-- The link that a port of the track belongs to, and that the ports of a crossing belong to its row of cells.
-- Assumes nothing.
use Prim.Native.Nat.{ℕ, zero, suc}
use mathlib.Core.Path.{◌≡◌, refl}
use mathlib.Core.List.{List, [], ◌∷◌}
use mathlib.Core.Bool.{Bool, true, false}
use lib.Dec.{T}
use Rattle.track.proofs.View.{Dir, still, south, north, east, west, View}
use Rattle.track.specs.declared.ports.Compass.{Compass}
use Rattle.track.specs.declared.ports.Compass.TheVariants.{W, E, N, S}
use Rattle.track.proofs.Walks.{State, v0, v1, v2, v3, v4, Letter, sa, sb, sc, sd, no_switch, Run, switch, fault, enters, unjoined_at, lost, too_long, Place, before, vertical, across, placed, link}
use Rattle.track.proofs.Cross.{Rel, top, mid, bot, row, leads}
use Rattle.track.proofs.Runs.{is_eq₂, is_eq₃, run}

-- a port of an across switch, or of a processor
pub data Ref : Type 0 where
  of_switch : ℕ → ℕ → Compass → Ref
  of_processor : ℕ → ℕ → Compass → Ref

-- the ports that a run goes by, in order
abbrev pub ports : Run → List Ref
ports (switch x y p q r) = of_switch x y p ∷ of_switch x y q ∷ ports r
ports (fault x y p q r) = of_processor x y p ∷ of_processor x y q ∷ ports r
ports (enters x y p) = of_processor x y p ∷ []
ports (unjoined_at x y) = []
ports lost = []
ports (too_long x y) = []

abbrev pub link_ports : View → ℕ → ℕ → List Ref
link_ports w i j = of_processor (placed w i j).row (placed w i j).col E ∷ ports (link w i j)

-- the row of the cell whose line runs by the E or W port of a processor in row x
abbrev pub line_of : State → ℕ → ℕ
line_of v0 x = x
line_of v1 x = before x
line_of v2 x = zero
line_of v3 x = zero
line_of v4 x = suc x

abbrev pub by_north : Letter → ℕ → ℕ → ℕ → ℕ
by_north sa west-line east-line x = x
by_north sb west-line east-line x = zero
by_north sc west-line east-line x = east-line
by_north sd west-line east-line x = west-line
by_north no_switch west-line east-line x = zero

abbrev pub by_south : Letter → ℕ → ℕ → ℕ → ℕ
by_south sa west-line east-line x = x
by_south sb west-line east-line x = zero
by_south sc west-line east-line x = west-line
by_south sd west-line east-line x = east-line
by_south no_switch west-line east-line x = zero

abbrev pub line : (ℕ → ℕ → Letter) → (ℕ → ℕ → State) → ℕ → ℕ → Compass → ℕ
line L Q x y W = line_of (Q x y) x
line L Q x y E = line_of (Q x (suc y)) x
line L Q x y N = by_north (L x y) (line_of (Q x y) x) (line_of (Q x (suc y)) x) x
line L Q x y S = by_south (L x y) (line_of (Q x y) x) (line_of (Q x (suc y)) x) x

-- of the links of a line, the one that runs through channel y
abbrev pub stretch_of : Dir → Bool → ℕ → ℕ
stretch_of still b y = y
stretch_of south b y = y
stretch_of north b y = y
stretch_of east b y = before y
stretch_of west true y = y
stretch_of west false y = suc y

abbrev pub stretch : View → ℕ → ℕ → ℕ
stretch w i y = stretch_of (w.path i y) (w.faulty i y) y

abbrev pub name : ℕ → ℕ → Place
name i j = record { row = i; col = j }

abbrev pub owner_at : View → ℕ → ℕ → Compass → Place
owner_at w x y p =
    name (line (across w) (vertical w) x y p) (stretch w (line (across w) (vertical w) x y p) y)

-- the cell whose east link may go by a port
abbrev pub owner : View → Ref → Place
owner w (of_switch x y p) = owner_at w x y p
owner w (of_processor x y E) = owner_at w x y W
owner w (of_processor x zero W) = name zero zero
owner w (of_processor x (suc y) W) = owner_at w x y E
owner w (of_processor x y N) = name zero zero
owner w (of_processor x y S) = name zero zero

abbrev pub All : (Ref → Type 0) → List Ref → Type 0
All P [] = Unit {0}
All P (a ∷ rest) = P a × All P rest

abbrev pub Owned : View → ℕ → ℕ → List Ref → Type 0
Owned w i j refs = All (λ a. owner w a ≡ name i j) refs

pub owned_at : (w : View) (i j x y : ℕ) (p : Compass) → line (across w) (vertical w) x y p ≡ i → stretch w i y ≡ j → owner_at w x y p ≡ name i j
owned_at w i j x y p e s = rw e (rw s refl)

-- a line through a channel
module _
    (w : View)
    (k j y : ℕ)
    (rest : Run)
    (s : stretch w (suc k) y ≡ j)
    (owned : Owned w (suc k) j (ports rest))
  where
    abbrev pub Line : ℕ → Compass → Type 0
    Line x p = line (across w) (vertical w) x y p ≡ suc k

    own : (x : ℕ) (p : Compass) → Line x p → owner_at w x y p ≡ name (suc k) j
    own x p e = owned_at w (suc k) j x y p e s

    pub owns :
        (p q : Rel) →
        T (leads p q (across w k y) (across w (suc k) y) (across w (suc (suc k)) y)) →
        Line (row k p) W → Line (row k q) E →
        Owned w (suc k) j (ports (run k y p q rest))
    owns top top t a b = (own k W a, (own k E b, owned))
    owns top mid t a b =
        let e = is_eq₂ (across w k y) sc (across w (suc k) y) sc t in
        (own k W a, (own k S (rw e.0 a), (own (suc k) N (rw e.1 b), (own (suc k) E b, owned))))
    owns top bot t a b =
        let e = is_eq₃ (across w k y) sc (across w (suc k) y) sa (across w (suc (suc k)) y) sc t in
        (own k W a, (own k S (rw e.0 a), (own (suc k) N (rw e.1 refl), (own (suc k) S (rw e.1 refl), (own (suc (suc k)) N (rw e.2 b), (own (suc (suc k)) E b, owned))))))
    owns mid top t a b =
        let e = is_eq₂ (across w (suc k) y) sd (across w k y) sd t in
        (own (suc k) W a, (own (suc k) N (rw e.0 a), (own k S (rw e.1 b), (own k E b, owned))))
    owns mid mid t a b = (own (suc k) W a, (own (suc k) E b, owned))
    owns mid bot t a b =
        let e = is_eq₂ (across w (suc k) y) sc (across w (suc (suc k)) y) sc t in
        (own (suc k) W a, (own (suc k) S (rw e.0 a), (own (suc (suc k)) N (rw e.1 b), (own (suc (suc k)) E b, owned))))
    owns bot top t a b =
        let e = is_eq₃ (across w (suc (suc k)) y) sd (across w (suc k) y) sa (across w k y) sd t in
        (own (suc (suc k)) W a, (own (suc (suc k)) N (rw e.0 a), (own (suc k) S (rw e.1 refl), (own (suc k) N (rw e.1 refl), (own k S (rw e.2 b), (own k E b, owned))))))
    owns bot mid t a b =
        let e = is_eq₂ (across w (suc (suc k)) y) sd (across w (suc k) y) sd t in
        (own (suc (suc k)) W a, (own (suc (suc k)) N (rw e.0 a), (own (suc k) S (rw e.1 b), (own (suc k) E b, owned))))
    owns bot bot t a b = (own (suc (suc k)) W a, (own (suc (suc k)) E b, owned))
