-- Document 01, "Placement and routing": routing states, the table of letters, and the two switch buffers.
-- Document 003 (Kung, Jean, Chang, "Fault-Tolerant Array Processors Using Single-Track Switches"): the states are its Table I,
-- the letters its Table II.
-- Assumes nothing.
use Rattle.std.specs.Prelude.{ℕ, ◌+◌, ◌*◌, Bool, cond, ◌&&◌, List, [], ◌∷◌, leb, eqb, get_or}
use Rattle.array.specs.Place.{row, column, processor_at}
use Rattle.array.specs.Buffer.{buffer}
use Rattle.array.specs.Map.{faulty}
use Rattle.plans.specs.Faults.{directed_faults}
use Rattle.plans.specs.declared.Fault.{Fault}
use Rattle.track.specs.Placement.{through}

-- The vertical routing state (VRS, Table I), from the direction of the path through a processor and whether it is faulty: 0 on no
-- vertical path; 1 healthy, 2 faulty on a south path; 3 faulty, 4 healthy on a north path.
abbrev pub vertical : ℕ → Bool → ℕ
vertical d fault = cond (eqb d 1) (cond fault 2 1) (cond (eqb d 2) (cond fault 3 4) 0)

-- the horizontal one (HRS): transposing takes east to south and west to north
abbrev pub horizontal : ℕ → Bool → ℕ
horizontal d fault = cond (eqb d 3) (cond fault 2 1) (cond (eqb d 4) (cond fault 3 4) 0)

-- ASCII
abbrev pub a : ℕ
a = 97

abbrev pub b : ℕ
b = 98

abbrev pub c : ℕ
c = 99

abbrev pub d : ℕ
d = 100

-- the mark x, as document 01 prints it: no letter of a switch
abbrev pub x : ℕ
x = 120

-- the table (Table II): west states 0 to 4 downward, east states 0 to 4 along each row
unfoldable pub letters : List ℕ
letters =
    b ∷ c ∷ c ∷ d ∷ d
    ∷ d ∷ b ∷ d ∷ x ∷ x
    ∷ d ∷ c ∷ x ∷ a ∷ x
    ∷ c ∷ x ∷ a ∷ x ∷ d
    ∷ c ∷ x ∷ x ∷ c ∷ b
    ∷ []

-- the entry by west and east state, each 0 to 4; of a down switch, by upper and lower state
unfoldable pub entry : ℕ → ℕ → ℕ
entry west east = get_or letters (west * 5 + east) 0

-- the letter that is written: the entry, and b at x
unfoldable pub letter : ℕ → ℕ → ℕ
letter west east = cond (eqb (entry west east) x) b (entry west east)

-- an across switch (SW2 in document 003) stands between two processors of a row, and is filed under the left one
abbrev pub across_exists : ℕ → ℕ → ℕ → ℕ → Bool
across_exists n m x y = processor_at n m x y && processor_at n m x (y + 1)

-- a down switch (SW1) stands between two of a column, and is filed under the upper one
abbrev pub down_exists : ℕ → ℕ → ℕ → ℕ → Bool
down_exists n m x y = processor_at n m x y && processor_at n m (x + 1) y

-- the routing states of the processor at p
abbrev pub vertical_at : ℕ → ℕ → List ℕ → List Fault → ℕ → ℕ
vertical_at n m grid fs p = vertical (through n m fs p) (faulty grid p)

abbrev pub horizontal_at : ℕ → ℕ → List ℕ → List Fault → ℕ → ℕ
horizontal_at n m grid fs p = horizontal (through n m fs p) (faulty grid p)

-- an ASCII letter where a switch is, else 0
abbrev pub across_at : ℕ → ℕ → List ℕ → List Fault → ℕ → ℕ
across_at n m grid fs p =
    cond (across_exists n m (row p) (column p))
    (letter (vertical_at n m grid fs p) (vertical_at n m grid fs (p + 1))) 0

abbrev pub down_at : ℕ → ℕ → List ℕ → List Fault → ℕ → ℕ
down_at n m grid fs p =
    cond (down_exists n m (row p) (column p))
    (letter (horizontal_at n m grid fs p) (horizontal_at n m grid fs (p + 32))) 0

-- the whole switch buffers
unfoldable pub across_letters : ℕ → ℕ → List ℕ → List ℕ → List ℕ
across_letters n m grid directions = buffer (across_at n m grid (directed_faults n m grid directions))

unfoldable pub down_letters : ℕ → ℕ → List ℕ → List ℕ → List ℕ
down_letters n m grid directions = buffer (down_at n m grid (directed_faults n m grid directions))

-- the bytes that a switch buffer's position allows
abbrev pub switch_byte : Bool → ℕ → Bool
switch_byte exists byte = cond exists (leb a byte && leb byte d) (eqb byte 0)
