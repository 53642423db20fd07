-- Document 01, "The bench program": the bytes of the listing of a map file, from the bytes of the file alone; with any of
-- the planners (document 02, T-05, and the exact one). Assumes nothing.
use Rattle.std.specs.Prelude.{ℕ, zero, suc, ◌+◌, ◌/◌, ◌%◌, ◌≤◌, ◌≡◌, cond, List, [], ◌∷◌, ◌++◌, ltb, eqb, length, get_or, Ok, Err}
use Rattle.array.specs.Place.{row, column, inner}
use Rattle.array.specs.Buffer.{zeros}
use Rattle.array.specs.Map.{inner_faulty}
use Rattle.array.specs.Reason.{number_of}
use Rattle.array.specs.declared.Refusal.{Refusal}
use Rattle.paths.specs.Path.{by_direction}
use Rattle.trials.specs.declared.Outcome.{Outcome}
use Rattle.trials.specs.declared.Outcome.TheVariants.{Repaired, Beyond, Spent}
use Rattle.exact.specs.declared.Decision.{Decision}
use Rattle.exact.specs.declared.Decision.TheVariants as decision
use Rattle.repair.specs.Operations.{kept_by, left_by, planned_by, answer_by, buffer_by, plan_by, directions_by}
use Rattle.repair.specs.Operations.{places_after, across_after, down_after}
use Rattle.repair.specs.declared.Planner.{Planner}
use Rattle.repair.specs.declared.Answer.{Answer}
use Rattle.repair.specs.declared.Answer.TheVariants as answer
use Rattle.readers.specs.Reading.{read_map, MapRead}
use Rattle.readers.specs.declared.Head.{Head}
use Rattle.writers.specs.Writing.{room_test, put, FileWritten}

-- the bytes f p x of each element x at index p, from i on, one after the other
unfoldable pub along : (ℕ → ℕ → List ℕ) → ℕ → List ℕ → List ℕ
along f i [] = []
along f i (x ∷ xs) = f i x ++ along f (suc i) xs

-- the ASCII byte of the last decimal digit of a number
abbrev pub last_digit : ℕ → ℕ
last_digit v = 48 + v % 10

-- the decimal digits of a number that has at most k + 1 of them
unfoldable pub digits : ℕ → ℕ → List ℕ
digits zero v = last_digit v ∷ []
digits (suc k) v = cond (ltb v 10) (last_digit v ∷ []) (digits k (v / 10) ++ (last_digit v ∷ []))

-- a space and a number; one of 64 bits has at most 20 digits
abbrev pub field : ℕ → ℕ → List ℕ
field i v = 32 ∷ digits 19 v

-- a line: a word, numbers and an end
unfoldable pub line : List ℕ → List ℕ → List ℕ → List ℕ
line word values end = word ++ (along field 0 values ++ end)

-- the end of most lines
abbrev pub newline : List ℕ
newline = 10 ∷ []

-- the words that lines begin with, in ASCII; "across" and "down" with the space behind them
abbrev pub map_word : List ℕ
map_word = 109 ∷ 97 ∷ 112 ∷ []

abbrev pub repaired_word : List ℕ
repaired_word = 114 ∷ 101 ∷ 112 ∷ 97 ∷ 105 ∷ 114 ∷ 101 ∷ 100 ∷ []

abbrev pub beyond_word : List ℕ
beyond_word = 98 ∷ 101 ∷ 121 ∷ 111 ∷ 110 ∷ 100 ∷ []

abbrev pub spent_word : List ℕ
spent_word = 115 ∷ 112 ∷ 101 ∷ 110 ∷ 116 ∷ []

abbrev pub refused_word : List ℕ
refused_word = 114 ∷ 101 ∷ 102 ∷ 117 ∷ 115 ∷ 101 ∷ 100 ∷ []

abbrev pub path_word : List ℕ
path_word = 112 ∷ 97 ∷ 116 ∷ 104 ∷ []

abbrev pub cell_word : List ℕ
cell_word = 99 ∷ 101 ∷ 108 ∷ 108 ∷ []

abbrev pub across_word : List ℕ
across_word = 97 ∷ 99 ∷ 114 ∷ 111 ∷ 115 ∷ 115 ∷ 32 ∷ []

abbrev pub down_word : List ℕ
down_word = 100 ∷ 111 ∷ 119 ∷ 110 ∷ 32 ∷ []

-- S, N, E or W; a space for no direction, which no inner fault of a plan has
abbrev pub direction_letter : ℕ → ℕ
direction_letter d = by_direction d 83 78 69 87 32

-- "path", row, column, direction letter
unfoldable pub path_line : ℕ → ℕ → List ℕ
path_line p d = line path_word (row p ∷ column p ∷ []) (32 ∷ direction_letter d ∷ 10 ∷ [])

-- "cell", i, j, and the row and the column of the position q that holds the cell
unfoldable pub cell_line : ℕ → ℕ → List ℕ
cell_line p q = line cell_word (row p ∷ column p ∷ row q ∷ column q ∷ []) newline

-- of a position, by its mark in the grid: its path where it is an inner fault
abbrev pub fault_bytes : ℕ → ℕ → List ℕ → ℕ → ℕ → List ℕ
fault_bytes n m directions p mark = cond (inner_faulty n m p mark) (path_line p (get_or directions p 0)) []

-- of a position, by its element of the placement: its cell where it is inner
abbrev pub seat_bytes : ℕ → ℕ → ℕ → ℕ → List ℕ
seat_bytes n m p q = cond (inner n m p) (cell_line p q) []

-- of a position, by its element of a switch buffer: the letter where a switch is
abbrev pub letter_bytes : ℕ → ℕ → List ℕ
letter_bytes p v = cond (eqb v 0) [] (v ∷ [])

-- a word and the letters of a switch buffer
unfoldable pub switch_line : List ℕ → List ℕ → List ℕ
switch_line word switches = word ++ (along letter_bytes 0 switches ++ newline)

-- the lines of a plan, by its buffers: the paths and the cells in row order, then "across " and "down " with their switches
unfoldable pub plan_lines : ℕ → ℕ → List ℕ → List ℕ → List ℕ → List ℕ → List ℕ → List ℕ
plan_lines n m grid directions places across down =
    along (fault_bytes n m directions) 0 grid
    ++ (along (seat_bytes n m) 0 places
    ++ (switch_line across_word across
    ++ switch_line down_word down))

-- the same with the plan's placement and switches, for which blank buffers are lent
unfoldable pub repair_lines : ℕ → ℕ → List ℕ → List ℕ → List ℕ
repair_lines n m grid directions =
    plan_lines n m grid directions (places_after n m grid directions zeros) (across_after n m grid directions zeros zeros)
    (down_after n m grid directions zeros zeros)

-- "repaired" with what follows, "beyond" or "spent"
unfoldable pub outcome_lines : ℕ → ℕ → List ℕ → List ℕ → Outcome → List ℕ
outcome_lines n m grid directions (Repaired t) =
    line repaired_word (t ∷ []) newline ++ repair_lines n m grid directions
outcome_lines n m grid directions (Beyond t) = line beyond_word (t ∷ []) newline
outcome_lines n m grid directions (Spent limit) = line spent_word (limit ∷ []) newline

-- the same of the exact planner: "repaired" with what follows, or "beyond", without a count
unfoldable pub decision_lines : ℕ → ℕ → List ℕ → List ℕ → Decision → List ℕ
decision_lines n m grid directions decision.Repaired = (repaired_word ++ newline) ++ repair_lines n m grid directions
decision_lines n m grid directions decision.Beyond = beyond_word ++ newline

-- "refused", number, place
unfoldable pub refusal_line : Refusal → List ℕ
refusal_line r = line refused_word (number_of r.reason ∷ r.place ∷ []) newline

-- "map", N, M, all faults
unfoldable pub head_line : Head → List ℕ
head_line head = line map_word (head.rows ∷ head.columns ∷ head.count ∷ []) newline

-- the limit of the trials
abbrev pub limit : ℕ
limit = 1000000

-- the lines after the first, by a planner's answer and the directions that it leaves; none for a refusal
abbrev pub answer_lines : ℕ → ℕ → List ℕ → List ℕ → Answer → List ℕ
answer_lines n m grid directions (answer.Planned o) = outcome_lines n m grid directions o
answer_lines n m grid directions (answer.Decided d) = decision_lines n m grid directions d
answer_lines n m grid directions (answer.Refused r) = []

-- the directions that a planner leaves in a blank buffer
abbrev pub left_by_planner : Planner → Head → List ℕ → List ℕ
left_by_planner pl head grid = directions_by pl head.rows head.columns grid zeros limit

-- a map that was read, by the planner's answer; blank buffers are lent
unfoldable pub map_lines : Planner → Head → List ℕ → Answer → List ℕ
map_lines pl head grid (answer.Planned o) =
    head_line head ++ answer_lines head.rows head.columns grid (left_by_planner pl head grid) (answer.Planned o)
map_lines pl head grid (answer.Decided d) =
    head_line head ++ answer_lines head.rows head.columns grid (left_by_planner pl head grid) (answer.Decided d)
map_lines pl head grid (answer.Refused r) = refusal_line r

-- the same with what the planner does answer
abbrev pub planned_lines : Planner → Head → List ℕ → List ℕ
planned_lines pl head grid = map_lines pl head grid (plan_by pl head.rows head.columns grid zeros limit)

-- a map file, by what the reader answers
unfoldable pub file_lines : Planner → MapRead × List ℕ → List ℕ
file_lines pl (Ok head, grid) = planned_lines pl head grid
file_lines pl (Err r, grid) = refusal_line r

-- the listing of a map file
unfoldable pub listing : Planner → List ℕ → List ℕ
listing pl s = file_lines pl (read_map s zeros)

-- what `report`, `report_quickly` and `report_exactly` answer, with the buffer afterwards: the listing's length, the bytes after it kept;
-- 14 where there is no room
abbrev pub reported : Planner → List ℕ → List ℕ → FileWritten × List ℕ
reported pl s out = put (room_test (listing pl s) out) (listing pl s) out

-- the statement that a buffer of 32,768 bytes has room for every listing
abbrev pub ListingFits : Type 0
ListingFits = (pl : Planner) (s : List ℕ) → length (listing pl s) ≤ 32768

-- the lines of a map by the trials of its planner, or by those that the exact planner decides without making them
abbrev pub trial_lines : Planner → Head → List ℕ → List ℕ
trial_lines pl head grid =
    let n = head.rows in
    let m = head.columns in
    answer_lines n m grid
    (buffer_by pl limit (kept_by pl n m grid) (left_by pl n m grid) (planned_by pl n m grid))
    (answer_by pl limit (planned_by pl n m grid))

-- the statement that a map that was read is planned, never refused: its lines are the first one and those of the planner's answer
abbrev pub MapsListed : Type 0
MapsListed =
    (pl : Planner) (s grid : List ℕ) (head : Head) → read_map s zeros ≡ (Ok head, grid)
    → listing pl s ≡ head_line head ++ trial_lines pl head grid
