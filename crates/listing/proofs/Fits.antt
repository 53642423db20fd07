-- The listing of any file has at most 32,768 bytes.
-- Assumes nothing.
use Rattle.std.specs.Prelude.{Ok, Err}
use Prim.Native.Nat.{ℕ, zero, suc, ◌+◌, ◌-◌, ◌*◌, ◌/◌, ◌%◌, ◌<◌, ◌≤◌}
use mathlib.Core.Path.{◌≡◌, refl, sym, ap, subst, ◌∙◌}
use mathlib.Core.Bool.{Bool, true, false, true≢false}
use mathlib.Core.List.{List, [], ◌∷◌, ◌++◌}
use native.Mathlib.Nat.{zero-add, add-zero, add-suc, suc-add, mul-suc}
use native.Mathlib.Omega.{arith}
use borrow.Author.Tests.{lt-ltb, le-ltb, eqb-true}
use lib.Dec.{eqb}
use lib.ListN.{length, get_or, length-append}
use Rattle.array.specs.Place.{row, column, inner}
use Rattle.array.specs.Buffer.{nothing_at, zeros, long, all_long, written}
use Rattle.array.specs.Map.{inner_faulty}
use Rattle.array.specs.Reason.{number_of}
use Rattle.array.specs.declared.Refusal.{Refusal}
use Rattle.array.specs.Tests.{Verdict}
use Rattle.array.proofs.Bools.{and_true, by_bool, by_lt}
use Rattle.array.proofs.Places.{Sized, inner_holds}
use Rattle.array.proofs.Maps.{AcceptedMap, map_accepted}
use Rattle.array.proofs.Fills.{tabulate_at}
use Rattle.trials.specs.declared.Outcome.{Outcome}
use Rattle.trials.specs.declared.Outcome.TheVariants.{Repaired, Beyond, Spent}
use Rattle.exact.specs.declared.Decision.{Decision}
use Rattle.exact.specs.declared.Decision.TheVariants as decision
use Rattle.track.specs.Placement.{placement}
use Rattle.repair.specs.Operations.{plan_by, answer_after}
use Rattle.repair.specs.Operations.{place_cells, places_after, across_after, down_after}
use Rattle.repair.specs.declared.Planner.{Planner}
use Rattle.repair.specs.declared.Answer.{Answer}
use Rattle.repair.proofs.Cells.{cell_low, placement_at, seat_low}
use Rattle.readers.specs.Reading.{read_map, MapRead}
use Rattle.readers.specs.declared.Head.{Head}
use Rattle.listing.specs.Listing.{along, digits, field, line, newline, map_word, repaired_word, beyond_word, spent_word, refused_word, path_word, cell_word, across_word, down_word, direction_letter, path_line, cell_line, fault_bytes, seat_bytes, letter_bytes, switch_line, plan_lines, repair_lines, outcome_lines, refusal_line, head_line, limit, map_lines, file_lines, listing, ListingFits}
use Rattle.listing.specs.Listing.{decision_lines, answer_lines, left_by_planner}
use Rattle.listing.proofs.Buffers.{places_long, across_long, down_long}
use Rattle.repair.specs.declared.Answer.TheVariants as answer

-- at most k bytes at a position, and none at those below z
abbrev Few : ℕ → ℕ → ℕ → List ℕ → Type 0
Few z k p bytes = (length bytes ≤ k) × (p < z → length bytes ≡ 0)

-- so the bytes along a list are few
along_few :
    (f : ℕ → ℕ → List ℕ) (z k i : ℕ) (xs : List ℕ) →
    ((j : ℕ) → j < length xs → Few z k (i + j) (f (i + j) (get_or xs j 0))) →
    length (along f i xs) ≤ k * (length xs - (z - i))
unfolding along
along_few f z k i [] h = omega arith
along_few f z k i (x ∷ xs) h =
    let ih = along_few f z k (suc i) xs (λ j l.
    subst (λ (y : ℕ). Few z k y (f y (get_or xs j 0))) (add-suc i j ∙ sym (suc-add i j)) (h (suc j) (omega arith))) in
    let e = length-append (f i x) (along f (suc i) xs) in
    let g : Few z k i (f i x) = rw (add-zero i) at (h 0 (omega arith)) in
    let l : length (f i x) ≤ k = g.0 in
    by_lt i z
    (λ u.
    let o : length (f i x) ≡ 0 = g.1 u in
    let q : k * (length (x ∷ xs) - (z - i)) ≡ k * (length xs - (z - suc i)) = ap (λ (y : ℕ). k * y) (omega arith) in
    omega arith)
    (λ u.
    let q : k * (length (x ∷ xs) - (z - i)) ≡ k * suc (length xs - (z - suc i)) = ap (λ (y : ℕ). k * y) (omega arith) in
    let w = mul-suc k (length xs - (z - suc i)) in
    omega arith)

-- digits and fields
digits_most : (k v : ℕ) → length (digits k v) ≤ suc k
unfolding digits
digits_most zero v = omega arith
digits_most (suc k) v =
    by_lt v 10 (λ h. rw (lt-ltb v 10 h) (omega arith))
    (λ h. rw (le-ltb v 10 h) (omega (arith, length-append (digits k (v / 10)) ((48 + v % 10) ∷ []), digits_most k (v / 10))))

digits_one : (k v : ℕ) → v < 10 → length (digits k v) ≡ 1
unfolding digits
digits_one zero v h = refl
digits_one (suc k) v h = rw (lt-ltb v 10 h) refl

digits_two : (k v : ℕ) → v < 100 → length (digits (suc k) v) ≤ 2
unfolding digits
digits_two k v h =
    by_lt v 10 (λ l. rw (lt-ltb v 10 l) (omega arith))
    (λ l. rw (le-ltb v 10 l) (omega (arith, length-append (digits k (v / 10)) ((48 + v % 10) ∷ []), digits_one k (v / 10) (omega arith))))

fields_cons : (i v : ℕ) (vs : List ℕ) → length (along field i (v ∷ vs)) ≡ suc (length (digits 19 v)) + length (along field (suc i) vs)
unfolding along
fields_cons i v vs = length-append (field i v) (along field (suc i) vs)

fields_nil : (i : ℕ) → length (along field i []) ≡ 0
unfolding along
fields_nil i = refl

line_length : (word values end : List ℕ) → length (line word values end) ≡ length word + (length (along field 0 values) + length end)
unfolding line
line_length word values end =
    omega (arith, length-append word (along field 0 values ++ end), length-append (along field 0 values) end)

count_short : (word : List ℕ) (t : ℕ) → length (line word (t ∷ []) newline) ≤ length word + 22
count_short word t =
    omega (arith, line_length word (t ∷ []) newline, fields_cons 0 t [], fields_nil 1, digits_most 19 t)

path_short : (p d : ℕ) → p < 1024 → length (path_line p d) ≤ 13
unfolding path_line
path_short p d h =
    omega (
      arith,
      line_length path_word (row p ∷ column p ∷ []) (32 ∷ direction_letter d ∷ 10 ∷ []),
      fields_cons 0 (row p) (column p ∷ []),
      fields_cons 1 (column p) [],
      fields_nil 2,
      digits_two 18 (row p) (omega arith),
      digits_two 18 (column p) (omega arith),
    )

cell_short : (p q : ℕ) → p < 1024 → q < 1024 → length (cell_line p q) ≤ 17
unfolding cell_line
cell_short p q h l =
    omega (
      arith,
      line_length cell_word (row p ∷ column p ∷ row q ∷ column q ∷ []) newline,
      fields_cons 0 (row p) (column p ∷ row q ∷ column q ∷ []),
      fields_cons 1 (column p) (row q ∷ column q ∷ []),
      fields_cons 2 (row q) (column q ∷ []),
      fields_cons 3 (column q) [],
      fields_nil 4,
      digits_two 18 (row p) (omega arith),
      digits_two 18 (column p) (omega arith),
      digits_two 18 (row q) (omega arith),
      digits_two 18 (column q) (omega arith),
    )

-- what a position gives
fault_few : (n m : ℕ) (directions : List ℕ) (p mark : ℕ) → p < 1024 → Few 32 13 p (fault_bytes n m directions p mark)
fault_few n m directions p mark h =
    by_bool (inner_faulty n m p mark)
    (λ t.
    let i = inner_holds n m p (and_true (inner n m p) _ t).0 in
    rw t (path_short p (get_or directions p 0) h, λ u. absurd (omega (arith, i.row_low))))
    (λ t. rw t (omega arith, λ u. refl))

seat_few : (n m p q : ℕ) → p < 1024 → (inner n m p ≡ true → q < 1024) → Few 32 17 p (seat_bytes n m p q)
seat_few n m p q h l =
    by_bool (inner n m p)
    (λ t.
    let i = inner_holds n m p t in
    rw t (cell_short p q h (l t), λ u. absurd (omega (arith, i.row_low))))
    (λ t. rw t (omega arith, λ u. refl))

letter_few : (p v : ℕ) → Few 0 1 p (letter_bytes p v)
letter_few p v =
    by_bool (eqb v 0) (λ t. rw t (omega arith, λ u. absurd (omega arith))) (λ t. rw t (omega arith, λ u. absurd (omega arith)))

switches_short : (word switches : List ℕ) → length switches ≡ 1024 → length (switch_line word switches) ≤ length word + 1025
unfolding switch_line
switches_short word switches l =
    let a : length (along letter_bytes 0 switches) ≤ 1 * (length switches - (0 - 0)) =
    along_few letter_bytes 0 1 0 switches (λ j h. letter_few (0 + j) (get_or switches j 0)) in
    omega (arith, length-append word (along letter_bytes 0 switches ++ newline), length-append (along letter_bytes 0 switches) newline)

written_low : (v : Verdict) (new : List ℕ) (p : ℕ) → p < 1024 → get_or new p 0 < 1024 → get_or (written v new zeros) p 0 < 1024
written_low (Ok tt) new p h l = l
written_low (Err r) new p h l = omega (arith, tabulate_at nothing_at 1024 p 0 h)

-- the lines of a map that passed its tests
module _ (n m : ℕ) (grid directions : List ℕ) (s : Sized n m) (l : length grid ≡ 1024) where
  place_low : (p : ℕ) → p < 1024 → inner n m p ≡ true → get_or (places_after n m grid directions zeros) p 0 < 1024
  unfolding places_after
  place_low p h i =
      let b = seat_low n m grid directions p (cell_low n m p s.rows_high s.columns_high i) in
      written_low (place_cells n m grid directions zeros) (placement n m grid directions) p h (omega (arith, placement_at n m grid directions p h i))

  paths_short : length (along (fault_bytes n m directions) 0 grid) ≤ 12896
  paths_short =
      let a : length (along (fault_bytes n m directions) 0 grid) ≤ 13 * (length grid - (32 - 0)) =
      along_few (fault_bytes n m directions) 32 13 0 grid
      (λ j h. fault_few n m directions (0 + j) (get_or grid j 0) (omega arith)) in
      omega arith

  cells_short : length (along (seat_bytes n m) 0 (places_after n m grid directions zeros)) ≤ 16864
  cells_short =
      let places : List ℕ = places_after n m grid directions zeros in
      let e : length places ≡ 1024 = places_long n m grid directions in
      let a : length (along (seat_bytes n m) 0 places) ≤ 17 * (length places - (32 - 0)) =
      along_few (seat_bytes n m) 32 17 0 places
      (λ j h.
      seat_few n m (0 + j) (get_or places j 0) (omega arith)
      (λ t. place_low j (omega arith) (ap (λ (p : ℕ). inner n m p) (sym (zero-add j)) ∙ t))) in
      omega arith

  repair_short : length (repair_lines n m grid directions) ≤ 31822
  unfolding repair_lines plan_lines
  repair_short =
      let a = along (fault_bytes n m directions) 0 grid in
      let b = along (seat_bytes n m) 0 (places_after n m grid directions zeros) in
      let d = switch_line across_word (across_after n m grid directions zeros zeros) in
      let e = switch_line down_word (down_after n m grid directions zeros zeros) in
      omega (
        arith,
        length-append a (b ++ (d ++ e)),
        length-append b (d ++ e),
        length-append d e,
        paths_short,
        cells_short,
        switches_short across_word (across_after n m grid directions zeros zeros) (across_long n m grid directions),
        switches_short down_word (down_after n m grid directions zeros zeros) (down_long n m grid directions),
      )

  outcome_short : (o : Outcome) → length (outcome_lines n m grid directions o) ≤ 31900
  unfolding outcome_lines
  outcome_short (Repaired t) =
      omega (
        arith,
        length-append (line repaired_word (t ∷ []) newline) (repair_lines n m grid directions),
        count_short repaired_word t,
        repair_short,
      )
  outcome_short (Beyond t) = omega (arith, count_short beyond_word t)
  outcome_short (Spent t) = omega (arith, count_short spent_word t)

  decision_short : (d : Decision) → length (decision_lines n m grid directions d) ≤ 31900
  unfolding decision_lines
  decision_short decision.Repaired =
      omega (arith, length-append (repaired_word ++ newline) (repair_lines n m grid directions), repair_short)
  decision_short decision.Beyond = omega arith

  answer_short : (a : Answer) → length (answer_lines n m grid directions a) ≤ 31900
  answer_short (answer.Planned o) = outcome_short o
  answer_short (answer.Decided d) = decision_short d
  answer_short (answer.Refused r) = omega arith

refusal_short : (r : Refusal) → length (refusal_line r) ≤ 50
unfolding refusal_line
refusal_short r =
    omega (
      arith,
      line_length refused_word ((number_of r.reason) ∷ r.place ∷ []) newline,
      fields_cons 0 (number_of r.reason) (r.place ∷ []),
      fields_cons 1 r.place [],
      fields_nil 2,
      digits_most 19 (number_of r.reason),
      digits_most 19 r.place,
    )

head_short : (h : Head) → length (head_line h) ≤ 67
unfolding head_line
head_short h =
    omega (
      arith,
      line_length map_word (h.rows ∷ h.columns ∷ h.count ∷ []) newline,
      fields_cons 0 h.rows (h.columns ∷ h.count ∷ []),
      fields_cons 1 h.columns (h.count ∷ []),
      fields_cons 2 h.count [],
      fields_nil 3,
      digits_most 19 h.rows,
      digits_most 19 h.columns,
      digits_most 19 h.count,
    )

abbrev is_refused : Answer → Bool
is_refused (answer.Planned o) = false
is_refused (answer.Decided d) = false
is_refused (answer.Refused r) = true

-- the planner's tests have passed where it does not refuse
module _ (pl : Planner) (head : Head) (grid : List ℕ) where
  abbrev n : ℕ
  n = head.rows

  abbrev m : ℕ
  m = head.columns

  passed : (v : Verdict) (a b : Answer) → answer_after v a ≡ b → (is_refused b ≡ false) → v ≡ Ok tt
  passed (Ok tt) a b h u = refl
  passed (Err r) a b h u = absurd (true≢false (ap is_refused h ∙ u))

  planned_map : (a : Answer) → plan_by pl n m grid zeros limit ≡ a → is_refused a ≡ false
      → AcceptedMap n m (all_long (grid ∷ zeros ∷ [])) grid
  unfolding plan_by
  planned_map a h u = map_accepted n m (all_long (grid ∷ zeros ∷ [])) grid (passed _ _ a h u)

  accepted_short : (a : Answer) → plan_by pl n m grid zeros limit ≡ a → is_refused a ≡ false
      → length (head_line head ++ answer_lines n m grid (left_by_planner pl head grid) a) ≤ 32768
  accepted_short a h u =
      let x = planned_map a h u in
      let d = left_by_planner pl head grid in
      omega (
        arith,
        length-append (head_line head) (answer_lines n m grid d a),
        head_short head,
        answer_short n m grid d x.sizes (eqb-true _ _ (and_true (long grid) _ x.lengths).0) a,
      )

  map_short : (a : Answer) → plan_by pl n m grid zeros limit ≡ a → length (map_lines pl head grid a) ≤ 32768
  unfolding map_lines
  map_short (answer.Planned o) h = accepted_short (answer.Planned o) h refl
  map_short (answer.Decided d) h = accepted_short (answer.Decided d) h refl
  map_short (answer.Refused r) h = omega (arith, refusal_short r)

file_short : (pl : Planner) (x : MapRead × List ℕ) → length (file_lines pl x) ≤ 32768
unfolding file_lines
file_short pl (Ok head, grid) =
    map_short pl head grid (plan_by pl head.rows head.columns grid zeros limit) refl
file_short pl (Err r, grid) = omega (arith, refusal_short r)

pub listing_fits : ListingFits
unfolding listing
listing_fits pl s = file_short pl (read_map s zeros)
