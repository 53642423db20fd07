-- The parts of the lines, and of the listing by the answers of the reader and of the planner.
-- Assumes nothing.
use Prim.Native.Nat.{ℕ}
use mathlib.Core.Path.{◌≡◌, refl, sym, ap, ◌∙◌}
use mathlib.Core.List.{List, [], ◌∷◌, ◌++◌}
use Rattle.array.specs.Buffer.{zeros}
use Rattle.array.specs.declared.Refusal.{Refusal}
use Rattle.trials.specs.declared.Outcome.{Outcome}
use Rattle.trials.specs.declared.Outcome.TheVariants.{Repaired, Beyond, Spent}
use Rattle.exact.specs.declared.Decision.{Decision}
use Rattle.exact.specs.declared.Decision.TheVariants as decision
use Rattle.repair.specs.Operations.{plan_by, directions_by, places_after, across_after, down_after}
use Rattle.repair.specs.declared.Planner.{Planner}
use Rattle.repair.specs.declared.Answer.{Answer}
use Rattle.repair.proofs.Answers.{answers_kept}
use Rattle.repair.specs.declared.Answer.TheVariants as answer
use Rattle.repair.specs.Operations as repair
use Rattle.readers.specs.Reading.{read_map, MapRead}
use Rattle.readers.specs.declared.Head.{Head}
use Rattle.readers.specs.Reading as reading
use Rattle.readers.proofs.Answers.{map_kept}
use Rattle.listing.specs.Listing.{along, line, newline, fault_bytes, seat_bytes, switch_line}
use Rattle.listing.specs.Listing.{across_word, down_word, repaired_word, beyond_word, spent_word}
use Rattle.listing.specs.Listing.{plan_lines, repair_lines, outcome_lines, decision_lines, refusal_line, head_line, limit}
use Rattle.listing.specs.Listing.{map_lines, planned_lines, file_lines, listing}
use Rattle.std.specs.Prelude.{Ok, Err}

-- the lines of a plan, by the placement and the switches that were filled for it
pub repair_is : (n m : ℕ) (grid directions : List ℕ) {places across down : List ℕ} → places ≡ places_after n m grid directions zeros
    → across ≡ across_after n m grid directions zeros zeros → down ≡ down_after n m grid directions zeros zeros
    → along (fault_bytes n m directions) 0 grid ++ (along (seat_bytes n m) 0 places ++ (switch_line across_word across ++ switch_line down_word down))
    ≡ repair_lines n m grid directions
unfolding repair_lines plan_lines
repair_is n m grid directions p a d = rw (p, a, d) refl

-- an outcome that is known
module _ (n m : ℕ) (grid directions : List ℕ) {o : Outcome} {t : ℕ} where
  pub outcome_repaired :
      o ≡ Repaired t → outcome_lines n m grid directions o ≡ (line repaired_word (t ∷ []) newline) ++ (repair_lines n m grid directions)
  unfolding outcome_lines
  outcome_repaired e = rw e refl

  pub outcome_beyond : o ≡ Beyond t → outcome_lines n m grid directions o ≡ line beyond_word (t ∷ []) newline
  unfolding outcome_lines
  outcome_beyond e = rw e refl

  pub outcome_spent : o ≡ Spent t → outcome_lines n m grid directions o ≡ line spent_word (t ∷ []) newline
  unfolding outcome_lines
  outcome_spent e = rw e refl

-- a decision that is known
module _ (n m : ℕ) (grid directions : List ℕ) {d : Decision} where
  pub decision_repaired : d ≡ decision.Repaired
      → decision_lines n m grid directions d ≡ (repaired_word ++ newline) ++ (repair_lines n m grid directions)
  unfolding decision_lines
  decision_repaired e = rw e refl

  pub decision_beyond : d ≡ decision.Beyond → decision_lines n m grid directions d ≡ beyond_word ++ newline
  unfolding decision_lines
  decision_beyond e = rw e refl

-- The planner answered r for blank directions, and left directions'.
module _ (pl : Planner) (head : Head) (grid : List ℕ) (r : Answer) {directions directions' : List ℕ}
    (b : directions ≡ zeros)
    (e : repair.told r ≡ repair.told (plan_by pl head.rows head.columns grid directions limit))
    (d : directions' ≡ directions_by pl head.rows head.columns grid directions limit) where
  answer_is : plan_by pl head.rows head.columns grid zeros limit ≡ r
  answer_is =
      sym (answers_kept.planner r (plan_by pl head.rows head.columns grid directions limit) e
      ∙ ap (λ (x : List ℕ). plan_by pl head.rows head.columns grid x limit) b)

  directions_are : directions_by pl head.rows head.columns grid zeros limit ≡ directions'
  directions_are = sym (d ∙ ap (λ (x : List ℕ). directions_by pl head.rows head.columns grid x limit) b)

  pub map_planned :
      {o : Outcome} → r ≡ answer.Planned o
      → planned_lines pl head grid ≡ head_line head ++ outcome_lines head.rows head.columns grid directions' o
  unfolding map_lines
  map_planned h = rw (answer_is, h, directions_are) refl

  pub map_decided :
      {x : Decision} → r ≡ answer.Decided x
      → planned_lines pl head grid ≡ head_line head ++ decision_lines head.rows head.columns grid directions' x
  unfolding map_lines
  map_decided h = rw (answer_is, h, directions_are) refl

  pub map_refused : {s : Refusal} → r ≡ answer.Refused s → planned_lines pl head grid ≡ refusal_line s
  unfolding map_lines
  map_refused h = rw (answer_is, h) refl

-- The reader answered r for a blank grid, and left grid'.
module _ (pl : Planner) (s : List ℕ) (r : MapRead) {grid grid' : List ℕ} (b : grid ≡ zeros)
    (e : reading.told_map r ≡ reading.told_map (read_map s grid).0) (d : grid' ≡ (read_map s grid).1) where
  read_is : read_map s zeros ≡ (r, grid')
  read_is = ap (λ (x : List ℕ). read_map s x) (sym b) ∙ sym (pair_is (read_map s grid) (map_kept r (read_map s grid).0 e) d)
    where
      pair_is : (x : MapRead × List ℕ) → r ≡ x.0 → grid' ≡ x.1 → (r, grid') ≡ x
      pair_is (y, z) h g = rw (h, g) refl

  pub file_read : {head : Head} → r ≡ Ok head → listing pl s ≡ planned_lines pl head grid'
  unfolding listing file_lines
  file_read h = rw (read_is, h) refl

  pub file_refused : {x : Refusal} → r ≡ Err x → listing pl s ≡ refusal_line x
  unfolding listing file_lines
  file_refused h = rw (read_is, h) refl
