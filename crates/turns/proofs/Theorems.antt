-- Paths turn along with the array.
-- Assumes nothing.
use Prim.Native.Nat.{ℕ, ◌≤◌}
use native.Mathlib.Omega.{arith}
use Rattle.array.proofs.Places.{inner_between}
use Rattle.paths.proofs.Ways.{Way, south, north, east, west, start_inner, start_way}
use Rattle.turns.specs.Turn.{rows_of, columns_of}
use Rattle.turns.specs.Theorems.{PathsTurn}
use Rattle.turns.proofs.Places.{within_holds, sizes_high}
use Rattle.turns.proofs.Generators.{lawful}
use Rattle.turns.proofs.Turned.{path_turned, meet_turned}

way_between : {d : ℕ} → Way d → (1 ≤ d) × (d ≤ 4)
way_between south = omega arith
way_between north = omega arith
way_between east = omega arith
way_between west = omega arith

pub paths_turn : PathsTurn
paths_turn t n m =
    record {
      start = λ p d s.
          let z = sizes_high t n m s.rows s.columns in
          let c = lawful t n m s.rows s.columns in
          let i = c.inside p (start_inner s) in
          let w = way_between (c.straight d (start_way s)) in
          record {
            rows = z.0;
            columns = z.1;
            at =
                inner_between (rows_of t n m) (columns_of t n m) _ _ i.row_low i.row_high i.column_low
                i.column_high;
            low = w.0;
            high = w.1;
          };
      on_path = λ p d q s h.
          path_turned t n m s.rows s.columns p d (start_inner s) (start_way s) q (within_holds n m q h);
      meeting = λ p d q e s r.
          meet_turned t n m s.rows s.columns p d q e (start_inner s) (start_inner r) (start_way s) (start_way r);
      nearness = λ p d q e s r.
          (lawful t n m s.rows s.columns).near p d q e (start_inner s) (start_inner r) (start_way s) (start_way r);
      rim = λ p d s. (lawful t n m s.rows s.columns).rim p d (start_inner s) (start_way s);
    }
