use Rattle.std.proofs.Common.{ℕ, ◌+◌, ◌/◌, ◌%◌, ◌<◌, ◌≤◌, [], ◌∷◌, arith, refl}
use Rattle.formats.specs.Number.{bytes_of}
use Rattle.formats.proofs.Cases.{bytes_one, bytes_more}
use Rattle.formats.proofs.Runs.{Splits, run_room, run_step, run_end}
use Rattle.formats.proofs.write_number.Goals as goal

-- a low group and the rest, or the last group
low_first : (v : ℕ) → 128 ≤ v → v < 2097152 → Splits (bytes_of v) ((128 + v % 128) ∷ []) (bytes_of (v / 128))
low_first v h l = record { is = bytes_more v h l }

last_only : (v : ℕ) → v < 128 → Splits (bytes_of v) (v ∷ []) []
last_only v h = record { is = bytes_one v h }

pub bounds-out-at : goal.bounds-out-at
bounds-out-at c =
    let i = c.loop-rest.invariant in omega (arith, run_room i.1 (low_first _ c.loop-rest-test.true i.0))

pub loop-rest-preserved : goal.loop-rest-preserved
loop-rest-preserved c =
    let i = c.loop-rest.invariant in
    (omega (arith, i.0), run_step i.1 (low_first _ c.loop-rest-test.true i.0) refl refl)

pub bounds-out-at-2 : goal.bounds-out-at-2
bounds-out-at-2 c =
    let i = c.loop-rest.invariant in omega (arith, run_room i.1 (last_only _ c.loop-rest-test.false))

pub returns : goal.returns
returns c = let i = c.loop-rest.invariant in run_end (run_step i.1 (last_only _ c.loop-rest-test.false) refl refl) refl
