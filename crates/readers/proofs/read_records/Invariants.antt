use Rattle.std.proofs.Common.{◌≡◌, ◌-◌, length}
use Rattle.readers.specs.Reading.{records_at}
use Rattle.readers.proofs.read_records.Given as goal

-- the records that are left, after those that were read
abbrev pub invariant-loop : goal.invariant-loop
invariant-loop l =
    (length l.b ≡ 1024)
    × (records_at l.fn.kind l.fn.s l.fn.head.rows l.fn.head.columns l.fn.head.count l.fn.start 0 l.fn.b
    ≡ records_at l.fn.kind l.fn.s l.fn.head.rows l.fn.head.columns (l.end - l.counter) l.at l.before l.b)
