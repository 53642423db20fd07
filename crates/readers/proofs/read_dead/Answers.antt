use Rattle.std.proofs.Common.{ap, ◌∙◌}
use Rattle.readers.specs.Reading.{whole_file}
use Rattle.readers.proofs.read_dead.Goals as goal

pub returns : goal.returns
returns c = c.fill.ensures c.in_ok-end.field-0-1 ∙ ap (whole_file _ _ _ _) (rw c.in_ok-end.was at c.read_records.ensures)
