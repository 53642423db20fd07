use Rattle.std.proofs.Common.{refl}
use Rattle.array.specs.Buffer.{span}
use Rattle.paths.specs.Path.{path, member, share, meet, near_miss, clash}
use Rattle.paths.specs.Table.{entry}
use Rattle.paths.proofs.Entries.{tested_table}
use Rattle.paths.proofs.Agreement.{table_agrees}
use Rattle.paths.proofs.clash_table.Goals as goal

-- the rule, computed at all entries
pub returns : goal.returns
unfolding entry clash meet share member path span near_miss
returns c = let t = tested_table _ refl refl in (t, table_agrees _ t)
