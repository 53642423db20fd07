-- Where nodes lie: among the rows and columns of a buffer, or at most one beyond them. Assumes nothing.
use Rattle.std.specs.Prelude.{ℕ, ◌≤◌}
use Rattle.track.specs.declared.ports.Node.{Node}
use Rattle.track.specs.declared.ports.Node.TheVariants.{Processor, Across, Down}

abbrev pub row_of : Node → ℕ
row_of (Processor x y) = x
row_of (Across x y) = x
row_of (Down x y) = x

abbrev pub column_of : Node → ℕ
column_of (Processor x y) = y
column_of (Across x y) = y
column_of (Down x y) = y

abbrev pub InBuffers : Node → Type 0
InBuffers v = (row_of v ≤ 31) × (column_of v ≤ 31)

abbrev pub Near : Node → Type 0
Near v = (row_of v ≤ 32) × (column_of v ≤ 32)
