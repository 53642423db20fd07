use Rattle.std.proofs.Common.{refl}
use Rattle.array.specs.Buffer.{span}
use Rattle.previews.proofs.Foretold.nothing.Goals as goal

pub returns : goal.returns
unfolding span
returns c = refl
