use Rattle.std.proofs.Common.{sym, ◌∙◌, arith}
use Rattle.array.proofs.Fills.{fill_end}
use Rattle.readers.proofs.Cases.{blank_is}
use Rattle.readers.proofs.blank_buffer.Goals as goal

pub returns : goal.returns
returns c = fill_end c.loop-x.invariant (omega arith) ∙ sym (blank_is c.args.kind c.args.n c.args.m)
