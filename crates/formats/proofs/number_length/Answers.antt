use Rattle.std.proofs.Common.{sym, arith}
use Rattle.formats.proofs.Cases.{one_byte, two_bytes, three_bytes}
use Rattle.formats.proofs.number_length.Goals as goal

pub returns-then-v-lt128 : goal.returns-then-v-lt128
returns-then-v-lt128 c = (sym (one_byte _ c.if-v-lt128.true), omega arith)

pub returns-then-v-lt16384 : goal.returns-then-v-lt16384
returns-then-v-lt16384 c = (sym (two_bytes _ c.if-v-lt128.false c.if-v-lt16384.true), omega arith)

pub returns : goal.returns
returns c = (sym (three_bytes _ c.if-v-lt16384.false), omega arith)
