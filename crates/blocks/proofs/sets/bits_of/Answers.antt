use Rattle.std.proofs.Common.{arith}
use Rattle.blocks.proofs.Bitwise.{ones_count}
use Rattle.blocks.proofs.sets.bits_of.Goals as goal

pub returns : goal.returns
returns c = ones_count 64 c.args.word (omega arith)
