use Rattle.std.proofs.Common.{arith}
use Rattle.blocks.proofs.Words.{with_bit}
use Rattle.blocks.proofs.sets.CacheSets.with.Goals as goal

pub returns : goal.returns
returns c = with_bit c.args.self.words c.args.s (omega arith) (omega arith)
