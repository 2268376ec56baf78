use Rattle.std.proofs.Common.{arith}
use Rattle.blocks.proofs.Words.{first_set, none_in}
use Rattle.blocks.proofs.sets.CacheSets.first.Goals as goal

pub returns-then-word-ne0 : goal.returns-then-word-ne0
returns-then-word-ne0 c =
    first_set c.args.self.now.words c.loop-q.q c.loop-q.invariant (omega arith) (omega arith) c.if-word-ne0.true

pub returns : goal.returns
returns c = none_in c.args.self.now.words (λ q l. c.loop-q.invariant q (omega arith))
