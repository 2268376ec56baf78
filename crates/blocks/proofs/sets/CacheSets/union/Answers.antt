use Rattle.std.proofs.Common.{rules}
use Rattle.blocks.proofs.Words.{union_words}
use Rattle.blocks.proofs.sets.CacheSets.union.Goals as goal

pub returns : goal.returns
returns c = union_words c.by_words.result.words c.args.self.now.words c.args.other.now.words (λ q l. search (rules, c.by_words.ensures q l))
