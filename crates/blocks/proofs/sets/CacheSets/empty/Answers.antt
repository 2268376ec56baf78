use Rattle.blocks.proofs.Words.{zero_words}
use Rattle.blocks.proofs.sets.CacheSets.empty.Goals as goal

pub returns : goal.returns
returns c = zero_words _ c.default.ensures
