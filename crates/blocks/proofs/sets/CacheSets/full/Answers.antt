use Rattle.std.proofs.Common.{refl}
use Rattle.blocks.proofs.Words.{four, full_words}
use Rattle.blocks.proofs.sets.CacheSets.full.Goals as goal

pub returns : goal.returns
returns c = full_words _ (four _ refl refl refl refl)
