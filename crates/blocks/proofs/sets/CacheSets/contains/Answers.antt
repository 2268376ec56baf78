use Rattle.blocks.specs.Members.{in_words}
use Rattle.blocks.proofs.Bitwise.{bit_read}
use Rattle.blocks.proofs.sets.CacheSets.contains.Goals as goal

pub returns : goal.returns
unfolding in_words
returns c = bit_read _ _
