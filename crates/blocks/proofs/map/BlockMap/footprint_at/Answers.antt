use Rattle.std.proofs.Common.{rules}
use Rattle.blocks.specs.Members.{in_words}
use Rattle.blocks.proofs.Words.{zero_words}
use Rattle.blocks.proofs.map.BlockMap.footprint_at.Goals as goal

pub returns-clause-evicting : goal.returns-clause-evicting
unfolding in_words
returns-clause-evicting c = search (rules, zero_words)

pub returns-clause-useful : goal.returns-clause-useful
unfolding in_words
returns-clause-useful c = search (rules, zero_words)
