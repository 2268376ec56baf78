use Rattle.std.proofs.Common.{rules}
use Rattle.blocks.specs.Members.{has}
use Rattle.blocks.proofs.Words.{difference_words, outside_from}
use Rattle.blocks.proofs.sets.CacheSets.first_outside.Goals as goal

pub returns : goal.returns
returns c =
    let each = difference_words c.by_words.result.words c.args.self.now.words c.args.other.now.words (λ q l t few. search (rules, c.by_words.ensures q l)) in
    outside_from (has c.args.self.now) (has c.args.other.now) (has c.by_words.result) each _ c.first.ensures
