use Rattle.std.proofs.Common.{◌≡◌, length, get_or, sym, ap, ◌∙◌, arith, rules}
use Rattle.std.specs.List.{sum_by}
use Rattle.std.specs.Slice.Iter.{iter_rest}
use Rattle.std.proofs.iter.runs.Made.{chains}
use Rattle.std.proofs.lemmas.Grind.{same_number_lists}
use Rattle.std.proofs.lemmas.Iterator.{YieldsList-from_map, YieldsList-from_slice}
use Rattle.std.proofs.lemmas.Iterator.Consumers.{fits_by_from_yields_list}
use Rattle.blocks.proofs.Words.{bits_fit, four, set_bits, size_words}
use Rattle.blocks.proofs.sets.CacheSets.size.Goals as goal

pub sum-requires-clause-fits : goal.sum-requires-clause-fits
sum-requires-clause-fits c =
    let words = iter_rest c.iter.result in
    let all : length words ≡ 4 = search rules in
    fits_by_from_yields_list set_bits words _ _ (YieldsList-from_map _ set_bits (YieldsList-from_slice words cc) c.map.ensures.closure (λ x r q k. search rules)) (bits_fit words all)

pub returns : goal.returns
returns c =
    let words = iter_rest c.iter.result in
    let own = c.args.self.now.words in
    let all : length words ≡ 4 = search rules in
    let total : c.sum.result ≡ sum_by set_bits words = search (rules, chains) in
    let same = same_number_lists words own (omega arith) (λ q l. four (λ k. get_or words k 0 ≡ get_or own k 0) (search rules) (search rules) (search rules) (search rules) q (omega arith)) in
    total ∙ ap (sum_by set_bits) same ∙ sym (size_words own (omega arith))
