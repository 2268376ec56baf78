use Rattle.std.proofs.Common.{refl, sym, ◌∙◌, rules}
use Rattle.std.proofs.lemmas.Bool.{cond-true, not-false}
use Rattle.theory.specs.Reckonings.{met_size, up_to, useful_size}
use Rattle.blocks.specs.Members.{has, in_words}
use Rattle.blocks.specs.Views.{blocks_of}
use Rattle.delay.specs.Reckonings.{among_size}
use Rattle.delay.proofs.Unions.{intersection_same, largest_same, size_same, size_with, union_same}
use Rattle.delay.proofs.map_model.MapModel.lost.Goals as goal

pub returns-else-is_empty : goal.returns-else-is_empty
returns-else-is_empty c =
    rw c.in-EvictingOnly.is
    (c.size.ensures ∙ size_same _ _ c.evicting.ensures ∙ sym (cond-true _ _ _ (not-false _ (sym c.if-is_empty.ensures))))

pub returns-in-UsefulOnly : goal.returns-in-UsefulOnly
unfolding useful_size in_words
returns-in-UsefulOnly c =
    rw c.in-UsefulOnly.is
    (c.largest.ensures (useful_size (blocks_of c.args.self.now.map)) (λ k n call. search (rules, size_with)))

pub returns-in-UsefulUnion : goal.returns-in-UsefulUnion
unfolding in_words
returns-in-UsefulUnion c =
    let useful = c.union-useful.ensures (blocks_of c.args.self.now.map).useful (λ k s call. search rules) in
    rw c.in-UsefulUnion.is
    (c.size-in-UsefulUnion.ensures ∙ size_same _ _ c.intersection.ensures ∙ size_same _ _ (intersection_same _ _ _ _ useful c.evicting-in-UsefulUnion.ensures))

pub returns-in-EvictingUnion : goal.returns-in-EvictingUnion
unfolding among_size met_size in_words
returns-in-EvictingUnion c =
    let m = blocks_of c.args.self.now.map in
    let evicting = c.union-evicting.ensures m.evicting (λ k s call. search rules) in
    let met = c.largest-in-EvictingUnion.ensures (among_size m (has c.union-evicting.result)) (λ k n call. search rules) in
    rw c.in-EvictingUnion.is
    (met ∙ largest_same _ _ _ (λ k. size_same _ _ (intersection_same _ _ _ _ (λ s l. refl) (λ s l. evicting s l ∙ union_same _ (up_to c.args.j.0) m.evicting s c.up_to.ensures))))
