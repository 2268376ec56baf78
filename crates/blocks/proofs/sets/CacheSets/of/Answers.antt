use Rattle.std.proofs.Common.{List, ℕ, subst, rules}
use Rattle.std.proofs.lemmas.Fn.{fold_over, fronts, slice_gives}
use Rattle.theory.specs.Sets.{SameSets}
use Rattle.blocks.specs.Members.{has, listed}
use Rattle.blocks.proofs.Words.{listed_more}
use Rattle.blocks.proofs.sets.CacheSets.of.Goals as goal

pub returns : goal.returns
unfolding listed
returns c =
    let all = fold_over fronts (λ y. y.now) _ (λ ys a. SameSets (has a) (listed ys)) _ (λ ys a x b f' before k. (listed_more (has a) (has b) ys x.now (search rules) before, search rules)) c.iter.result c.iter.result.rest.now c.empty.result c.fold.result (slice_gives c.iter.result) c.empty.ensures c.fold.ensures.ran in
    subst (λ (xs : List ℕ). SameSets (has c.fold.result) (listed xs)) c.iter.ensures.rest all
