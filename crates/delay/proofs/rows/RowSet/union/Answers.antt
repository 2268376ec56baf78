use Rattle.std.proofs.Common.{◌∙◌, refl, of_calls, rules}
use Rattle.std.specs.Iterator.{YieldsFirstBy}
use Rattle.std.proofs.lemmas.Fn.{fold_over}
use Rattle.std.proofs.lemmas.Iterator.Consumers.{YieldsList-from_first}
use Rattle.theory.specs.Sets.{SameSets, union, union_over}
use Rattle.blocks.specs.Members.{has, in_words}
use Rattle.delay.specs.declared.rows.Rows.{Rows}
use Rattle.delay.specs.RowSets.{in_rows, rows_left}
use Rattle.delay.proofs.Passing.{union_passing}
use Rattle.delay.proofs.Unions.{gathered, gathered_more, union_with}
use Rattle.delay.proofs.rows.RowSet.union.Goals as goal

pub returns : goal.returns
unfolding union_over in_words union
returns g c x each s l =
    let rows = rows_left c.args.self in
    fold_over (YieldsFirstBy (λ k. k.0) (λ (r : Rows). rows_left r.0)) (λ k. k.0) _ (λ ks a. SameSets (has a) (gathered x ks)) _
    (λ ks a k b f' before call. (gathered_more x (has a) (has b) ks k.0 (search (rules, of_calls, each, union_with)) before, search rules))
    _ rows c.empty.result c.fold.result (YieldsList-from_first (λ k. k.0) (λ (r : Rows). rows_left r.0) rows refl).runs c.empty.ensures c.fold.ensures.ran s l
    ∙ union_passing (in_rows c.args.self) x s 32
