use Rattle.std.proofs.Common.{◌≡◌, ◌∙◌, ℕ, max, List, [], ◌∷◌, ◌++◌, fold, ap, sym, refl, of_calls, rules}
use Rattle.std.specs.Iterator.{YieldsFirstBy}
use Rattle.std.proofs.lemmas.Fn.{fold_over}
use Rattle.std.proofs.lemmas.Iterator.Consumers.{YieldsList-from_first}
use Rattle.std.proofs.lemmas.List.Sums.{fold_push}
use Rattle.delay.specs.declared.rows.Rows.{Rows}
use Rattle.delay.specs.RowSets.{in_rows, rows_left}
use Rattle.delay.proofs.Passing.{largest_passing}
use Rattle.delay.proofs.rows.RowSet.largest.Goals as goal

most_more : (f : ℕ → ℕ) (a b : ℕ) (ks : List ℕ) (k : ℕ) → b ≡ max a (f k) → a ≡ fold (λ m k. max m (f k)) 0 ks → b ≡ fold (λ m k. max m (f k)) 0 (ks ++ k ∷ [])
most_more f a b ks k more before = more ∙ ap (λ (m : ℕ). max m (f k)) before ∙ sym (fold_push (λ m k. max m (f k)) 0 ks k)

pub returns : goal.returns
returns g c f each =
    let rows = rows_left c.args.self in
    fold_over (YieldsFirstBy (λ k. k.0) (λ (r : Rows). rows_left r.0)) (λ k. k.0) _ (λ ks a. a ≡ fold (λ m k. max m (f k)) 0 ks) _
    (λ ks a k b f' before call. (most_more f a b ks k.0 (search (rules, of_calls, each)) before, search rules))
    _ rows 0 c.fold.result (YieldsList-from_first (λ k. k.0) (λ (r : Rows). rows_left r.0) rows refl).runs refl c.fold.ensures.ran
    ∙ largest_passing (in_rows c.args.self) f 32
