use Rattle.std.proofs.Common.{◌≡◌, ℕ, ◌+◌, ◌-◌, cond, refl, ap, ◌∙◌, arith, rules}
use Rattle.sheet.specs.Views.{table_of}
use Rattle.theory.specs.Figures.{is_row}
use Rattle.theory.proofs.Entries.{entry_at}
use Rattle.response.proofs.Filling.{each_filled}
use Rattle.response.proofs.own.own_column.Goals as goal

pub returns : goal.returns
returns c p w =
    let rows = table_of c.args.sheet.now in
    let at = each_filled _ (λ f. f.0.now ≡ c.args.sheet.now) (λ k y. y ≡ cond (is_row (rows (k + 1))) (k + 1) 0) (λ f f' k y is called. search rules) _ c.from_fn.result 0 32 refl c.from_fn.ensures.items.each in
    let place : p - 1 + 1 ≡ p = omega (arith, w.0) in
    entry_at c.from_fn.result p w.0 ∙ at (p - 1) 0 (omega arith) (omega (arith, w.0, w.1)) ∙ ap (λ (n : ℕ). cond (is_row (rows n)) n 0) place
