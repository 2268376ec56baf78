use Rattle.std.proofs.Common.{◌≡◌, ℕ, ◌+◌, ◌-◌, subst, arith, refl, rules, None, get_or}
use Rattle.sheet.specs.Views.{table_of}
use Rattle.response.specs.Own.{OutcomeAt}
use Rattle.response.proofs.Filling.{each_filled}
use Rattle.response.proofs.own.own_outcomes.Goals as goal

pub returns : goal.returns
returns g c =
    let rows = table_of c.args.sheet.now in
    let charge = g.M.DelayModel.charge c.args.model.now in
    let h = c.own_column.result in
    let at = each_filled _ (λ f. (f.0.now.sheet.now ≡ c.args.sheet.now) × (f.0.now.model.now ≡ c.args.model.now) × (f.0.now.column.now ≡ h)) (λ k y. OutcomeAt rows charge h (k + 1) y) (λ f f' k y is called. search rules) _ c.from_fn.result 0 32 (refl, refl, refl) c.from_fn.ensures.items.each in
    record {
      column = h;
      own = c.own_column.ensures;
      unblocked = search rules;
      each = λ p w.
          let place : p - 1 + 1 ≡ p = omega (arith, w.0) in
          subst (λ (n : ℕ). OutcomeAt rows charge h n (get_or c.from_fn.result (p - 1) None)) place (at (p - 1) None (omega arith) (omega (arith, w.0, w.1)));
    }
