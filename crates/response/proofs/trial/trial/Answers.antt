use Rattle.std.proofs.Common.{ℕ, List, IfOk, Ok, Err, sym, refl, ap, ◌∙◌, subst, set, set-set, ◌≡◌, ◌-◌, rules}
use lib.Seq.{set-get_or}
use Rattle.std.proofs.lemmas.Result.{err_from_is_err_and}
use Rattle.names.specs.Refusals.{refused}
use Rattle.sheet.specs.Views.{table_of}
use Rattle.theory.specs.Columns.{put, ColumnAnswer}
use Rattle.theory.specs.Tests.{TrialRefusal, Found}
use Rattle.response.specs.Testing.{failure_of}
use Rattle.response.proofs.Testing.{refused_row, column_refused, row_at_put}
use Rattle.response.proofs.trial.trial.Goals as goal

pub returns-in_err-row_at : goal.returns-in_err-row_at
returns-in_err-row_at g c =
    let rows = table_of c.args.sheet.now in
    let h = c.args.column.now in
    let p = c.args.p.0 in
    let q = c.args.q.0 in
    let exit = err_from_is_err_and c.from_residual.result c.from_residual.ensures.1 in
    record {
      kept = refl;
      refusal = subst (TrialRefusal rows h p q) (sym (ap refused (exit.1 ∙ ap Err exit.2)))
          (refused_row rows (put h p q) p _ (row_at_put rows h p q (Err _) c.in_err-row_at.ensures) _);
      finding = search rules;
      named = search rules;
    }

pub returns : goal.returns
returns g c =
    let rows = table_of c.args.sheet.now in
    let h = c.args.column.now in
    let p = c.args.p.0 in
    let q = c.args.q.0 in
    let place : c.in_ok-at.at ≡ p - 1 = search rules in
    let tried : c.column.result.now ≡ put h p q = c.column.ensures ∙ ap (λ (n : ℕ). set h n q) place in
    record {
      kept = c.drop-guard.ensures ∙ simp (set-set, set-get_or);
      refusal = column_refused rows (put h p q) p c.in_ok-row_at.field-0 (row_at_put rows h p q (Ok c.in_ok-row_at.field-0) c.in_ok-row_at.ensures) _
          (subst (λ (x : List ℕ). ColumnAnswer rows x (refused c.column_test.result)) tried c.column_test.ensures.refusal);
      finding = subst (λ (x : List ℕ). IfOk c.column_test.result (λ f. Found rows (g.M.DelayModel.charge c.args.model.now) x (failure_of f))) tried c.column_test.ensures.finding;
      named = c.column_test.ensures.named;
    }
