use Rattle.std.proofs.Common.{Err, sym, ap, ◌∙◌, subst, rules}
use Rattle.std.proofs.lemmas.Result.{err_from_is_err_and}
use Rattle.names.specs.Refusals.{refused}
use Rattle.sheet.specs.Views.{table_of}
use Rattle.theory.specs.Tests.{RowRefusal}
use Rattle.delay.specs.Blockers.{blocker_of}
use Rattle.response.proofs.Testing.{refused_row, refused_misfit}
use Rattle.response.proofs.tests.row_test.Goals as goal

pub returns-in_err-row : goal.returns-in_err-row
returns-in_err-row g c =
    let rows = table_of c.args.sheet.now in
    let exit = err_from_is_err_and c.from_residual.result c.from_residual.ensures.1 in
    record {
      refusal = subst (RowRefusal rows c.args.column.now c.args.pair.row.0 (blocker_of c.args.pair.blocker)) (sym (ap refused (exit.1 ∙ ap Err exit.2)))
          (refused_row rows c.args.column.now c.args.pair.row.0 _ c.in_err-row.ensures _);
      outcome = search rules;
    }

pub returns-in_err-check_column : goal.returns-in_err-check_column
returns-in_err-check_column g c =
    let rows = table_of c.args.sheet.now in
    let exit = err_from_is_err_and c.from_residual-in_err-check_column.result c.from_residual-in_err-check_column.ensures.1 in
    record {
      refusal = subst (RowRefusal rows c.args.column.now c.args.pair.row.0 (blocker_of c.args.pair.blocker)) (sym (ap refused (exit.1 ∙ ap Err exit.2)))
          (refused_misfit rows c.args.column.now c.args.pair.row.0 c.in_ok-row.row c.in_ok-row.ensures _ c.in_err-check_column.ensures _);
      outcome = search rules;
    }
