use Rattle.std.proofs.Common.{◌≡◌, ℕ, ◌≤◌, true}
use Rattle.theory.specs.Figures.{priorities, Within}
use Rattle.theory.specs.Columns.{entry, fits_at}
use Rattle.sheet.specs.Views.{table_of}
use Rattle.sheet.proofs.table.Sheet.check_column.Given as goal

abbrev pub invariant-loop-i : goal.invariant-loop-i
invariant-loop-i l = (q : ℕ) → Within priorities q → q ≤ l.i → fits_at (table_of l.self) q (entry l.column q) ≡ true
