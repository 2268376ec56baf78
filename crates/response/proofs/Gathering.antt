-- The rows above, gathered one by one, and what a blocker contributes.
use Rattle.std.proofs.Common.{◌≡◌, ℕ, zero, suc, Some, None, Option, MatchOption, ap, arith}
use Rattle.std.proofs.lemmas.Bool.{both_ways}
use Rattle.names.specs.declared.Priority.{Priority}
use Rattle.sheet.specs.declared.row.Row.{Row}
use Rattle.sheet.specs.declared.table.Sheet.{Sheet}
use Rattle.sheet.specs.Views.{figures, table_of}
use Rattle.theory.specs.Equations.{Question, run_time_of, contribution}
use Rattle.theory.specs.Figures.{is_row}
use Rattle.theory.specs.Outcomes.{Affordable}
use Rattle.delay.specs.Blockers.{blocker_of}
use Rattle.response.specs.Gathering.{NoneDear}

-- what a blocker contributes, by the row that is read
contributes : (s : Sheet) (b : ℕ) (o : Option Row) → figures o ≡ table_of s b → run_time_of (figures o) ≡ contribution (table_of s) b
unfolding contribution
contributes s zero o is = ap run_time_of is
contributes s (suc b) o is = ap run_time_of is

pub blocks_for : (s : Sheet) (b : Option Priority) (o : Option Row) → MatchOption b (o ≡ None) (λ p. figures o ≡ table_of s p.0)
    → run_time_of (figures o) ≡ contribution (table_of s) (blocker_of b)
unfolding contribution
blocks_for s None o is = ap (λ (x : Option Row). run_time_of (figures x)) is
blocks_for s (Some p) o is = contributes s p.0 o is

-- ---- no row above is charged too much
module _ (q : Question) (none : q.rows 0 ≡ None) where
  pub affordable : NoneDear q.rows q.charge q.place → Affordable q
  affordable cheap zero d = both_ways (is_row (q.rows 0)) (ap is_row none) d.row
  affordable cheap (suc m) d = cheap (suc m) (omega arith) d.above (record { row = d.row; top = d.top })
