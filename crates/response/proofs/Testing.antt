-- Refusals of the tests, and pairs of row and blocker one by one.
use Rattle.std.proofs.Common.{◌≡◌, ℕ, ◌+◌, ◌-◌, true, leb, List, length, Some, None, Ok, Err, Option, Result, sym, ap, ◌∙◌, subst, inl, inr, arith, length-set}
use Rattle.std.proofs.lemmas.Bool.{false≢true, cases_eq, cond-true, le-leb}
use Rattle.names.specs.declared.refusal.Refusal as program
use Rattle.names.specs.Refusals.{fault_of}
use Rattle.sheet.specs.declared.row.Row.{Row}
use Rattle.theory.specs.Columns.{put, ColumnAnswer}
use Rattle.theory.specs.Delays.{Charge}
use Rattle.theory.specs.Edits.{unless}
use Rattle.theory.specs.Figures.{Table, Fault, fault, is_row, priorities, within}
use Rattle.theory.specs.Outcomes.{Verdict, overcharged, no_period, late, passes, passed}
use Rattle.theory.specs.Tests.{Refusal, unless_misfit, RowOutcome, PairPasses}
use Rattle.theory.proofs.Misfits.{first_misfit}
use Rattle.response.specs.Testing.{RowAt, PassesTo}

module _ (rows : Table) (h : List ℕ) (p : ℕ) where
  -- there is no row to test
  pub refused_row : (e : program.Refusal) → RowAt rows h p (Err e) → (rest : Option Fault) → Refusal rows h p rest (Some (fault_of e))
  refused_row e x rest =
      let m = first_misfit rows h in
      record { misfit = m.0; first = m.1; answered = x (unless_misfit m.0 rest) }

  module _ (row : Row) (at : RowAt rows h p (Ok row)) where
    -- where there is one, the misfit and what is left to ask decide
    asked_next : (rest : Option Fault) → rest ≡ unless (leb priorities (length h)) 1 0 (unless (within priorities p) 2 p (unless (is_row (rows p)) 6 p rest))
    asked_next rest =
        sym (cond-true _ _ _ (le-leb priorities (length h) at.0) ∙ cond-true _ _ _ at.1 ∙ cond-true _ _ _ (ap is_row (sym at.2)))

    -- the column does not fit
    pub refused_misfit : (f : Fault) → ColumnAnswer rows h (Some f) → (rest : Option Fault) → Refusal rows h p rest (Some f)
    refused_misfit f (inl short) rest = absurd (omega (arith, at.0, short.0))
    refused_misfit f (inr (wide, misfit, eight)) rest =
        record { misfit = Some f.place; first = misfit; answered = ap (λ (n : ℕ). Some (fault n f.place)) eight ∙ asked_next (Some (fault 8 f.place)) }

    -- nothing else is asked
    pub column_refused : (answer : Option Fault) → ColumnAnswer rows h answer → Refusal rows h p None answer
    column_refused None (wide, fits) = record { misfit = None; first = fits; answered = asked_next None }
    column_refused (Some f) x = refused_misfit f x None

-- a column with another entry is as long
pub row_at_put : (rows : Table) (h : List ℕ) (p q : ℕ) (r : Result Row program.Refusal) → RowAt rows h p r → RowAt rows (put h p q) p r
row_at_put rows h p q (Ok row) (wide, range, is) = (omega (arith, length-set h (p - 1) q), range, is)
row_at_put rows h p q (Err e) x = λ rest.
    x rest ∙ ap (λ (n : ℕ). unless (leb priorities n) 1 0 (unless (within priorities p) 2 p (unless (is_row (rows p)) 6 p rest))) (sym (length-set h (p - 1) q))

passes_from : (P : Verdict → Type 0) (v : Verdict) → P v → passed v ≡ true → (r : ℕ) × P (passes r)
passes_from P (passes r) x e = (r, x)
passes_from P (overcharged j) x e = absurd (false≢true e)
passes_from P no_period x e = absurd (false≢true e)
passes_from P (late k r) x e = absurd (false≢true e)

module _ (rows : Table) (c : Charge) (h : List ℕ) (i b : ℕ) (so_far : PassesTo rows c h i b) where
  -- one blocker more
  pairs_more : PairPasses rows c h i b → PassesTo rows c h i (b + 1)
  pairs_more here k a (inl l) = so_far k a (inl l)
  pairs_more here k a (inr (e, l)) =
      elim (cases_eq a b) [
        | inl z ↦ subst (λ (n : ℕ). PairPasses rows c h k n) (sym z) (subst (λ (n : ℕ). PairPasses rows c h n b) (sym e) here)
        | inr ne ↦ so_far k a (inr (e, omega arith))
      ]

  pub pairs_pass : (v : Verdict) → RowOutcome rows c h i b v → passed v ≡ true → PassesTo rows c h i (b + 1)
  pairs_pass v x e = pairs_more (λ there blocks. passes_from (RowOutcome rows c h i b) v x e)
