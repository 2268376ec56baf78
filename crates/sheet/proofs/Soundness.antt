-- No row of any sheet is out of range.
use Rattle.std.proofs.Common.{◌≡◌, ℕ, suc, ◌-◌, ◌≤◌, Bool, true, false, cond, get_or, Some, None, Option, refl, subst, arith}
use Rattle.std.proofs.lemmas.Bool.{and_parts, leb-true}
use Rattle.sheet.specs.declared.row.Row.{Row}
use Rattle.sheet.specs.declared.table.Sheet.{Sheet}
use Rattle.sheet.specs.Caps.{cap_fits}
use Rattle.sheet.specs.Views.{figures, table_of}
use Rattle.names.specs.Timings.{timing_of}
use Rattle.theory.specs.Figures.{Figures, InRange, Sound, within, priorities}

row_in_range : (p : ℕ) (r : Row) → within priorities p ≡ true → cap_fits (p - 1) (Some r) ≡ true → InRange p (record { timing = timing_of r.timing; limit = r.«cap».0 })
row_in_range p r e caps =
    let parts = and_parts _ _ e in
    let low = leb-true 1 p parts.0 in
    let limits = and_parts _ _ caps in
    let top : r.«cap».0 ≤ suc (p - 1) = leb-true _ _ limits.1 in
    record {
      priority = (low, leb-true p priorities parts.1);
      timed = record { runs = (r.runs, r.runs_top); apart = (r.apart, r.apart_top); due = (r.due, r.due_top) };
      capped = (leb-true _ _ limits.0, omega arith);
    }

read : (p : ℕ) (o : Option Row) (v : Bool) (f : Figures) → within priorities p ≡ v → cap_fits (p - 1) o ≡ true → cond v (figures o) None ≡ Some f → InRange p f
read p o false f e caps is = absurd (let never : ◌≡◌ {A = ℕ} 0 1 = cc in omega arith)
read p None true f e caps is = absurd (let never : ◌≡◌ {A = ℕ} 0 1 = cc in omega arith)
read p (Some r) true f e caps is =
    let same : record { timing = timing_of r.timing; limit = r.«cap».0 } ≡ f = cc in
    subst (λ (g : Figures). InRange p g) same (row_in_range p r e caps)

pub sound_table : (s : Sheet) → Sound (table_of s)
sound_table s p f is = read p (get_or s.rows (p - 1) None) (within priorities p) f refl (s.caps (p - 1)) is
