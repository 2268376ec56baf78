use Rattle.std.proofs.Common.{◌+◌, sym, refl, ap, ◌∙◌, inl, inr, arith}
use Rattle.std.proofs.Math.Nat.{eq-or-lt_of_le}
use Rattle.theory.specs.Columns.{fits_at}
use Rattle.theory.proofs.Entries.{entry_among_first}
use Rattle.sheet.specs.Views.{table_of}
use Rattle.sheet.proofs.table.Sheet.check_column.Goals as goal

pub returns-then-not-entry_fits : goal.returns-then-not-entry_fits
returns-then-not-entry_fits c =
    let chunk = c.in-Some.ensures.cases in
    let at = entry_among_first c.args.column.now c.in-Some.entries.now 32 c.loop-i.i chunk.same (omega arith) in
    inr (
      chunk.enough,
      rw c.into.ensures (record {
        among = (omega arith, omega arith);
        fails = ap (fits_at (table_of c.args.self.now) (c.loop-i.i + 1)) (sym at) ∙ sym c.entry_fits.ensures ∙ c.if-not-entry_fits.true;
        first = λ q w l. c.loop-i.invariant q w (omega arith);
      }),
      refl,
    )

pub loop-i-preserved : goal.loop-i-preserved
loop-i-preserved c q w l =
    let at = entry_among_first c.args.column.now c.in-Some.entries.now 32 c.loop-i.i c.in-Some.ensures.cases.same (omega arith) in
    elim (eq-or-lt_of_le l) [
      | inl e ↦ rw e (ap (fits_at (table_of c.args.self.now) (c.loop-i.i + 1)) (sym at) ∙ sym c.entry_fits.ensures ∙ c.if-not-entry_fits.false)
      | inr less ↦ c.loop-i.invariant q w (omega arith)
    ]
