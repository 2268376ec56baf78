use Rattle.std.proofs.Common.{◌-◌, sym}
use Rattle.theory.specs.Figures.{priorities, within}
use Rattle.delay.proofs.RowBits.{index_ok, rows_with}
use Rattle.delay.proofs.rows.RowSet.with.Goals as goal

pub returns-in-Ok : goal.returns-in-Ok
returns-in-Ok c p l =
    let k = c.args.k.0 in
    let found = index_ok (within priorities k) (k - 1) c.in-Ok.t _ (sym c.in-Ok.ensures) in
    rows_with c.args.self.0 k c.in-Ok.t p found.0 found.1 l
