use Rattle.delay.proofs.RowBits.{rows_to}
use Rattle.delay.proofs.rows.RowSet.up_to.Goals as goal

pub returns : goal.returns
returns c k l = rows_to c.args.j.0 c.min.result k c.min.ensures l
