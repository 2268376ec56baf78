use Rattle.delay.proofs.RowBits.{rows_both}
use Rattle.delay.proofs.rows.RowSet.intersection.Goals as goal

pub returns : goal.returns
returns c k = rows_both c.args.self.0 c.args.other.0 k
