use Rattle.std.proofs.Common.{arith}
use Rattle.delay.proofs.RowBits.{rows_empty}
use Rattle.delay.proofs.rows.RowSet.is_empty.Goals as goal

pub returns : goal.returns
returns c = rows_empty c.args.self.0 (omega arith)
