use Rattle.std.proofs.Common.{length, ap, arith, rules}
use Rattle.delay.proofs.RowBits.{rows_none, rows_popped}
use Rattle.delay.proofs.rows.RowsIterator.next.Goals as goal

pub returns-then-bits-eq0-clause-steps : goal.returns-then-bits-eq0-clause-steps
returns-then-bits-eq0-clause-steps c =
    let none = rows_none c.args.self.now.0.0 c.if-bits-eq0.true in (none, none)

pub returns-clause-steps : goal.returns-clause-steps
returns-clause-steps c = rows_popped c.args.self.now.0.0 (omega arith) c.if-bits-eq0.false

pub returns-clause-goes : goal.returns-clause-goes
returns-clause-goes c =
    let fewer = ap length (rows_popped c.args.self.now.0.0 (omega arith) c.if-bits-eq0.false) in
    search rules
