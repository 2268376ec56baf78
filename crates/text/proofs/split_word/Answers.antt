use Rattle.std.proofs.Common.{arith}
use Rattle.text.proofs.Cutting.{cut_none, cut_first}
use Rattle.text.proofs.split_word.Goals as goal

pub returns-then-len-eq0 : goal.returns-then-len-eq0
returns-then-len-eq0 c =
    let start = rw c.run_len.ensures.run at c.split_at.ensures.back in
    cut_none c.args.text.now c.split_at.result.1.now start c.run_len-len.result c.run_len-len.ensures.run c.if-len-eq0.true

pub returns : goal.returns
returns c =
    let start = rw c.run_len.ensures.run at c.split_at.ensures.back in
    cut_first c.args.text.now c.split_at.result.1.now start c.run_len-len.result c.run_len-len.ensures.run
    c.split_at-2.result.0.now c.split_at-2.result.1.now (omega arith) c.split_at-2.ensures.front c.split_at-2.ensures.back
