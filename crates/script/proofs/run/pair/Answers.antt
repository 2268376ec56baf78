use Rattle.std.proofs.Common.{vec_items, arith}
use Rattle.script.proofs.Replying.{replied_more, replied_all}
use Rattle.script.proofs.run.pair.Goals as goal

pub loop-line-preserved : goal.loop-line-preserved
loop-line-preserved c =
    replied_more c.args.lines.now c.loop-line.line-index _ c.args.answers.now c.loop-line.left.rest.now c.reply_to.new.answers.rest.now
    (vec_items c.loop-line.replies) (vec_items c.push.new.self) c.reply_to.result (omega arith) c.loop-line.invariant c.reply_to.ensures.reply
    c.reply_to.ensures.rest c.in_ok-push.ensures.items

pub returns : goal.returns
returns c = replied_all c.args.lines.now c.loop-line.line-index c.args.answers.now c.loop-line.left.rest.now (vec_items c.loop-line.replies) (omega arith) c.loop-line.invariant
