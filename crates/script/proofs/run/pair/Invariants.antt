use Rattle.std.proofs.Common.{◌≡◌, ◌++◌, drop, vec_items}
use Rattle.script.specs.Replies.{replies_for}
use Rattle.script.proofs.run.pair.Given as goal

abbrev pub invariant-loop-line : goal.invariant-loop-line
invariant-loop-line l = vec_items l.replies ++ replies_for (drop l.line-index l.lines) l.left.rest.now ≡ replies_for l.lines l.answers
