use Rattle.std.proofs.Common.{◌&&◌, ◌∙◌, ap₂}
use Rattle.delay.proofs.question.Question.affected_rows.Goals as goal

pub returns : goal.returns
returns c k l = c.intersection.ensures k ∙ ap₂ ◌&&◌ (c.pre_empted_by.ensures k l) (c.judged_rows.ensures k l)
