use Rattle.std.proofs.Common.{◌≡◌}
use Rattle.theory.specs.Delays.{affected, some_to}
use Rattle.delay.specs.Blockers.{blocker_of}
use Rattle.delay.proofs.question.Question.any_affected.Given as goal

abbrev pub invariant-loop-t : goal.invariant-loop-t
invariant-loop-t l = l.some ≡ some_to (affected l.self.pair.row.0 (blocker_of l.self.pair.blocker) l.self.preempting.0 l.self.column.now) l.t
