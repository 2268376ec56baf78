use Rattle.std.proofs.Common.{ℕ, ◌+◌, min, sym, ◌∙◌, ap₂}
use Rattle.theory.specs.Delays.{too_much}
use Rattle.theory.proofs.Charging.{switched_none, switched_some}
use Rattle.delay.specs.Blockers.{blocker_of}
use Rattle.delay.proofs.switch.SwitchDelayModel.charge_of.Goals as goal

pub returns-then-any_affected : goal.returns-then-any_affected
returns-then-any_affected g c =
    let q = c.args.question.now in
    let s = c.args.self.now in
    c.min.ensures ∙ ap₂ (λ (x y : ℕ). min (x + y) too_much) c.charge_of-below.ensures (c.from.ensures ∙ c.ticks.ensures.value)
    ∙ sym (switched_some s.cost.ticks (g.M.DelayModel.charge s.below) q.pair.row.0 (blocker_of q.pair.blocker) q.preempting.0 q.column.now (sym c.if-not-in_range.ensures) (sym c.if-any_affected.ensures))

pub returns-else-any_affected : goal.returns-else-any_affected
returns-else-any_affected g c =
    let q = c.args.question.now in
    let i = q.pair.row.0 in
    let b = blocker_of q.pair.blocker in
    let j = q.preempting.0 in
    let s = c.args.self.now in
    c.charge_of-below.ensures
    ∙ sym (switched_none s.cost.ticks (g.M.DelayModel.charge s.below) i b j q.column.now (sym c.if-not-in_range.ensures) (sym c.if-any_affected.ensures) (g.met.M.DelayModel.bounded s.below i b j q.column.now))
