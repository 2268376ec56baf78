use Rattle.std.proofs.Common.{◌≡◌, sym, ◌∙◌, rules}
use Rattle.sheet.specs.Views.{table_of}
use Rattle.theory.proofs.Findings.{told_from}
use Rattle.delay.specs.Blockers.{blocker_of}
use Rattle.response.specs.Verdicts.{verdict_of}
use Rattle.response.proofs.Testing.{pairs_pass}
use Rattle.response.proofs.setting.Setting.first_failure.Goals as goal

pub loop-b-preserved : goal.loop-b-preserved
loop-b-preserved g c =
    let x = c.args.self.now in
    let rows = table_of x.sheet.now in
    let charge = g.M.DelayModel.charge x.model.now in
    let v = verdict_of c.judge-outcome.result in
    let named : blocker_of c.then_some.result ≡ c.loop-b.b = search rules in
    pairs_pass rows charge x.column.now c.loop-p.p c.loop-b.b c.loop-b.invariant v
    (told_from rows charge x.column.now c.loop-p.p c.loop-b.b v (rows c.loop-p.p) _ (sym c.in-Some.ensures.value) (rw named at c.judge-outcome.ensures))
    (sym c.passes.ensures ∙ c.if-not-passes.false)
