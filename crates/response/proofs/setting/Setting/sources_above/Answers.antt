use Rattle.std.proofs.Common.{refl, arith}
use Rattle.response.proofs.Lining.{gathered_none, gathered_skip, gathered_below, gathered_from}
use Rattle.response.proofs.setting.Setting.sources_above.Goals as goal
use Rattle.response.proofs.setting.Setting.sources_above.Goals.{in-Some+then-j-threshold, in-Some+else-j-threshold, in_default}

pub loop-j-init : goal.loop-j-init
loop-j-init g c = gathered_none _ _ _ _ refl

pub loop-j-preserved : goal.loop-j-preserved
loop-j-preserved g c =
    let l = c.loop-j in
    let o = c.in_ok-source.field-0 in
    elim c.match-branch-2.branch [
      | in-Some+then-j-threshold w ↦
          rw (w.sources-is, w.len-is, w.preempting-is)
          (gathered_below _ _ _ l.j l.sources l.preempting l.len w.in-Some.source o l.auto.j (omega arith) l.invariant c.in_ok-source.ensures w.in-Some.is w.if-j-threshold.true)
      | in-Some+else-j-threshold w ↦
          rw (w.sources-is, w.len-is, w.preempting-is)
          (gathered_from _ _ _ l.j l.sources l.preempting l.len w.in-Some.source o l.auto.j (omega arith) l.invariant c.in_ok-source.ensures w.in-Some.is w.if-j-threshold.false)
      | in_default w ↦ rw (w.sources-is, w.len-is, w.preempting-is) (gathered_skip _ _ _ l.j _ o l.auto.j l.invariant c.in_ok-source.ensures w.in_default.is)
    ]
