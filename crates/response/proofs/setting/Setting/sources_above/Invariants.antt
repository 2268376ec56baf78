use Rattle.sheet.specs.Views.{table_of}
use Rattle.delay.specs.Blockers.{blocker_of}
use Rattle.response.specs.Gathering.{charges_in, Gathered}
use Rattle.response.proofs.setting.Setting.sources_above.Given as goal

abbrev pub invariant-loop-j : goal.invariant-loop-j
invariant-loop-j g l =
    Gathered (table_of l.self.sheet.now) (charges_in (g.M.DelayModel.charge l.self.model.now) l.self.column.now l.pair.row.0 (blocker_of l.pair.blocker)) l.threshold l.j
    (record { sources = l.sources; preempting = l.preempting; len = l.len })
