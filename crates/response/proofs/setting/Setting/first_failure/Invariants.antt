use Rattle.sheet.specs.Views.{table_of}
use Rattle.response.specs.Testing.{PassesTo}
use Rattle.response.proofs.setting.Setting.first_failure.Given as goal

abbrev pub invariant-loop-p : goal.invariant-loop-p
invariant-loop-p g l = PassesTo (table_of l.self.sheet.now) (g.M.DelayModel.charge l.self.model.now) l.self.column.now l.p 0

abbrev pub invariant-loop-b : goal.invariant-loop-b
invariant-loop-b g l = PassesTo (table_of l.self.sheet.now) (g.M.DelayModel.charge l.self.model.now) l.self.column.now l.p l.b
