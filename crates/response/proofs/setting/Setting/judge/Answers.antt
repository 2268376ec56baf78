use Rattle.theory.specs.Delays.{Lawful}
use Rattle.response.specs.Verdicts.{verdict_of}
use Rattle.response.proofs.Casing.{case_regular, case_judged}
use Rattle.response.proofs.setting.Setting.judge.Goals as goal

pub invariant_of-case-clause-regular : goal.invariant_of-case-clause-regular
invariant_of-case-clause-regular g c =
    let x = c.args.self.now in
    let m = x.model.now in
    let laws : Lawful (g.M.DelayModel.charge m) = record { monotone = g.met.M.DelayModel.monotone m; bounded = g.met.M.DelayModel.bounded m } in
    case_regular x.sheet.now (g.M.DelayModel.charge m) laws x.column.now c.args.pair.row.0 _ c.args.own c.requires x.fits c.in-Ok.above
    c.blocking.result c.threshold.result c.in-Ok.ensures _ _ c.blocking.ensures.value c.threshold.ensures c.split_at.ensures.front c.split_at.ensures.back

pub returns : goal.returns
returns g c =
    let x = c.args.self.now in
    let m = x.model.now in
    let laws : Lawful (g.M.DelayModel.charge m) = record { monotone = g.met.M.DelayModel.monotone m; bounded = g.met.M.DelayModel.bounded m } in
    case_judged x.sheet.now (g.M.DelayModel.charge m) laws x.column.now c.args.pair.row.0 _ c.args.own c.requires x.fits c.in-Ok.above
    c.blocking.result c.threshold.result c.in-Ok.ensures _ _ c.blocking.ensures.value c.threshold.ensures c.split_at.ensures.front c.split_at.ensures.back
    (verdict_of c.outcome.result) c.outcome.ensures
