use Rattle.theory.proofs.Charging.{alike_charged}
use Rattle.delay.proofs.model.alike.Goals as goal

pub returns : goal.returns
returns g c =
    let m = c.args.m.now in
    let met = g.met.M.DelayModel in
    alike_charged (g.M.DelayModel.charge m) (record { monotone = met.monotone m; bounded = met.bounded m })
