use Rattle.sheet.specs.Views.{table_of}
use Rattle.sheet.proofs.Soundness.{sound_table}
use Rattle.theory.proofs.Findings.{jobs_run_lem}
use Rattle.response.proofs.laws.jobs_run.Goals as goal

pub returns : goal.returns
returns g c =
    let s = c.args.sheet.now in
    let m = c.args.model.now in
    jobs_run_lem (table_of s) (sound_table s) (g.M.DelayModel.charge m) (record { monotone = g.met.M.DelayModel.monotone m; bounded = g.met.M.DelayModel.bounded m })
