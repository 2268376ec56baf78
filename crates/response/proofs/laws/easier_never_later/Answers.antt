use Rattle.sheet.specs.Views.{table_of}
use Rattle.sheet.proofs.Soundness.{sound_table}
use Rattle.theory.proofs.Findings.{easier}
use Rattle.response.proofs.laws.easier_never_later.Goals as goal

pub returns : goal.returns
returns g c =
    let s = c.args.sheet.now in
    let m = c.args.model.now in
    easier (table_of s) (sound_table s) (g.M.DelayModel.charge m) (record { monotone = g.met.M.DelayModel.monotone m; bounded = g.met.M.DelayModel.bounded m })
