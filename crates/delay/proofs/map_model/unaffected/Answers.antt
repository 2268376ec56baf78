use Rattle.theory.proofs.Charging.{reloads_none}
use Rattle.blocks.specs.Views.{blocks_of}
use Rattle.delay.specs.Reckonings.{lost_by}
use Rattle.delay.specs.Keeping.{keeps}
use Rattle.delay.proofs.map_model.unaffected.Goals as goal

pub returns : goal.returns
returns c =
    let m = c.args.m.now in
    reloads_none (lost_by m.reckoning) (keeps m.reckoning) (blocks_of m.map)
