use Rattle.theory.proofs.Charging.{sharper}
use Rattle.blocks.specs.Views.{blocks_of}
use Rattle.delay.proofs.map_model.sharper.Goals as goal

pub returns : goal.returns
returns c = sharper (blocks_of c.args.map.now)
