-- Every reckoning keeps what the laws of a charge need.
use Rattle.theory.specs.Delays.{Lawful}
use Rattle.theory.specs.Reckonings.{reloads}
use Rattle.theory.proofs.Charging.{Keeps, keeps_e, keeps_u, keeps_v, keeps_x, reloads_lawful}
use Rattle.blocks.specs.declared.map.BlockMap.{BlockMap}
use Rattle.blocks.specs.Views.{blocks_of}
use Rattle.delay.specs.declared.reckoning.Reckoning.{Reckoning}
use Rattle.delay.specs.declared.reckoning.Reckoning.TheVariants.{EvictingOnly, UsefulOnly, UsefulUnion, EvictingUnion}
use Rattle.delay.specs.Reckonings.{lost_by}

pub keeps : (r : Reckoning) → Keeps (lost_by r)
keeps EvictingOnly = keeps_e
keeps UsefulOnly = keeps_u
keeps UsefulUnion = keeps_v
keeps EvictingUnion = keeps_x

-- so a charge over any map keeps them
pub reckoned_lawful : (r : Reckoning) (m : BlockMap) → Lawful (reloads (lost_by r) (blocks_of m))
reckoned_lawful r m = reloads_lawful (lost_by r) (keeps r) (blocks_of m) m.small
