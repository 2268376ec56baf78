-- The program's block map as plain figures.
use Rattle.std.specs.Prelude.{◌-◌, ◌&&◌, slice_index_or}
use Rattle.theory.specs.Blocks.{Blocks}
use Rattle.theory.specs.Figures.{priorities, within}
use Rattle.blocks.specs.declared.map.BlockMap.{BlockMap}
use Rattle.blocks.specs.Footprints.{no_footprint}
use Rattle.blocks.specs.Members.{has}

-- no row has a block outside 1 to 32
abbrev pub blocks_of : BlockMap → Blocks
blocks_of m =
    record {
      reload = m.reload;
      evicting = λ p s. within priorities p && has (slice_index_or m.footprints (p - 1) no_footprint).evicting s;
      useful = λ p s. within priorities p && has (slice_index_or m.footprints (p - 1) no_footprint).useful s;
    }
