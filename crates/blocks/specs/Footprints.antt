-- The useful sets of a row are among its evicting sets.
use Rattle.std.specs.Prelude.{[]}
use Rattle.theory.specs.Sets.{Inside, cache_sets}
use Rattle.blocks.specs.declared.footprint.Footprint.{Footprint}
use Rattle.blocks.specs.Members.{has}

abbrev pub no_footprint : Footprint
no_footprint = record { evicting = record { words = [] }; useful = record { words = [] } }

-- every useful set is evicting
abbrev pub Nested : Footprint → Type 0
Nested f = Inside cache_sets (has f.useful) (has f.evicting)
