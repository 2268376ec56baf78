-- Which blocks each reckoning counts.
use Rattle.std.specs.Prelude.{ℕ}
use Rattle.theory.specs.Sets.{Sets, intersection, size}
use Rattle.theory.specs.Blocks.{Blocks}
use Rattle.theory.specs.Reckonings.{Reckoned, lost_e, lost_u, lost_v, lost_x}
use Rattle.delay.specs.declared.reckoning.Reckoning.{Reckoning}
use Rattle.delay.specs.declared.reckoning.Reckoning.TheVariants.{EvictingOnly, UsefulOnly, UsefulUnion, EvictingUnion}

abbrev pub lost_by : Reckoning → Reckoned
lost_by EvictingOnly = lost_e
lost_by UsefulOnly = lost_u
lost_by UsefulUnion = lost_v
lost_by EvictingUnion = lost_x

-- how many of row k's useful sets are in x
unfoldable pub among_size : Blocks → Sets → ℕ → ℕ
among_size m x k = size (intersection (m.useful k) x)
