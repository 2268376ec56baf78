-- The ticks that rows above take.
use Rattle.std.specs.Prelude.{ℕ, ◌*◌, List, sum_by}
use Rattle.theory.specs.Arrivals.{before}
use Rattle.names.specs.Timings.{timing_of}
use Rattle.response.specs.declared.source.Source.{Source}

-- for the jobs that are released before x
unfoldable pub source_ticks : ℕ → Source → ℕ
source_ticks x s = before (timing_of s.row.timing) x * s.price

unfoldable pub ticks_of : List Source → ℕ → ℕ
ticks_of sources x = sum_by (source_ticks x) sources
