-- The right sides of the equations of a row, by its parts: the row, what the blocker contributes, the rows above that can
-- pre-empt it once it has started, and the other rows above.
use Rattle.std.specs.Prelude.{ℕ, ◌+◌, ◌*◌, List}
use Rattle.names.specs.Timings.{timing_of}
use Rattle.sheet.specs.declared.row.Row.{Row}
use Rattle.theory.specs.Arrivals.{before}
use Rattle.theory.specs.Equations.{Equations}
use Rattle.response.specs.declared.source.Source.{Source}
use Rattle.response.specs.Ticks.{ticks_of}

abbrev pub equations_in : Row → ℕ → List Source → List Source → Equations
equations_in own blocking preempting others =
    record {
      period = λ x. blocking + before (timing_of own.timing) x * own.timing.run_time + (ticks_of preempting x + ticks_of others x);
      start = λ k s. blocking + k * own.timing.run_time + (ticks_of preempting (s + 1) + ticks_of others (s + 1));
      finish = λ k s x. blocking + (k + 1) * own.timing.run_time + (ticks_of others (s + 1) + ticks_of preempting x);
    }
